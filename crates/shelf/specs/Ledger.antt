-- The ledger: the shelf, what the calls so far did to the log and the store, and the cap given at set up. One function for each sentence of
-- document 01.
use Rattle.std.specs.Prelude.{ℕ, zero, suc, max, Bool, false, not, ◌&&◌, ◌||◌, cond, List, get_or, eqb}
use Rattle.laws.specs.First.{Found, found, missing}
use Rattle.bufmodel.specs.Position.{position}
use Rattle.bufmodel.specs.Rows.{row_of, store_blocks, place_of}
use Rattle.bufmodel.specs.Memory.{Memory}
use Rattle.bufmodel.specs.Step.{
  Call,
  Pin,
  Unpin,
  Read,
  Write,
  Flush,
  GiveBack,
  Checkpoint,
  Peek,
  Extend,
  Drop,
  LogInserted,
  LogFlushed,
}
use Rattle.shelf.specs.Shelf.{Shelf, with, in_row, first_shelf, next_block, shelf_after}

pub record Ledger : Type 0 where
  pub shelf : Shelf
  -- the pages that are dirty
  pub dirty : ℕ → Bool
  -- the page that a pin last got at a buffer number
  pub last : ℕ → Found
  -- the largest of the set-up's, log flushed calls' and written-back pages' positions so far
  pub flushed : ℕ
  -- the blocks put into the store so far
  pub put : ℕ → Bool
  -- the greatest usage count, as it was given at set up: no call changes it
  pub cap : ℕ

unfoldable pub first_ledger : Memory → ℕ → ℕ → ℕ → Ledger
first_ledger m p at cap =
    record { shelf = first_shelf m p at; dirty = λ g. false; last = λ b. missing; flushed = at; put = λ g. false; cap = cap }

-- this place and no other
unfoldable pub is_place : Found → ℕ → Bool
is_place (found h) g = eqb g h
is_place missing g = false

-- the parts of a pin's answer: the buffer number, and whether it wrote
unfoldable pub buffer_in : List ℕ → ℕ
buffer_in answer = get_or answer 0 0

unfoldable pub wrote_in : List ℕ → Bool
wrote_in answer = eqb (get_or answer 2 0) 1

module _ (l : Ledger) where
  -- Written back are the dirty page whose buffer an accepted flush names, every dirty page at an accepted checkpoint, and,
  -- at a pin that answers wrote, the page that an earlier pin last got at the number answered
  unfoldable pub back_by : Call → List ℕ → ℕ → Bool
  back_by (Pin h n) answer g = wrote_in answer && is_place (l.last (buffer_in answer)) g
  back_by (Unpin h i) answer g = false
  back_by (Read h i from out) answer g = false
  back_by (Write h i from bytes at) answer g = false
  back_by (Flush h i) answer g = is_place (l.shelf.holds i) g && l.dirty g
  back_by (GiveBack h) answer g = false
  back_by Checkpoint answer g = l.dirty g
  back_by (Peek n) answer g = false
  back_by (Extend f) answer g = false
  back_by (Drop f) answer g = false
  back_by (LogInserted p) answer g = false
  back_by (LogFlushed p) answer g = false

  -- the new block of an accepted extend
  unfoldable pub new_at : Found → ℕ → Bool
  new_at (found r) g = eqb g (next_block l.shelf r)
  new_at missing g = false

  unfoldable pub new_by : Call → ℕ → Bool
  new_by (Pin h n) g = false
  new_by (Unpin h i) g = false
  new_by (Read h i from out) g = false
  new_by (Write h i from bytes at) g = false
  new_by (Flush h i) g = false
  new_by (GiveBack h) g = false
  new_by Checkpoint g = false
  new_by (Peek n) g = false
  new_by (Extend f) g = new_at (row_of l.shelf.rows f) g
  new_by (Drop f) g = false
  new_by (LogInserted p) g = false
  new_by (LogFlushed p) g = false

  -- put into the store are the pages written back and the new block of each accepted extend
  unfoldable pub put_by : Call → List ℕ → ℕ → Bool
  put_by c answer g = back_by c answer g || new_by c g

  -- a page is dirty from an accepted write until it is written back or its file is dropped
  unfoldable pub dirtied_by : Call → ℕ → Bool
  dirtied_by (Pin h n) g = l.dirty g
  dirtied_by (Unpin h i) g = l.dirty g
  dirtied_by (Read h i from out) g = l.dirty g
  dirtied_by (Write h i from bytes at) g = is_place (l.shelf.holds i) g || l.dirty g
  dirtied_by (Flush h i) g = l.dirty g
  dirtied_by (GiveBack h) g = l.dirty g
  dirtied_by Checkpoint g = l.dirty g
  dirtied_by (Peek n) g = l.dirty g
  dirtied_by (Extend f) g = l.dirty g
  dirtied_by (Drop f) g = not (in_row l.shelf.rows (row_of l.shelf.rows f) g) && l.dirty g
  dirtied_by (LogInserted p) g = l.dirty g
  dirtied_by (LogFlushed p) g = l.dirty g

  unfoldable pub dirty_after : Call → List ℕ → ℕ → Bool
  dirty_after c answer g = not (back_by c answer g) && dirtied_by c g

  -- the page that a pin last got at a number
  unfoldable pub last_after : Call → List ℕ → ℕ → Found
  last_after (Pin h n) answer = with (buffer_in answer) (place_of l.shelf.rows n) l.last
  last_after (Unpin h i) answer = l.last
  last_after (Read h i from out) answer = l.last
  last_after (Write h i from bytes at) answer = l.last
  last_after (Flush h i) answer = l.last
  last_after (GiveBack h) answer = l.last
  last_after Checkpoint answer = l.last
  last_after (Peek n) answer = l.last
  last_after (Extend f) answer = l.last
  last_after (Drop f) answer = l.last
  last_after (LogInserted p) answer = l.last
  last_after (LogFlushed p) answer = l.last

  -- the largest of a position and those of the pages below n that pass a test, as they are at this call
  unfoldable pub highest : ℕ → (ℕ → Bool) → ℕ → ℕ
  highest zero back p = p
  highest (suc n) back p = let so = highest n back p in cond (back n) (max so (position (l.shelf.bytes n))) so

  -- the position of an accepted log flushed, or the largest so far
  unfoldable pub said_flushed : Call → ℕ
  said_flushed (Pin h n) = l.flushed
  said_flushed (Unpin h i) = l.flushed
  said_flushed (Read h i from out) = l.flushed
  said_flushed (Write h i from bytes at) = l.flushed
  said_flushed (Flush h i) = l.flushed
  said_flushed (GiveBack h) = l.flushed
  said_flushed Checkpoint = l.flushed
  said_flushed (Peek n) = l.flushed
  said_flushed (Extend f) = l.flushed
  said_flushed (Drop f) = l.flushed
  said_flushed (LogInserted p) = l.flushed
  said_flushed (LogFlushed p) = max l.flushed p

  -- flushed is the largest of the set-up's, accepted log flushed calls' and written-back pages' positions
  unfoldable pub flushed_after : Call → List ℕ → ℕ
  flushed_after c answer = highest (store_blocks l.shelf.rows) (back_by c answer) (said_flushed c)

  unfoldable pub accepted_by : Call → List ℕ → Ledger
  accepted_by c answer =
      record {
        shelf = shelf_after l.shelf c (buffer_in answer);
        dirty = dirty_after c answer;
        last = last_after c answer;
        flushed = flushed_after c answer;
        put = λ g. put_by c answer g || l.put g;
        cap = l.cap;
      }

  -- the ledger after a call that ended so: a refused call changes nothing
  unfoldable pub ledger_after : Call → List ℕ → ℕ → Ledger
  ledger_after c answer zero = accepted_by c answer
  ledger_after c answer (suc k) = l

  -- the blocks that a call that ended so puts into the store
  unfoldable pub puts : Call → List ℕ → ℕ → ℕ → Bool
  puts c answer zero g = put_by c answer g
  puts c answer (suc k) g = false
