-- Demand 1: every call is accepted exactly under the conditions of document 01's table, for every input and every state of the lent memory.
-- A refused call gives its number and changes nothing in the pool, the store or the caller's buffer.
use Rattle.std.specs.Prelude.{ℕ, ◌+◌, ◌*◌, ◌%◌, ◌≡◌, ◌≢◌, Bool, false, not, ◌&&◌, ◌||◌, List, [], ◌∷◌, length, get_or, eqb, leb, ltb}
use Rattle.laws.specs.Every.{all, any}
use Rattle.laws.specs.First.{Found, found, missing}
use Rattle.laws.specs.Block.{block}
use Rattle.buftag.specs.Lookup.{Held}
use Rattle.std.specs.Prelude.{Some, None}
use Rattle.buftag.specs.declared.name.PageName.{PageName}
use Rattle.bufmodel.specs.Position.{position}
use Rattle.bufmodel.specs.Rows.{blocks_at, capacity_at, row_of, place_of}
use Rattle.bufmodel.specs.Memory.{Memory, buffers, size, word_of, page_of}
use Rattle.bufmodel.specs.Books.{BooksSound}
use Rattle.bufmodel.specs.Outcome.{Place, place, zeros}
use Rattle.bufmodel.specs.Pin.{held_in}
use Rattle.bufmodel.specs.Step.{
  Call,
  Pin,
  Unpin,
  Read,
  Write,
  Flush,
  GiveBack,
  Checkpoint,
  Peek,
  Extend,
  Drop,
  LogInserted,
  LogFlushed,
  step,
}
use Rattle.bufmodel.specs.Lent.{Lent, Called, opened}
use Rattle.shelf.specs.Sums.{fails}
use Rattle.shelf.specs.Shelf.{first_of, no_file}
use Rattle.shelf.specs.Published.{filed}
use Rattle.shelf.specs.Statement.{own, Lends, SetsUp, Pool, calling}

-- ---- the table, below the places of all calls: conditions on the memory
module _ (m : Memory) where
  -- the pin count, bits 0 to 17
  abbrev pub pin_count : ℕ → ℕ
  pin_count i = word_of m i % 262144

  -- holder h's private count of buffer i
  abbrev pub private_count : ℕ → ℕ → ℕ
  private_count i h = get_or m.counts (i * 64 + h) 0

  -- 4, block ≥ blocks
  unfoldable pub block_past : ℕ → Found → Bool
  block_past b (found r) = leb (blocks_at m.rows r) b
  block_past b missing = false

  -- 17, not held, the block's checksum differs
  unfoldable pub sum_wrong : PageName → Found → Held → Bool
  sum_wrong n (found g) None = fails n.block.0 (block (size m) g m.store)
  sum_wrong n (found g) (Some b) = false
  sum_wrong n missing h = false

  -- 5, held, this holder's count is full; 6, not held, every buffer pinned
  unfoldable pub pins_full : ℕ → Held → Bool
  pins_full h (Some b) = eqb (private_count b.0 h) 65535
  pins_full h None = false

  unfoldable pub all_pinned : Held → Bool
  all_pinned (Some b) = false
  all_pinned None = all (buffers m) (λ i. not (eqb (pin_count i) 0))

  -- 13, blocks = capacity
  unfoldable pub row_full : Found → Bool
  row_full (found r) = eqb (blocks_at m.rows r) (capacity_at m.rows r)
  row_full missing = false

  unfoldable pub page_checks : PageName → List Place → List Place
  page_checks n later =
      let r = row_of m.rows n.file in
      place 3 (no_file r)
      ∷ place 4 (block_past n.block.0 r)
      ∷ place 17 (sum_wrong n (place_of m.rows n) (held_in m n))
      ∷ later

  -- 19, holder 64 or above; 7, ≥ N; 8, this holder has no pin on the buffer
  unfoldable pub buffer_checks : ℕ → ℕ → List Place → List Place
  buffer_checks h b later = place 19 (leb 64 h) ∷ place 7 (leb (buffers m) b) ∷ place 8 (eqb (private_count b h) 0) ∷ later

  unfoldable pub table : Call → List Place
  table (Pin h n) =
      let b = held_in m n in
      place 19 (leb 64 h) ∷ page_checks n (place 5 (pins_full h b) ∷ place 6 (all_pinned b) ∷ [])
  table (Unpin h b) = buffer_checks h b []
  table (Read h b from out) = buffer_checks h b (place 9 (ltb (size m) (from + length out)) ∷ [])
  table (Write h b from bytes at) =
      buffer_checks h b
      (place 9 (ltb (size m) (from + length bytes) || ltb from 8)
      ∷ place 10 (eqb (length bytes) 0)
      ∷ place 11 (ltb m.control.inserted at)
      ∷ place 12 (ltb at (position (page_of m b)))
      ∷ [])
  table (Flush h b) = buffer_checks h b []
  table (GiveBack h) = place 19 (leb 64 h) ∷ []
  table Checkpoint = []
  table (Peek n) = page_checks n []
  table (Extend f) = let r = row_of m.rows f in place 3 (no_file r) ∷ place 13 (row_full r) ∷ []
  -- 14, one of its pages pinned
  table (Drop f) =
      place 3 (no_file (row_of m.rows f)) ∷ place 14 (any (buffers m) (λ i. filed m f i && not (eqb (pin_count i) 0))) ∷ []
  table (LogInserted p) = place 15 (ltb p m.control.inserted) ∷ []
  table (LogFlushed p) = place 16 (ltb m.control.inserted p) ∷ []

-- ---- a call over any lent memory, with any answer slice
-- the number and this answer, and nothing changed
abbrev pub Refuses : ℕ → List ℕ → Lent → List ℕ → Called → Type 0
Refuses k bytes m answer r = r ≡ record { result = k; answer = answer; bytes = bytes; lent = m }

-- lengths and rows keep the rules
abbrev pub Fitting : Lent → Type 0
Fitting m = Lends m (size (opened m))

pub record Guards (c : Call) (m : Lent) (answer : List ℕ) (r : Called) : Type 0 where
  -- an answer slice of another length gives 1 and stays untouched
  pub slice : length answer ≢ 4 → Refuses 1 (own c) m answer r
  -- 1, sizes or rows break a rule; 2, not sound
  pub sizes : length answer ≡ 4 → (Fitting m → ⊥) → Refuses 1 (own c) m zeros r
  pub books : length answer ≡ 4 → Fitting m → (BooksSound (opened m) → ⊥) → Refuses 2 (own c) m zeros r
  -- 3 to 17 and 19, checked downwards in the table's order, and 0 where none refuses
  pub number : length answer ≡ 4 → Fitting m → BooksSound (opened m) → r.result ≡ first_of (table (opened m) c)
  pub refused : length answer ≡ 4 → r.result ≢ 0 → Refuses r.result (own c) m zeros r

pub record GuardsSetUp (m : Lent) (p at cap : ℕ) (answer : List ℕ) (r : Called) : Type 0 where
  pub slice : length answer ≢ 4 → Refuses 1 [] m answer r
  -- 1, sizes or rows; 18, the cap
  pub sizes : length answer ≡ 4 → SetsUp m p at cap r

-- DEMAND 1, of a pool
pub record Demand1For (pool : Pool) : Type 0 where
  pub sets_up : (p at cap : ℕ) (m : Lent) (answer : List ℕ) → GuardsSetUp m p at cap answer (pool.sets_up p at cap m answer)
  pub calls : (c : Call) (m : Lent) (answer : List ℕ) → Guards c m answer (pool.calls c m (own c) answer)

-- and of this one
abbrev pub Demand1 : Type 0
Demand1 = Demand1For (calling step)
