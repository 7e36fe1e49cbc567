-- The first k buffers, written back: which lengths stay, and that links and counts play no part.
use Prim.Native.Nat.{ℕ, zero, suc, ◌+◌, ◌*◌, ◌≤◌, ◌<◌}
use mathlib.Core.Path.{◌≡◌, refl, ◌∙◌, ap}
use mathlib.Core.Bool.{Bool, true, false, cond}
use mathlib.Core.List.{List, []}
use native.Mathlib.Numerals.{add-one}
use native.Mathlib.Omega.{arith}
use lib.ListN.{length, length-set}
use Rattle.laws.specs.First.{Found, found, missing}
use Rattle.laws.proofs.Block.{block_in, length-block, length-put_block}
use Rattle.bufmodel.specs.Word.{dirty}
use Rattle.bufmodel.specs.Checksum.{sealed}
use Rattle.bufmodel.specs.Rows.{store_blocks, place_of}
use Rattle.bufmodel.specs.Memory.{Memory, memory, buffers, size, word_of, name_of, page_of, with_counts}
use Rattle.bufmodel.specs.Moves.{put_at, write_back, write_up_to}
use Rattle.bufmodel.proofs.GoodLaws.{Good}
use Rattle.bufmodel.proofs.ChecksumLaws.{length-sealed}
use Rattle.bufmodel.proofs.RowsLaws.{place-in}
use Rattle.bufmodel.proofs.SizesLaws.{rows-say, sized-least}
use Rattle.bufmoves.specs.Back.{Backed}
use Rattle.bufcalls.specs.Checkpoint.{Stored}

-- ---- what is asked for
-- the memory without its links and counts
abbrev pub bare : Memory → Memory
bare m = memory m.control m.states m.names m.pool [] [] [] m.rows m.store

pub good-stored : (m : Memory) → Good m → Stored (bare m)
good-stored m g =
    let s = g.sizes in
    record {
      page = omega (arith, sized-least s);
      names = s.names;
      pool = s.pool;
      rows = (rows-say m.rows).shown s.rows;
      store = s.store;
    }

pub stored-backed : (m : Memory) → Stored m → (i : ℕ) → i < buffers m
    → Backed (memory m.control [] m.names m.pool [] [] [] m.rows m.store) i
stored-backed m s i h =
    record {
      page = s.page;
      name = omega (arith, s.names);
      pool = block_in (size m) (buffers m) i m.pool s.pool h;
      rows = s.rows;
      store = s.store;
    }

-- ---- one buffer
length-cond : (t : Bool) (a b : List ℕ) → length a ≡ length b → length (cond t a b) ≡ length b
length-cond true a b e = e
length-cond false a b e = refl

length-put_at : (p n : ℕ) (page store : List ℕ) → length store ≡ n * p → length page ≡ p → (f : Found)
    → ((g : ℕ) → f ≡ found g → g < n)
    → length (put_at p page store f) ≡ length store
unfolding put_at
length-put_at p n page store e l (found g) h = length-put_block p n page store e l g (h g refl)
length-put_at p n page store e l missing h = refl

module _ (m : Memory) (s : Stored m) (i : ℕ) (h : i < buffers m) where
  back-store : length (write_back m i).store ≡ length m.store
  unfolding write_back
  back-store =
      let long = length-block (size m) (buffers m) i m.pool s.pool h in
      let number = (name_of m i).block.0 in
      length-cond (dirty (word_of m i)) _ m.store
      (length-put_at (size m) (store_blocks m.rows) (sealed number (page_of m i)) m.store s.store
      (length-sealed number (page_of m i) (omega (arith, long, s.page)) ∙ long) (place_of m.rows (name_of m i))
      (λ g e. place-in m.rows ((rows-say m.rows).holds s.rows) (name_of m i) e))

  back-states : length (write_back m i).states ≡ length m.states
  unfolding write_back
  back-states = length-set m.states i _

  back-stored : Stored (write_back m i)
  unfolding write_back
  back-stored =
      record {
        page = s.page;
        names = rw back-states s.names;
        pool = rw back-states s.pool;
        rows = s.rows;
        store = back-store ∙ s.store;
      }

-- ---- the first k
-- what stays
pub record UpTo (m : Memory) (k : ℕ) : Type 0 where
  pub states : length (write_up_to k m).states ≡ length m.states
  pub store : length (write_up_to k m).store ≡ length m.store
  pub stored : Stored (write_up_to k m)

pub up_none : (m : Memory) → m ≡ write_up_to 0 m
unfolding write_up_to
up_none m = refl

pub up_more : (m : Memory) (k : ℕ) → write_back (write_up_to k m) k ≡ write_up_to (k + 1) m
unfolding write_up_to
up_more m k = rw add-one

pub up_to : (m : Memory) → Stored m → (k : ℕ) → k ≤ buffers m → UpTo m k
unfolding write_up_to
up_to m s zero h = record { states = refl; store = refl; stored = s }
up_to m s (suc k) h =
    let u = up_to m s k (omega arith) in
    let l : k < buffers (write_up_to k m) = omega (arith, u.states) in
    record {
      states = back-states (write_up_to k m) u.stored k l ∙ u.states;
      store = back-store (write_up_to k m) u.stored k l ∙ u.store;
      stored = back-stored (write_up_to k m) u.stored k l;
    }

-- a memory with another's links and counts
abbrev pub linked : Memory → Memory → Memory
linked m x =
    with_counts m.counts
    (memory x.control x.states x.names x.pool m.free m.heads m.chain x.rows x.store)

back-linked : (m x : Memory) (i : ℕ) → write_back (linked m x) i ≡ linked m (write_back x i)
unfolding write_back
back-linked m x i = refl

pub up-linked : (m : Memory) (k : ℕ) → write_up_to k m ≡ linked m (write_up_to k (bare m))
unfolding write_up_to
up-linked m zero = refl
up-linked m (suc k) =
    ap (λ (x : Memory). write_back x k) (up-linked m k) ∙ back-linked m (write_up_to k (bare m)) k
