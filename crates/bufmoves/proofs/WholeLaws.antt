-- The moves that the code makes on a part of the memory are those of the whole; what they ask holds in memory that passes places 1 and 2.
use Prim.Native.Nat.{ℕ, ◌+◌, ◌*◌, ◌≤◌, ◌<◌}
use native.Mathlib.Nat.{mul-le-mul_right}
use native.Mathlib.Omega.{arith}
use mathlib.Core.Path.{◌≡◌, ap}
use mathlib.Core.Bool.{false}
use mathlib.Core.List.{List, []}
use lib.ListN.{length}
use lib.IntN.{ℤ}
use Rattle.laws.specs.First.{found}
use Rattle.buftag.specs.declared.name.PageName.{PageName}
use Rattle.bufmodel.specs.declared.control.Control.{Control}
use Rattle.bufmodel.specs.Rows.{place_of, store_blocks}
use Rattle.bufmodel.specs.Memory.{Memory, memory, buffers, size, with_counts}
use Rattle.bufmodel.specs.Books.{empty_at}
use Rattle.bufmodel.specs.Moves.{write_back, release, load_at}
use Rattle.bufmodel.proofs.SizesLaws.{rows-say, sized-least}
use Rattle.bufmodel.proofs.RowsLaws.{place-in}
use Rattle.bufmodel.proofs.HeldLaws.{full-used}
use Rattle.bufmodel.proofs.GoodLaws.{Good}
use Rattle.bufmoves.specs.Back.{Backed}
use Rattle.bufmoves.specs.Exchange.{Within, Chained, Lodged}

-- ---- the parts that are lent
abbrev pub back_part : Memory → Memory
back_part m = memory m.control m.states m.names m.pool [] [] [] m.rows m.store

abbrev pub release_part : Memory → Memory
release_part m = memory m.control m.states m.names [] m.free m.heads m.chain [] []

abbrev pub load_part : Memory → Memory
load_part m = memory m.control m.states m.names m.pool m.free m.heads m.chain [] m.store

-- ---- the moves
module _ (m : Memory) (i : ℕ) (c : Control) (states : List ℕ) where
  pub back_whole : (store : List ℕ) → memory c states m.names m.pool [] [] [] m.rows store ≡ write_back (back_part m) i
      → with_counts m.counts (memory c states m.names m.pool m.free m.heads m.chain m.rows store) ≡ write_back m i
  unfolding write_back
  back_whole store e =
      ap
      (λ (o : Memory).
      with_counts m.counts
      (memory o.control o.states m.names m.pool m.free m.heads m.chain m.rows o.store)) e

  pub release-whole : (names : List ℕ) (free heads chain : List ℤ)
      → memory c states names [] free heads chain [] [] ≡ release (release_part m) i
      → with_counts m.counts (memory c states names m.pool free heads chain m.rows m.store) ≡ release m i
  unfolding release
  release-whole names free heads chain e =
      ap
      (λ (o : Memory).
      with_counts m.counts
      (memory o.control o.states o.names m.pool o.free o.heads o.chain m.rows m.store)) e

  pub load-whole : (n : PageName) (g : ℕ) (names pool : List ℕ) (free heads chain : List ℤ)
      → memory c states names pool free heads chain [] m.store ≡ load_at (load_part m) n i g
      → with_counts m.counts (memory c states names pool free heads chain m.rows m.store) ≡ load_at m n i g
  unfolding load_at
  load-whole n g names pool free heads chain e =
      ap
      (λ (o : Memory).
      with_counts m.counts
      (memory o.control o.states o.names o.pool o.free o.heads o.chain m.rows m.store)) e

-- ---- what they ask
module _ (m : Memory) (k : Good m) (i : ℕ) (l : i < buffers m) where
  within : (pool rows store : List ℕ)
      → Within (memory m.control m.states m.names pool m.free m.heads m.chain rows store) i
  within pool rows store =
      let s = k.sizes in
      record {
        few = s.most;
        one = l;
        names = s.names;
        free = s.free;
        chain = s.chain;
        buckets = omega (arith, s.least, s.wide);
      }

  -- buffer i's page
  pub page-in : i * size m + size m ≤ length m.pool
  page-in = omega (arith, k.sizes.pool, mul-le-mul_right (size m) l)

  pub good-backed : Backed (memory m.control [] m.names m.pool [] [] [] m.rows m.store) i
  good-backed =
      let s = k.sizes in
      record {
        page = omega (arith, sized-least s);
        name = omega (arith, s.names);
        pool = page-in;
        rows = (rows-say m.rows).shown s.rows;
        store = s.store;
      }

  pub good-chained : empty_at m i ≡ false → Chained (release_part m) i
  good-chained full = record { within = within [] [] []; used = full-used m i full; sound = k.books.chains }

  pub good-lodged : (n : PageName) (g : ℕ) → place_of m.rows n ≡ found g → Lodged (load_part m) i g
  good-lodged n g place =
      let b : g < store_blocks m.rows = place-in m.rows k.sizes.rows n place in
      record {
        within = within m.pool [] m.store;
        page = page-in;
        block = omega (arith, k.sizes.store, mul-le-mul_right (size m) b);
      }
