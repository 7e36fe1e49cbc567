-- Another block count in a file's row keeps the memory good: one block more, or none where no buffer has a page of the file.
use Prim.Native.Nat.{ℕ, suc, ◌*◌, ◌≤◌, ◌<◌}
use mathlib.Core.Path.{◌≡◌, refl, sym, ap, ◌∙◌}
use mathlib.Core.Bool.{false}
use mathlib.Core.List.{List}
use native.Mathlib.Omega.{arith}
use lib.ListN.{length}
use Rattle.laws.specs.First.{found}
use Rattle.laws.proofs.First.{found-same}
use Rattle.bufmodel.specs.Rows.{file_at, blocks_at, capacity_at, set_blocks, row_of, store_blocks, place_of}
use Rattle.bufmodel.specs.Memory.{Memory, buffers, size, name_of, with_rows, with_store}
use Rattle.bufmodel.specs.Sizes.{RowsSound}
use Rattle.bufmodel.specs.Books.{empty_at}
use Rattle.bufmodel.proofs.GoodLaws.{Good}
use Rattle.bufmodel.proofs.RowsLaws.{row-found, place_found, store-set, rows-set, place_kept}

module _ (m : Memory) (k : Good m) where
  -- other rows that are sound, with a store to match, where the pages in the buffers still are pages
  rows-good : (rows store : List ℕ) → RowsSound rows → length store ≡ store_blocks rows * size m
      → ((i : ℕ) → i < buffers m → empty_at m i ≡ false → (g : ℕ) × (place_of rows (name_of m i) ≡ found g))
      → Good (with_store store (with_rows rows m))
  unfolding empty_at
  rows-good rows store sound e pages =
      let s = k.sizes in
      let b = k.books in
      record {
        sizes = record {
          permitted = s.permitted;
          least = s.least;
          most = s.most;
          wide = s.wide;
          heads = s.heads;
          names = s.names;
          pool = s.pool;
          free = s.free;
          chain = s.chain;
          rows = sound;
          store = e;
          counts = s.counts;
        };
        books = record {
          cap = b.cap;
          hand = b.hand;
          log = b.log;
          words = b.words;
          blank = b.blank;
          free = b.free;
          off = b.off;
          distinct = b.distinct;
          page = pages;
          chains = b.chains;
          low = b.low;
          counts = b.counts;
        };
      }

  -- another block count that is within the capacity, and above the blocks that are in buffers
  blocks-good : (r b : ℕ) → b ≤ capacity_at m.rows r
      → ((i : ℕ) → i < buffers m → empty_at m i ≡ false → row_of m.rows (name_of m i).file ≡ found r → (name_of m i).block.0 < b)
      → (store : List ℕ) → length store ≡ length m.store → Good (with_store store (with_rows (set_blocks m.rows r b) m))
  blocks-good r b fits above store e =
      rows-good (set_blocks m.rows r b) store (rows-set m.rows r b fits k.sizes.rows)
      (e ∙ rw (store-set m.rows r b) k.sizes.store)
      (λ i l h.
      let p = k.books.page i l h in
      (p.0, place_kept m.rows r b (name_of m i) p.1 (above i l h)))

-- one block more, in a file that is not full, with whatever the store then holds
pub extend-good : (m : Memory) → Good m → (r : ℕ) → blocks_at m.rows r < capacity_at m.rows r
    → (store : List ℕ) → length store ≡ length m.store
    → Good (with_store store (with_rows (set_blocks m.rows r (suc (blocks_at m.rows r))) m))
extend-good m k r room store e =
    blocks-good m k r (suc (blocks_at m.rows r)) room
    (λ i l h q.
    let p = place_found m.rows (name_of m i) (k.books.page i l h).1 in
    omega (arith, p.2, ap (blocks_at m.rows) (found-same (sym p.1 ∙ q))))
    store e

-- no block left, where no buffer has a page of the file
pub clear-good : (m : Memory) → Good m → (r : ℕ)
    → ((i : ℕ) → i < buffers m → empty_at m i ≡ false → (name_of m i).file ≡ file_at m.rows r → ⊥)
    → Good (with_rows (set_blocks m.rows r 0) m)
clear-good m k r none =
    blocks-good m k r 0 (omega arith)
    (λ i l h q. absurd (none i l h (sym (row-found m.rows (name_of m i).file q).1))) m.store refl
