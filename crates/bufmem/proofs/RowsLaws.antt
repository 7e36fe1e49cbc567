-- What the code of the rows shows, put together.
use Prim.Native.Nat.{ℕ, ◌+◌, ◌*◌, ◌%◌, ◌≤◌, ◌<◌}
use native.Mathlib.Omega.{arith}
use mathlib.Core.Path.{◌≡◌, sym, ap, ◌∙◌}
use mathlib.Core.Bool.{true, false}
use mathlib.Core.List.{List}
use mathlib.Core.Logic.{◌≢◌}
use lib.ListN.{length}
use borrow.Author.Tests.{eq-eqb, ne_eqb, le-leb, lt-leb}
use Rattle.buftag.specs.declared.name.FileName.{FileName}
use Rattle.laws.specs.Every.{all}
use Rattle.laws.specs.First.{found, missing}
use Rattle.buftag.specs.Name.{is_fork}
use Rattle.bufmodel.specs.Rows.{row_words, files, file_at, blocks_at, capacity_at, row_of, start_of, store_blocks}
use Rattle.bufmodel.specs.Sizes.{max_files, max_blocks, new_file, sound_row, sound_rows}
use Rattle.bufmodel.proofs.RowsLaws.{row-found, start-grows}
use Rattle.bufmodel.proofs.SizesLaws.{rows-say}
use Rattle.std.specs.Prelude.{Option, Some, None}
use Rattle.bufmem.specs.Rows.{found_row}

-- a row's three rules, in the order in which the code looks at them
module _ (rows : List ℕ) (r : ℕ) where
  pub row-fork : is_fork (file_at rows r).fork ≡ false → false ≡ sound_row rows r
  unfolding sound_row
  row-fork h = rw h

  pub row-fill : is_fork (file_at rows r).fork ≡ true → capacity_at rows r < blocks_at rows r → false ≡ sound_row rows r
  unfolding sound_row
  row-fill f h = rw (f, lt-leb (blocks_at rows r) (capacity_at rows r) h)

  pub row-rest : is_fork (file_at rows r).fork ≡ true → blocks_at rows r ≤ capacity_at rows r → new_file rows r ≡ sound_row rows r
  unfolding sound_row
  row-rest f h = rw (f, le-leb (blocks_at rows r) (capacity_at rows r) h)

-- the rules of the rows
module _ (rows : List ℕ) where
  pub rows-part : length rows % row_words ≢ 0 → false ≡ sound_rows rows
  unfolding sound_rows
  rows-part h = rw (ne_eqb (length rows % row_words) 0 h)

  module _ (whole : length rows % row_words ≡ 0) where
    pub rows-many : max_files < files rows → false ≡ sound_rows rows
    unfolding sound_rows
    rows-many h = rw (eq-eqb (length rows % row_words) 0 whole, lt-leb (files rows) max_files h)

    pub rows-wide : files rows ≤ max_files → max_blocks < start_of rows (files rows) → false ≡ sound_rows rows
    unfolding sound_rows store_blocks
    rows-wide few h =
        rw (eq-eqb (length rows % row_words) 0 whole, le-leb (files rows) max_files few, lt-leb (start_of rows (files rows)) max_blocks h)

    pub rows-each : files rows ≤ max_files → start_of rows (files rows) ≤ max_blocks → all (files rows) (sound_row rows) ≡ sound_rows rows
    unfolding sound_rows store_blocks
    rows-each few h =
        rw (eq-eqb (length rows % row_words) 0 whole, le-leb (files rows) max_files few, le-leb (start_of rows (files rows)) max_blocks h)

-- a search that found a row
pub row_at : (rows : List ℕ) (f : FileName) {s : Option ℕ} {r : ℕ} → found_row s ≡ row_of rows f → s ≡ Some r → row_of rows f ≡ found r
row_at rows f h e = sym h ∙ ap found_row e

-- a search that found none
pub row-none : (rows : List ℕ) (f : FileName) {s : Option ℕ} → found_row s ≡ row_of rows f → s ≡ None → row_of rows f ≡ missing
row-none rows f h e = sym h ∙ ap found_row e

-- a row that was found is one of the rows, and the store has room before it
pub row_fits : (rows : List ℕ) → sound_rows rows ≡ true → (f : FileName) {r : ℕ} → row_of rows f ≡ found r
    → (r * row_words + row_words ≤ length rows) × (r ≤ max_files) × (start_of rows r ≤ max_blocks)
unfolding files store_blocks
row_fits rows h f {r} e =
    let s = (rows-say rows).holds h in
    let l = (row-found rows f e).0 in
    (omega (arith, l), omega (arith, l, s.few), omega (arith, s.room, start-grows rows r (files rows) (omega (arith, l))))
