-- The pages of one file: the places that they have, the buffers that have them, and that refusal 14 is the shelf's.
use Prim.Native.Nat.{ℕ, ◌+◌, ◌<◌}
use mathlib.Core.Path.{◌≡◌, sym, ap, ◌∙◌}
use mathlib.Core.Bool.{true}
use mathlib.Core.Logic.{⊎_elim}
use mathlib.Core.List.{List}
use native.Mathlib.Omega.{arith}
use borrow.Author.Tests.{le-leb, lt-ltb}
use Rattle.laws.specs.First.{found}
use Rattle.laws.specs.Says.{Says}
use Rattle.laws.proofs.Tests.{and-true, never, same_tests}
use Rattle.laws.proofs.First.{found-same}
use Rattle.laws.proofs.Says.{says-le, says-lt, says-and, says_any, says-as, says-it}
use Rattle.buftag.specs.declared.name.FileName.{FileName}
use Rattle.buftag.specs.declared.name.PageName.{PageName}
use Rattle.bufmodel.specs.Rows.{file_at, blocks_at, capacity_at, row_of, start_of, place_of}
use Rattle.bufmodel.specs.Sizes.{RowsSound}
use Rattle.bufmodel.specs.Memory.{Memory, name_of}
use Rattle.bufmodel.specs.Moves.{of_file}
use Rattle.bufmodel.specs.Calls.{file_pinned}
use Rattle.bufmodel.proofs.RowsLaws.{row-found, row_same, in-row-only, place_found, place-room}
use Rattle.bufmodel.proofs.DropLaws.{of-says, pinned-says}
use Rattle.shelf.specs.Shelf.{in_row, has_pins, file_pinned as pages_pinned}
use Rattle.shelf.proofs.Kept.{View, shelf_of, Has, Kept}
use Rattle.shelf.proofs.KeptLaws.{has-page, some_or_none, pins-has, pins-nobody}

-- ---- the places of a file's pages
module _ (rows : List ℕ) (sound : RowsSound rows) (f : FileName) (r : ℕ) (e : row_of rows f ≡ found r) where
  -- a page is of the file exactly when its place is in the file's row
  pub in-row : (n : PageName) (g : ℕ) → place_of rows n ≡ found g → Says (in_row rows (found r) g) (n.file ≡ f)
  unfolding in_row
  in-row n g q =
      let p = place-room rows sound n q in
      let w = row-found rows f e in
      says-as
      (λ h.
      let s : r ≡ p.0 = in-row-only rows r p.0 g h.0 h.1 (omega arith) (omega arith) in
      sym p.2 ∙ ap (file_at rows) (sym s) ∙ w.1)
      (λ h.
      let s : p.0 ≡ r = row_same rows sound p.0 r p.1 w.0 (p.2 ∙ h ∙ sym w.1) in
      (omega (arith, ap (start_of rows) s), omega (arith, ap (start_of rows) s, ap (capacity_at rows) s)))
      (says-and (says-le _ _) (says-lt _ _))

  -- the place of each of its blocks is
  block-in-row : (b : ℕ) → b < blocks_at rows r → in_row rows (found r) (start_of rows r + b) ≡ true
  unfolding in_row
  block-in-row b l =
      let h = sound.fill r (row-found rows f e).0 in
      and-true (le-leb (start_of rows r) (start_of rows r + b) (omega arith))
      (lt-ltb (start_of rows r + b) (start_of rows r + capacity_at rows r) (omega arith))

module _ (m : Memory) (v : View) (k : Kept m v) where
  module _ (f : FileName) (r : ℕ) (e : row_of m.rows f ≡ found r) where
    -- ---- the buffers of the file are those whose page is in its row
    pub of_row : (i g : ℕ) → Has m i g → of_file m f i ≡ in_row m.rows (found r) g
    of_row i g h =
        let s = in-row m.rows k.good.sizes.rows f r e (name_of m i) g h.place in
        same_tests _ _ (λ t. s.shown ((of-says m f i).holds t).1) (λ t. (of-says m f i).shown (h.full, s.holds t))

    -- ---- one of its pages pinned
    pages-say : Says (pages_pinned (shelf_of m v) (found r))
        ((b : ℕ) × (b < blocks_at m.rows r) × (has_pins (shelf_of m v) (start_of m.rows r + b) ≡ true))
    unfolding pages_pinned
    pages-say =
        says_any (blocks_at m.rows r) _ (λ b. has_pins (shelf_of m v) (start_of m.rows r + b) ≡ true) (λ b l. says-it _)

    -- a pinned buffer of the file has one of its pages
    pages-of : file_pinned m f ≡ true → pages_pinned (shelf_of m v) (found r) ≡ true
    pages-of t =
        let w = (pinned-says m f).holds t in
        let o = (of-says m f w.0).holds w.2.0 in
        let h = has-page m k.good w.0 w.1 o.0 in
        let p = place_found m.rows (name_of m w.0) h.1.place in
        let q : p.0 ≡ r = found-same (sym p.1 ∙ ap (row_of m.rows) o.1 ∙ e) in
        let b = (name_of m w.0).block.0 in
        let at : h.0 ≡ start_of m.rows r + b = omega (arith, ap (start_of m.rows) q) in
        pages-say.shown (
          b,
          omega (arith, ap (blocks_at m.rows) q),
          ap (has_pins (shelf_of m v)) (sym at) ∙ pins-has m v k w.0 h.0 h.1 ∙ w.2.1,
        )

    -- and the other way round
    buffers-of : pages_pinned (shelf_of m v) (found r) ≡ true → file_pinned m f ≡ true
    buffers-of t =
        let w = pages-say.holds t in
        let g = start_of m.rows r + w.0 in
        ⊎_elim
        (λ x.
        (pinned-says m f).shown (
          x.0,
          x.1.below,
          (
            of_row x.0 g x.1 ∙ block-in-row m.rows k.good.sizes.rows f r e w.0 w.1,
            sym (pins-has m v k x.0 g x.1) ∙ w.2,
          ),
        ))
        (λ none. never w.2 (pins-nobody m v k g none))
        (some_or_none m k.good g)

    -- so 14 is refused on both sides, or on neither
    pub file-pinned-same : file_pinned m f ≡ pages_pinned (shelf_of m v) (found r)
    file-pinned-same = same_tests _ _ pages-of buffers-of
