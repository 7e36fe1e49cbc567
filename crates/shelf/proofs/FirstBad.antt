-- The blocks that came in bad, at set-up.
use Prim.Native.Nat.{ℕ, ◌+◌, ◌-◌, ◌<◌}
use mathlib.Core.Path.{◌≡◌, refl, ap, ◌∙◌}
use mathlib.Core.Bool.{Bool, true, not, ◌&&◌, false≢true}
use mathlib.Core.List.{List}
use native.Mathlib.Omega.{arith}
use lib.Dec.{leb, ltb}
use borrow.Author.Tests.{le-leb, lt-ltb, leb-true, ltb-true}
use Rattle.laws.specs.First.{Found, found, missing}
use Rattle.laws.specs.Block.{block}
use Rattle.laws.proofs.Tests.{and_left, and_right, and-true}
use Rattle.laws.proofs.First.{first_found, first-only}
use Rattle.buftag.specs.declared.name.PageName.{PageName}
use Rattle.bufmodel.specs.Checksum.{passes}
use Rattle.bufmodel.specs.Rows.{files, blocks_at, start_of, place_of}
use Rattle.bufmodel.specs.Sizes.{RowsSound}
use Rattle.bufmodel.proofs.RowsLaws.{row-found, in-row-only, place_found, place-row}
use Rattle.shelf.specs.Sums.{fails}
use Rattle.shelf.specs.Shelf.{file_with, bad_in}
use Rattle.shelf.proofs.SumsLaws.{fails-not}

module _ (rows : List ℕ) (sound : RowsSound rows) where
  -- the file in row r has a block at place g, below its block count
  test : ℕ → ℕ → Bool
  test g r = leb (start_of rows r) g && ltb g (start_of rows r + blocks_at rows r)

  -- the file of a page's place is found
  file-with : (n : PageName) (g : ℕ) → place_of rows n ≡ found g
      → (r : ℕ) × (file_with rows g ≡ found r) × (g - start_of rows r ≡ n.block.0)
  unfolding file_with test
  file-with n g e =
      let p = place_found rows n e in
      let r = p.0 in
      let l = (row-found rows n.file p.1).0 in
      let hit : test g r ≡ true =
      and-true (le-leb (start_of rows r) g (omega (arith, p.3)))
      (lt-ltb g (start_of rows r + blocks_at rows r) (omega (arith, p.2, p.3))) in
      let only : (s : ℕ) → s < files rows → test g s ≡ true → s ≡ r =
      λ s m h.
      in-row-only rows s r g (leb-true (start_of rows s) g (and_left (leb (start_of rows s) g) _ h))
      (omega (arith, ltb-true g (start_of rows s + blocks_at rows s) (and_right (leb (start_of rows s) g) _ h), sound.fill s m))
      (omega (arith, p.3)) (omega (arith, p.2, p.3, sound.fill r l)) in
      (r, first-only (test g) (files rows) r l hit only, omega (arith, p.3))

  -- such a page is bad where it does not pass
  pub bad-first : (p : ℕ) (store : List ℕ) (n : PageName) (g : ℕ) → place_of rows n ≡ found g
      → bad_in p rows store g (file_with rows g) ≡ not (passes n.block.0 (block p g store))
  unfolding bad_in
  bad-first p store n g e =
      let w = file-with n g e in
      ap (bad_in p rows store g) w.1 ∙ ap (λ (b : ℕ). fails b (block p g store)) w.2 ∙ fails-not n.block.0 (block p g store)

  -- and no other block is
  pub bad-known : (p : ℕ) (store : List ℕ) (g : ℕ) → bad_in p rows store g (file_with rows g) ≡ true
      → (n : PageName) × (place_of rows n ≡ found g)
  unfolding bad_in file_with test
  bad-known p store g = go (file_with rows g) refl
    where
      go : (f : Found) → file_with rows g ≡ f → bad_in p rows store g f ≡ true → (n : PageName) × (place_of rows n ≡ found g)
      go (found r) q t =
          let w = first_found (test g) (files rows) q in
          let low = leb-true (start_of rows r) g (and_left (leb (start_of rows r) g) _ w.1) in
          let high = ltb-true g (start_of rows r + blocks_at rows r) (and_right (leb (start_of rows r) g) _ w.1) in
          let at : start_of rows r + (g - start_of rows r) ≡ g = omega (arith, low) in
          let n = place-row rows sound r (g - start_of rows r) w.0 (omega (arith, low, high)) in
          (n.0, n.1 ∙ ap found at)
      go missing q t = absurd (false≢true t)
