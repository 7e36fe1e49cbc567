-- A dropped file: once its buffers, none of them pinned, are released and its row has no block, the relation holds again.
use Prim.Native.Nat.{ℕ, ◌<◌}
use mathlib.Core.Path.{◌≡◌, refl, sym, ap, ap₂, ◌∙◌, subst}
use mathlib.Core.Bool.{Bool, true, false, not, ◌&&◌, cond, and-false}
use mathlib.Core.Logic.{◌⊎◌, inl, inr, ⊎_elim}
use native.Mathlib.Omega.{arith}
use borrow.Author.Tests.{not-true}
use Rattle.laws.specs.Block.{block}
use Rattle.laws.specs.First.{Found, found, missing}
use Rattle.laws.proofs.Tests.{never, true-or-false, and_left, and_right}
use Rattle.laws.proofs.First.{found-missing}
use Rattle.buftag.specs.declared.name.FileName.{FileName}
use Rattle.buftag.specs.declared.name.PageName.{PageName}
use Rattle.bufmodel.specs.Checksum.{passes}
use Rattle.bufmodel.specs.Word.{pinned, dirty, empty}
use Rattle.bufmodel.specs.Rows.{set_blocks, row_of, place_of}
use Rattle.bufmodel.specs.Memory.{Memory, buffers, size, cap_of, word_of, name_of, with_rows}
use Rattle.bufmodel.specs.Counts.{max_holders}
use Rattle.bufmodel.specs.Books.{empty_at}
use Rattle.bufmodel.specs.Moves.{of_file}
use Rattle.bufmodel.proofs.WordLaws.{zero-unpinned, unpinned-none, Held}
use Rattle.bufmodel.proofs.CountLaws.{holders-none}
use Rattle.bufmodel.proofs.HeldLaws.{pinned-full}
use Rattle.bufmodel.proofs.RowsLaws.{row-found, place_other, place-gone, store-set}
use Rattle.bufmodel.proofs.DropLaws.{of-says, onto, Released, left_other, cleared-good}
use Rattle.shelf.specs.Shelf.{in_row}
use Rattle.shelf.proofs.Kept.{View, Has, Nobody, Same, Kept}
use Rattle.shelf.proofs.KeptLaws.{some_or_none}
use Rattle.shelf.proofs.FilePages.{in-row, of_row}

-- a page that is looked at only where a test holds
only_if : (t : Bool) {a b : Found} → (t ≡ true → a ≡ b) → cond t a missing ≡ cond t b missing
only_if true h = h refl
only_if false h = refl

-- ---- the memory afterwards, and the view: no page of the file is dirty, and no block of it bad
abbrev pub dropped_memory : Memory → Memory → ℕ → Memory
dropped_memory m d r = with_rows (set_blocks m.rows r 0) (onto m d)

abbrev pub dropped_view : Memory → View → ℕ → View
dropped_view m v r =
    record {
      bytes = v.bytes;
      counts = v.counts;
      holds = v.holds;
      bad = λ g. not (in_row m.rows (found r) g) && v.bad g;
      dirty = λ g. not (in_row m.rows (found r) g) && v.dirty g;
      last = v.last;
      put = v.put;
    }

module _ (m : Memory) (v : View) (k : Kept m v) (f : FileName) (r : ℕ) (e : row_of m.rows f ≡ found r) where
  -- a buffer of another file has its page at the same place
  other_place : (i : ℕ) → empty_at m i ≡ false → of_file m f i ≡ false
      → place_of (set_blocks m.rows r 0) (name_of m i) ≡ place_of m.rows (name_of m i)
  other_place i full ne =
      place_other m.rows r 0 (name_of m i) (λ q.
      never ((of-says m f i).shown (full, sym (row-found m.rows (name_of m i).file q).1 ∙ (row-found m.rows f e).1)) ne)

  -- ---- the pages that there are afterwards: those of before, of other rows
  abbrev own : ℕ → Bool
  own g = in_row m.rows (found r) g

  left-place : (n : PageName) (g : ℕ) → place_of (set_blocks m.rows r 0) n ≡ found g
      → (place_of m.rows n ≡ found g) × (own g ≡ false)
  left-place n g q =
      let other : row_of m.rows n.file ≡ found r → ⊥ = λ z. found-missing (sym q ∙ place-gone m.rows r 0 n refl z) in
      let p = sym (place_other m.rows r 0 n other) ∙ q in
      let row = in-row m.rows k.good.sizes.rows f r e n g p in
      (p, ⊎_elim (λ t. absurd (other (ap (row_of m.rows) (row.holds t) ∙ e))) (λ z. z) (true-or-false (own g)))

  place-left : (n : PageName) (g : ℕ) → place_of m.rows n ≡ found g → own g ≡ false → place_of (set_blocks m.rows r 0) n ≡ found g
  place-left n g p out =
      let row = in-row m.rows k.good.sizes.rows f r e n g p in
      place_other m.rows r 0 n (λ z.
      never (row.shown (sym (row-found m.rows n.file z).1 ∙ (row-found m.rows f e).1)) out)
      ∙ p

  -- their blocks, bad or not
  left_passed : (n : PageName) (g : ℕ) → place_of (set_blocks m.rows r 0) n ≡ found g
      → (not (own g) && v.bad g) ≡ not (passes n.block.0 (block (size m) g m.store))
  left_passed n g q = let w = left-place n g q in ap (λ (t : Bool). not t && v.bad g) w.1 ∙ k.passed n g w.0

  left-known : (g : ℕ) → (not (own g) && v.bad g) ≡ true → (n : PageName) × (place_of (set_blocks m.rows r 0) n ≡ found g)
  left-known g t =
      let w = k.known g (and_right (not (own g)) _ t) in
      (w.0, place-left w.0 g w.1 (not-true _ (and_left (not (own g)) _ t)))

  module _ (d : Memory) (x : Released m f (buffers m) d) where
    -- ---- which buffer has a page
    has_on : (i g : ℕ) → Has m i g → of_file m f i ≡ false → Has (dropped_memory m d r) i g
    unfolding empty_at
    has_on i g h ne =
        record {
          below = omega (arith, x.many, h.below);
          full = ap empty (x.word i (λ l. ne)) ∙ h.full;
          place = ap (place_of (set_blocks m.rows r 0)) (x.name i (λ l. ne)) ∙ other_place i h.full ne ∙ h.place;
        }

    -- a buffer in use afterwards was in use, of another file
    in_use : (i : ℕ) → i < buffers d → empty_at d i ≡ false → (i < buffers m) × (empty_at m i ≡ false) × (of_file m f i ≡ false)
    unfolding empty_at
    in_use i l full =
        let b : i < buffers m = omega (arith, x.many) in
        let ne = left_other m d f x i full b in
        (b, ap empty (sym (x.word i (λ z. ne))) ∙ full, ne)

    has-back : (i g : ℕ) → Has (dropped_memory m d r) i g → Has m i g
    unfolding empty_at
    has-back i g h =
        let u = in_use i h.below h.full in
        record {
          below = u.0;
          full = u.1;
          place = sym (other_place i u.1 u.2)
              ∙ ap (place_of (set_blocks m.rows r 0)) (sym (x.name i (λ l. u.2)))
              ∙ h.place;
        }

    -- a page that no buffer has: a buffer of the file had it, or none
    who-had : (g : ℕ) → Nobody (dropped_memory m d r) g → ((i : ℕ) × (Has m i g) × (of_file m f i ≡ true)) ⊎ Nobody m g
    who-had g none =
        ⊎_elim
        (λ y.
        ⊎_elim (λ t. inl (y.0, y.1, t)) (λ n. absurd (none y.0 (has_on y.0 g y.1 n))) (true-or-false (of_file m f y.0)))
        inr (some_or_none m k.good g)

    -- ---- the page of a buffer in use
    dropped-same : (i g : ℕ) → Has (dropped_memory m d r) i g → Same (dropped_memory m d r) (dropped_view m v r) i g
    unfolding empty_at
    dropped-same i g h =
        let b = has-back i g h in
        let ne = (in_use i h.below h.full).2 in
        let s = k.same i g b in
        let w = x.word i (λ l. ne) in
        record {
          bytes = s.bytes;
          counts = s.counts;
          marked = ap (λ (t : Bool). not t && v.dirty g) (sym (of_row m v k f r e i g b) ∙ ne) ∙ s.marked ∙ ap dirty (sym w);
          last = s.last;
          clean = λ q. s.clean (ap dirty (sym w) ∙ q);
          fine = ap (λ (t : Bool). not (own g) && t) s.fine ∙ and-false (not (own g));
        }

    -- ---- a page that no buffer has
    dropped-stored : (n : PageName) (g : ℕ) → place_of (set_blocks m.rows r 0) n ≡ found g → Nobody (dropped_memory m d r) g
        → (place_of m.rows n ≡ found g) × Nobody m g
    dropped-stored n g q none =
        let w = left-place n g q in
        (w.0, ⊎_elim (λ y. never (sym (of_row m v k f r e y.0 g y.1) ∙ y.2) w.1) (λ z. z) (who-had g none))

    module _ (free : (i : ℕ) → i < buffers m → of_file m f i ≡ true → pinned (word_of m i) ≡ false) where
      dropped-unpinned : (g : ℕ) → Nobody (dropped_memory m d r) g → (h : ℕ) → h < max_holders → v.counts h g ≡ 0
      dropped-unpinned g none =
          ⊎_elim
          (λ y h l.
          let idle = unpinned-none _ (free y.0 y.1.below y.2) in
          (k.same y.0 g y.1).counts h l
          ∙ holders-none m.counts y.0 h l (sym (k.good.books.counts y.0 y.1.below) ∙ idle))
          (k.unpinned g)
          (who-had g none)

      -- ---- what a number holds
      dropped-holds : (i : ℕ) → i < buffers m
          → v.holds i ≡ cond (pinned (word_of d i)) (place_of (set_blocks m.rows r 0) (name_of d i)) missing
      unfolding empty_at
      dropped-holds i l =
          k.holds i l
          ∙ ⊎_elim
          (λ t.
          ap (λ (p : Bool). cond p (place_of m.rows (name_of m i)) missing) (free i l t)
          ∙ ap (λ (p : Bool). cond p (place_of (set_blocks m.rows r 0) (name_of d i)) missing)
          (sym (ap pinned (x.gone i l t) ∙ zero-unpinned)))
          (λ n.
          only_if (pinned (word_of m i)) (λ p. sym (other_place i (pinned-full m i p) n))
          ∙ ap₂ (λ (w : ℕ) (y : PageName). cond (pinned w) (place_of (set_blocks m.rows r 0) y) missing) (sym (x.word i (λ z. n)))
          (sym (x.name i (λ z. n))))
          (true-or-false (of_file m f i))

      -- the relation is kept
      pub dropped-kept : Kept (dropped_memory m d r) (dropped_view m v r)
      unfolding empty_at
      dropped-kept =
          record {
            good = cleared-good m d f x e;
            words = λ i l full. let u = in_use i l full in subst (Held (cap_of m)) (sym (x.word i (λ z. u.2))) (k.words i u.0 u.1);
            same = dropped-same;
            unpinned = dropped-unpinned;
            unmarked = λ g none.
                ⊎_elim
                (λ y. ap (λ (t : Bool). not t && v.dirty g) (sym (of_row m v k f r e y.0 g y.1) ∙ y.2))
                (λ z.
                ap (λ (t : Bool). not (own g) && t) (k.unmarked g z) ∙ and-false (not (own g)))
                (who-had g none);
            stored = λ n g q none. let p = dropped-stored n g q none in k.stored n g p.0 p.1;
            passed = left_passed;
            known = left-known;
            holds = λ i l. dropped-holds i (omega (arith, x.many));
            put = λ g q. (rw (store-set m.rows r 0) (k.put g q).0, (k.put g q).1);
          }
