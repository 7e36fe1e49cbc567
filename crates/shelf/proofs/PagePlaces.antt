-- Place 17: the pool refuses a page that is not held and whose block does not pass, the shelf one that came in bad.
use Prim.Native.Nat.{ℕ}
use mathlib.Core.Path.{◌≡◌, refl, sym, ap, ◌∙◌}
use mathlib.Core.Bool.{false}
use mathlib.Core.List.{List}
use native.Mathlib.Omega.{arith}
use Rattle.laws.specs.First.{Found, found, missing}
use Rattle.buftag.specs.Lookup.{Held}
use Rattle.std.specs.Prelude.{Some, None}
use Rattle.buftag.specs.declared.name.PageName.{PageName}
use Rattle.bufmodel.specs.Rows.{place_of}
use Rattle.bufmodel.specs.Memory.{Memory}
use Rattle.bufmodel.specs.Outcome.{Place, refusal_of}
use Rattle.bufmodel.specs.Pin.{sum_differs, page_places, held_in}
use Rattle.bufmodel.proofs.OutcomeLaws.{refusal-same, refusal-passed}
use Rattle.shelf.specs.Shelf.{is_bad, page_first}
use Rattle.shelf.proofs.Kept.{View, shelf_of, Kept}
use Rattle.shelf.proofs.MemoryPlaces.{name-refused}
use Rattle.shelf.proofs.Refused.{Neither, neither-place}
use Rattle.shelf.proofs.NamePage.{name-neither, name-passed, bad_first, names_same, held-has}

module _ (m : Memory) (v : View) (k : Kept m v) (n : PageName) where
  -- the two tests are one
  sum-bad : (f : Found) → place_of m.rows n ≡ f → (h : Held) → held_in m n ≡ h → sum_differs m n f h ≡ is_bad (shelf_of m v) f
  unfolding sum_differs is_bad
  sum-bad (found g) e (Some b) q = sym (k.same b.0 g (held-has m k.good n g e b q)).fine
  sum-bad (found g) e None q = sym (k.passed n g e)
  sum-bad missing e h q = refl

  page-bad : sum_differs m n (place_of m.rows n) (held_in m n) ≡ is_bad (shelf_of m v) (place_of m.rows n)
  page-bad = sum-bad (place_of m.rows n) refl (held_in m n) refl

  -- a page that passes it did not come in bad
  pub page-fine : (ps : List Place) → refusal_of (page_places m n ps) ≡ 0 → (g : ℕ) → place_of m.rows n ≡ found g → v.bad g ≡ false
  unfolding page_places is_bad
  page-fine ps z g e =
      ap (is_bad (shelf_of m v)) (sym e) ∙ sym page-bad ∙ (refusal-passed 17 _ ps (omega arith) (name-passed m.rows n _ z).1).0

  -- so the numbers are one where the later places' are
  pub page-number : (ps qs : List Place) → ((g : ℕ) → place_of m.rows n ≡ found g → refusal_of ps ≡ refusal_of qs)
      → refusal_of (page_places m n ps) ≡ refusal_of (page_first (shelf_of m v) n qs)
  unfolding page_places
  page-number ps qs later = go (place_of m.rows n) refl
    where
      go : (f : Found) → place_of m.rows n ≡ f → refusal_of (page_places m n ps) ≡ refusal_of (page_first (shelf_of m v) n qs)
      go (found g) e = names_same (shelf_of m v) n _ qs (refusal-same 17 ps qs page-bad (later g e))
      go missing e =
          let r = name-refused m.rows n e in
          r.3 _ ∙ sym (r.3 (bad_first (shelf_of m v) n qs)) ∙ names_same (shelf_of m v) n _ qs refl

module _ (m : Memory) (n : PageName) where
  -- neither 1 nor 2, where no later place gives that
  pub page-neither : (ps : List Place) → Neither (refusal_of ps) → Neither (refusal_of (page_places m n ps))
  unfolding page_places
  page-neither ps h = name-neither m.rows n _ (neither-place 17 _ ps (omega arith) h)

  -- where no place refuses, the name is that of a page
  pub page-passed : (ps : List Place) → refusal_of (page_places m n ps) ≡ 0 → (g : ℕ) × (place_of m.rows n ≡ found g)
  unfolding page_places
  page-passed ps e = (name-passed m.rows n _ e).0
