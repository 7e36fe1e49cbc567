-- The shelf's own places: read downwards as the pool's are, and what its number says of 6.
use Prim.Native.Nat.{ℕ}
use mathlib.Core.Path.{◌≡◌, refl, sym, ap, ◌∙◌}
use mathlib.Core.Logic.{◌↔◌}
use mathlib.Core.Bool.{Bool, true, false, not, cond}
use mathlib.Core.List.{List, [], ◌∷◌}
use native.Mathlib.Omega.{arith}
use borrow.Author.Tests.{eqb-true, eq-eqb, not-true}
use Rattle.laws.specs.First.{Found, found}
use Rattle.laws.proofs.Tests.{and-true, and_left, and_right}
use Rattle.buftag.specs.declared.name.PageName.{PageName}
use Rattle.bufmodel.specs.Rows.{place_of}
use Rattle.bufmodel.specs.Outcome.{Place, place, refusal_of}
use Rattle.bufmodel.specs.Step.{Call, Pin}
use Rattle.shelf.specs.Shelf.{Shelf, first_of, has_pins, pinned_pages, no_buffer, page_first, above, places, refuses}

-- ---- the order of its checks is the pool's
pub first-is : (ps : List Place) → first_of ps ≡ refusal_of ps
unfolding first_of refusal_of
first-is [] = refl
first-is (p ∷ ps) = ap (λ (k : ℕ). cond p.refuses p.number k) (first-is ps)

pub refuses-is : (s : Shelf) (c : Call) → refuses s c ≡ refusal_of (places s c)
unfolding refuses
refuses-is s c = first-is (places s c)

-- ---- 6 exactly when N pages have pins and the wanted one is not among them
-- where the five places above pass, the sixth decides
last-decides : (h a b c d t : Bool) → first_of (place 19 h ∷ place 3 a ∷ place 4 b ∷ place 17 c ∷ place 5 d ∷ []) ≡ 0
    → first_of (place 19 h ∷ place 3 a ∷ place 4 b ∷ place 17 c ∷ place 5 d ∷ place 6 t ∷ []) ≡ cond t 6 0
unfolding first_of
last-decides true a b c d t e = absurd (omega arith)
last-decides false true b c d t e = absurd (omega arith)
last-decides false false true c d t e = absurd (omega arith)
last-decides false false false true d t e = absurd (omega arith)
last-decides false false false false true t e = absurd (omega arith)
last-decides false false false false false t e = refl

six-test : (t : Bool) → ◌≡◌ {A = ℕ} (cond t 6 0) 6 ↔ (t ≡ true)
six-test true = (λ e. refl, λ e. refl)
six-test false = (λ e. absurd (omega arith), λ e. absurd (let z : ◌≡◌ {A = ℕ} 0 1 = cc in omega arith))

module _ (s : Shelf) (o : ℕ) (n : PageName) (passed : first_of (above s o n) ≡ 0) (g : ℕ) (e : place_of s.rows n ≡ found g) where
  six-number : refuses s (Pin o n) ≡ cond (no_buffer s (found g)) 6 0
  unfolding refuses places above page_first
  six-number =
      last-decides _ _ _ _ _ _ passed ∙ ap (λ (f : Found). cond (no_buffer s f) 6 0) e

  six-pages : (no_buffer s (found g) ≡ true) ↔ ((pinned_pages s ≡ s.buffers) × (has_pins s g ≡ false))
  unfolding no_buffer
  six-pages = (
    λ t. (eqb-true _ _ (and_right (not (has_pins s g)) _ t), not-true _ (and_left (not (has_pins s g)) _ t)),
    λ p. and-true (ap not p.1) (eq-eqb (pinned_pages s) s.buffers p.0),
  )

pub six-of : (s : Shelf) (c : Call) {k : ℕ} → k ≡ refuses s c → (o : ℕ) (n : PageName) → c ≡ Pin o n → first_of (above s o n) ≡ 0 → (g : ℕ)
    → place_of s.rows n ≡ found g → (k ≡ 6) ↔ ((pinned_pages s ≡ s.buffers) × (has_pins s g ≡ false))
six-of s c number o n q passed g e =
    let is = number ∙ ap (refuses s) q ∙ six-number s o n passed g e in
    let t = six-test (no_buffer s (found g)) in
    let w = six-pages s o n passed g e in
    (λ z. w.0 (t.0 (sym is ∙ z)), λ p. is ∙ t.1 (w.1 p))
