-- Laws of a function with another value at one place.
use Prim.Native.Nat.{ℕ}
use mathlib.Core.Path.{◌≡◌, refl, ap, ◌∙◌}
use mathlib.Core.Logic.{◌≢◌, ⊎_elim}
use borrow.Author.Tests.{eq-eqb, ne_eqb}
use Rattle.laws.proofs.Tests.{eq-or-ne}
use Rattle.shelf.specs.Shelf.{with, count_with}

module _ {A : Type 0} (k : ℕ) (a : A) (f : ℕ → A) where
  pub with-same : with k a f k ≡ a
  with-same = rw (eq-eqb k k refl)

  pub with-other : (j : ℕ) → j ≢ k → with k a f j ≡ f j
  with-other j ne = rw (ne_eqb j k ne)

  -- the value that was there
  pub with-old : a ≡ f k → (j : ℕ) → with k a f j ≡ f j
  with-old e j = ⊎_elim (λ q. rw (eq-eqb j k q, q) e) (λ ne. with-other j ne) (eq-or-ne j k)

-- ---- another count of one holder and page
module _ (h g c : ℕ) (f : ℕ → ℕ → ℕ) where
  pub count_same : count_with h g c f h g ≡ c
  unfolding count_with
  count_same = ap (λ (r : ℕ → ℕ). r g) (with-same h (with g c (f h)) f) ∙ with-same g c (f h)

  pub count-holder : (o y : ℕ) → o ≢ h → count_with h g c f o y ≡ f o y
  unfolding count_with
  count-holder o y ne = ap (λ (r : ℕ → ℕ). r y) (with-other h (with g c (f h)) f o ne)

  pub count-page : (o y : ℕ) → y ≢ g → count_with h g c f o y ≡ f o y
  unfolding count_with
  count-page o y ne =
      ⊎_elim
      (λ e. rw e (ap (λ (r : ℕ → ℕ). r y) (with-same h (with g c (f h)) f) ∙ with-other g c (f h) y ne))
      (λ q. ap (λ (r : ℕ → ℕ). r y) (with-other h (with g c (f h)) f o q))
      (eq-or-ne o h)
