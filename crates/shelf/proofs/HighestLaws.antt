-- Laws of the largest position of some pages: it is the least number that bounds them.
use Prim.Native.Nat.{ℕ, zero, suc, ◌≤◌, ◌<◌, max}
use mathlib.Core.Path.{◌≡◌, refl, ap}
use mathlib.Core.Bool.{Bool, true, false}
use mathlib.Core.Logic.{⊎_elim}
use native.Mathlib.Nat.{le_antisymm, not-suc-le-zero}
use native.Mathlib.Omega.{arith}
use Rattle.laws.proofs.Tests.{true-or-false, eq-or-ne, never}
use Rattle.bufmodel.specs.Position.{position}
use Rattle.shelf.specs.Ledger.{Ledger, highest}

module _ (l : Ledger) (back : ℕ → Bool) (p : ℕ) where
  -- at or above the first position, and the position of each such page below n
  pub record Bounds (n b : ℕ) : Type 0 where
    pub first : p ≤ b
    pub each : (g : ℕ) → g < n → back g ≡ true → position (l.shelf.bytes g) ≤ b

  -- one page more
  highest-hit : (n : ℕ) → back n ≡ true → highest l (suc n) back p ≡ max (highest l n back p) (position (l.shelf.bytes n))
  unfolding highest
  highest-hit n e = rw e

  highest-miss : (n : ℕ) → back n ≡ false → highest l (suc n) back p ≡ highest l n back p
  unfolding highest
  highest-miss n e = rw e

  -- a bound of one page more
  bounds-more : (n b : ℕ) → Bounds n b → (back n ≡ true → position (l.shelf.bytes n) ≤ b) → Bounds (suc n) b
  bounds-more n b h last =
      record {
        first = h.first;
        each = λ g m e. ⊎_elim (λ q. rw q (last (rw q at e))) (λ ne. h.each g (omega arith) e) (eq-or-ne g n);
      }

  bounds-up : (n b c : ℕ) → Bounds n b → b ≤ c → Bounds n c
  bounds-up n b c h u = record { first = omega (arith, h.first); each = λ g m e. omega (arith, h.each g m e) }

  highest-bounds : (n : ℕ) → Bounds n (highest l n back p)
  unfolding highest
  highest-bounds zero = record { first = omega arith; each = λ g m. absurd (not-suc-le-zero m) }
  highest-bounds (suc n) =
      ⊎_elim
      (λ e.
      let q = highest-hit n e in
      bounds-more n _ (bounds-up n _ _ (highest-bounds n) (omega arith)) (λ z. omega arith))
      (λ e. rw (highest-miss n e) (bounds-more n _ (highest-bounds n) (λ z. never z e)))
      (true-or-false (back n))

  highest-least : (n b : ℕ) → Bounds n b → highest l n back p ≤ b
  unfolding highest
  highest-least zero b h = h.first
  highest-least (suc n) b h =
      let now = highest-least n b (record { first = h.first; each = λ g m e. h.each g (omega arith) e }) in
      ⊎_elim
      (λ e. omega (arith, highest-hit n e, h.each n (omega arith) e)) (λ e. omega (arith, highest-miss n e))
      (true-or-false (back n))

  -- so the least number that bounds them is it
  pub highest-is : (n b : ℕ) → Bounds n b → ((c : ℕ) → Bounds n c → b ≤ c) → highest l n back p ≡ b
  highest-is n b h least = le_antisymm (highest-least n b h) (least _ (highest-bounds n))

  -- none of them, and one page alone
  pub highest-none : (n : ℕ) → ((g : ℕ) → g < n → back g ≡ false) → highest l n back p ≡ p
  unfolding highest
  highest-none zero h = refl
  highest-none (suc n) h = rw (h n (omega arith)) (highest-none n (λ g b. h g (omega arith)))

  pub highest-one : (n g : ℕ) → g < n → back g ≡ true → ((h : ℕ) → h < n → back h ≡ true → h ≡ g)
      → highest l n back p ≡ max p (position (l.shelf.bytes g))
  highest-one n g m e only =
      highest-is n _
      (record { first = omega arith; each = λ h b d. omega (arith, ap (λ (q : ℕ). position (l.shelf.bytes q)) (only h b d)) })
      (λ c b. omega (arith, b.first, b.each g m e))

-- where no page is written back
pub highest-still : (l : Ledger) (p n : ℕ) → highest l n (λ g. false) p ≡ p
highest-still l p n = highest-none l (λ g. false) p n (λ g b. refl)
