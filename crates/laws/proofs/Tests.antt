-- Laws of tests: what a row of them says, and how a loop or a case split uses one.
use Prim.Native.Nat.{ℕ, ◌≤◌}
use native.Mathlib.Nat.{le_antisymm}
use mathlib.Core.Path.{◌≡◌, refl, sym, ◌∙◌, subst}
use mathlib.Core.Bool.{Bool, true, false, ◌&&◌, beq, true≢false}
use Rattle.std.proofs.lemmas.Bool.{and_parts}
-- the library's, under the names that the proofs have
pub use Rattle.std.proofs.lemmas.Bool.{or_parts as or-neither, cases_Bool as true-or-false, cases_lt as lt-or-le, cases_eq as eq-or-ne}

pub and-true : {a b : Bool} → a ≡ true → b ≡ true → (a && b) ≡ true
and-true p q = rw p q

-- the last of a row of tests, after the others held
pub and_last : {a b r : Bool} → a ≡ true → r ≡ b → r ≡ (a && b)
and_last p q = rw p q

pub and_left : (a b : Bool) → (a && b) ≡ true → a ≡ true
and_left a b h = (and_parts a b h).0

pub and_right : (a b : Bool) → (a && b) ≡ true → b ≡ true
and_right a b h = (and_parts a b h).1

-- two tests that hold together are equal
pub same_tests : (a b : Bool) → (a ≡ true → b ≡ true) → (b ≡ true → a ≡ true) → a ≡ b
same_tests true true f g = refl
same_tests true false f g = sym (f refl)
same_tests false true f g = g refl
same_tests false false f g = refl

pub never : {A : Type 0} {b : Bool} → b ≡ true → b ≡ false → A
never p q = absurd (true≢false (sym p ∙ q))

-- what a loop that counts i up to n has shown of i, it has shown of n
pub at-end : (P : ℕ → Type 0) (n i : ℕ) → i ≤ n → n ≤ i → P i → P n
at-end P n i l m h = subst P (le_antisymm l m) h

pub beq-true : (a b : Bool) → beq a b ≡ true → a ≡ b
beq-true true true h = refl
beq-true true false h = sym h
beq-true false true h = h
beq-true false false h = refl
