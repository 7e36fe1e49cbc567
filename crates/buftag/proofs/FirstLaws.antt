-- Whether a buffer is the first of a chain with its name: the walk that looks at each place's next link.
use Prim.Native.Nat.{ℕ, zero, suc, ◌+◌, ◌-◌, ◌^◌, ◌≤◌, ◌<◌}
use mathlib.Core.Path.{◌≡◌, refl, sym, ◌∙◌, ap, subst}
use mathlib.Core.Bool.{true, false}
use mathlib.Core.Logic.{⊎_elim}
use mathlib.Core.List.{List}
use native.Mathlib.Omega.{arith}
use lib.IntN.{ℤ, pos, negsuc, nat_abs}
use lib.ListN.{length}
use lib.Signed.{lt_z}
use mir.Syntax.{w32}
use mir.Val.{SFits, of_z, to_z}
use borrow.Author.Tests.{ltb-true, ne_eqb, eq-eqb}
use Rattle.laws.proofs.Tests.{lt-or-le, true-or-false}
use Rattle.buftag.specs.declared.link.Link.{Link}
use Rattle.buftag.specs.declared.link.Link.TheVariants.{To}
use Rattle.buftag.specs.Lookup.{Held}
use Rattle.buftag.specs.Name.{same_name}
use Rattle.buftag.specs.Names.{name_at}
use Rattle.buftag.specs.Link.{link_of, link_at, number_at, is_to}
use Rattle.buftag.specs.Lookup.{walk}
use Rattle.buftag.specs.Check.{is_at, is_first}
use Rattle.buftag.proofs.NameLaws.{says-same-name}
use Rattle.buftag.proofs.SignedLaws.{bits_back, index_back, not_negative}
use Rattle.buftag.proofs.WalkLaws.{walk_none, walk-past, walk-found, walk-next}

-- ---- a number compared with a buffer's by its bits
-- where they are equal, the link leads to the buffer
link-own : (z : ℤ) (own : ℕ) → SFits w32 z → own < 2 ^ 31 → of_z w32 z ≡ own → link_of z ≡ To own
link-own z own f h e = ap link_of (sym (bits_back z f) ∙ ap (to_z w32) e ∙ index_back own h)

-- and else it does not
pub link-other : (z : ℤ) (own : ℕ) → (of_z w32 z ≡ own → ⊥) → is_to own (link_of z) ≡ false
link-other (pos j) own h = ne_eqb j own h
link-other (negsuc zero) own h = refl
link-other (negsuc (suc zero)) own h = refl
link-other (negsuc (suc (suc k))) own h = refl

module _ (chain : List ℤ) (names : List ℕ) (own : ℕ) where
  -- a walk for the buffer's name
  abbrev find : ℕ → Link → Held
  find k l = walk chain names (name_at names own) k l

  -- ---- a step
  -- from a link that leads to the buffer
  find-own : (k : ℕ) → 0 < k → own < length chain → is_at own (find k (To own)) ≡ true
  find-own k p h =
      ap (is_at own) (walk-found chain names _ k own p h ((says-same-name (name_at names own) (name_at names own)).shown refl))
      ∙ eq-eqb own own refl

  -- a negative number is no place
  find-negative : (k : ℕ) (z : ℤ) → lt_z z (pos 0) ≡ true → is_at own (find k (link_of z)) ≡ false
  unfolding walk
  find-negative k (pos n) e = absurd (omega (arith, ltb-true n 0 e))
  find-negative zero (negsuc n) e = refl
  find-negative (suc k) (negsuc zero) e = refl
  find-negative (suc k) (negsuc (suc zero)) e = refl
  find-negative (suc k) (negsuc (suc (suc n))) e = refl

  -- one step, from a place that is not the buffer
  find-last : (z : ℤ) → is_to own (link_of z) ≡ false → is_at own (find 1 (link_of z)) ≡ false
  find-last (pos i) o =
      ⊎_elim
      (λ h.
      ⊎_elim
      (λ t. ap (is_at own) (walk-found chain names _ 1 i (omega arith) h t) ∙ o)
      (λ t. ap (is_at own) (walk-next chain names _ 0 i (omega arith) h t ∙ walk_none chain names _ (link_at chain i)))
      (true-or-false (same_name (name_at names i) (name_at names own))))
      (λ h. ap (is_at own) (walk-past chain names _ 1 i h))
      (lt-or-le i (length chain))
  find-last (negsuc n) o = find-negative 1 (negsuc n) refl

  -- ---- the loop
  -- so many steps and one more, from a number that does not lead to the buffer, tell what the whole walk does
  pub record Later (first : Link) (left : ℕ) (z : ℤ) : Type 0 where
    pub fits : SFits w32 z
    pub other : is_to own (link_of z) ≡ false
    pub rest : is_at own (find (left + 1) (link_of z)) ≡ is_first chain names first own

  pub later-start : (z : ℤ) → SFits w32 z → is_to own (link_of z) ≡ false → 0 < length chain → Later (link_of z) (length chain - 1) z
  unfolding is_first
  later-start z f o h =
      let e : length chain - 1 + 1 ≡ length chain = omega arith in
      record { fits = f; other = o; rest = ap (λ (k : ℕ). is_at own (find k (link_of z))) e }

  pub later-negative : {first : Link} {left : ℕ} {z : ℤ} → Later first left z → lt_z z (pos 0) ≡ true
      → false ≡ is_first chain names first own
  later-negative {left = left} {z = z} r e = sym (find-negative (left + 1) z e) ∙ r.rest

  pub later_last : {first : Link} {z : ℤ} → Later first 0 z → false ≡ is_first chain names first own
  later_last {z = z} r = sym (find-last z r.other) ∙ r.rest

  -- a number that is not negative is a place
  pub later-place : {first : Link} {left : ℕ} {z : ℤ} → Later first left z → lt_z z (pos 0) ≡ false → Later first left (pos (nat_abs z))
  later-place {first} {left} {z} r e = subst (λ (y : ℤ). Later first left y) (not_negative z e) r

  -- at a place
  pub later-past : {first : Link} {left i : ℕ} → Later first left (pos i) → length chain ≤ i → false ≡ is_first chain names first own
  later-past {left = left} {i = i} r h = sym (ap (is_at own) (walk-past chain names _ (left + 1) i h)) ∙ r.rest

  module _ {first : Link} {left i : ℕ} (r : Later first left (pos i)) (h : i < length chain) where
    -- that has the name: the buffer is not the first
    pub later_same : same_name (name_at names i) (name_at names own) ≡ true → false ≡ is_first chain names first own
    later_same t = sym (ap (is_at own) (walk-found chain names _ (left + 1) i (omega arith) h t) ∙ r.other) ∙ r.rest

    module _ (t : same_name (name_at names i) (name_at names own) ≡ false) (p : 0 < left) (f : SFits w32 (number_at chain i)) where
      -- that has not: the walk goes on from its link
      later-next : is_at own (find left (link_at chain i)) ≡ is_first chain names first own
      later-next =
          ap (is_at own) (sym (walk-next chain names _ left i refl h t)) ∙ r.rest

      -- which leads to the buffer
      pub later-found : own < length chain → own < 2 ^ 31 → of_z w32 (number_at chain i) ≡ own → true ≡ is_first chain names first own
      later-found w b e =
          sym (ap (λ (l : Link). is_at own (find left l)) (link-own (number_at chain i) own f b e) ∙ find-own left p w) ∙ later-next

      -- or elsewhere
      pub later-on : {rest : ℕ} → left ≡ rest + 1 → (of_z w32 (number_at chain i) ≡ own → ⊥) → Later first rest (number_at chain i)
      later-on e ne =
          record {
            fits = f;
            other = link-other (number_at chain i) own ne;
            rest = subst (λ (k : ℕ). is_at own (find k (link_at chain i)) ≡ is_first chain names first own) e later-next;
          }

-- ---- the head
-- is the buffer itself: it is the first
pub first-own : (chain : List ℤ) (names : List ℕ) (own : ℕ) (z : ℤ) → SFits w32 z → own < length chain → own < 2 ^ 31 → of_z w32 z ≡ own
    → true ≡ is_first chain names (link_of z) own
unfolding is_first
first-own chain names own z f w b e =
    sym
    (ap (λ (l : Link). is_at own (find chain names own (length chain) l)) (link-own z own f b e)
    ∙ find-own chain names own (length chain) (omega arith) w)
