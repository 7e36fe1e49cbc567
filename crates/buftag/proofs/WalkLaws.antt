-- Laws of the look-up's walk: step by step, and what it answers of a list.
use Prim.Native.Nat.{ℕ, zero, suc, ◌+◌, ◌≤◌, ◌<◌}
use mathlib.Core.Path.{◌≡◌, refl, sym, ◌∙◌, ap, subst}
use mathlib.Core.Bool.{true, false}
use mathlib.Core.Logic.{⊎_elim}
use mathlib.Core.List.{List, ◌∷◌}
use native.Mathlib.Nat.{not-suc-le-zero}
use native.Mathlib.Numerals.{add-one}
use native.Mathlib.Omega.{arith}
use lib.IntN.{ℤ}
use lib.ListN.{length}
use borrow.Author.Tests.{lt-ltb, le-ltb, ne_eqb}
use Rattle.laws.specs.Times.{times}
use Rattle.laws.proofs.Tests.{true-or-false, never}
use Rattle.laws.proofs.Sum.{ind-none}
use Rattle.laws.proofs.Times.{times-here, times-later}
use Rattle.buftag.specs.declared.number.BufferNumber.{BufferNumber}
use Rattle.buftag.specs.declared.name.PageName.{PageName}
use Rattle.buftag.specs.declared.link.Link.{Link}
use Rattle.buftag.specs.declared.link.Link.TheVariants.{To, End, Off, Bad}
use Rattle.std.specs.Prelude.{Some, None}
use Rattle.buftag.specs.Name.{same_name}
use Rattle.buftag.specs.Names.{name_at}
use Rattle.buftag.specs.Link.{link_at, Links, done, step}
use Rattle.buftag.specs.Lookup.{walk}
use Rattle.buftag.proofs.TagLaws.{NotTo}
use Rattle.buftag.proofs.NameLaws.{says-same-name}

pub At-same : {a b : BufferNumber} → Some a ≡ Some b → a.0 ≡ b.0
At-same e = cc

-- no buffer is not a buffer
pub not_at : {A : Type 0} {b : BufferNumber} → None ≡ Some b → A
not_at e = absurd (let z : ◌≡◌ {A = ℕ} 0 1 = cc in omega arith)

module _ (chain : List ℤ) (names : List ℕ) (n : PageName) where
  -- ---- a turn of the loop
  -- no step is left
  pub walk_none : (l : Link) → walk chain names n 0 l ≡ None
  unfolding walk
  walk_none l = refl

  -- a link that is no place
  pub walk-other : (k : ℕ) (l : Link) → NotTo l → walk chain names n k l ≡ None
  unfolding walk
  walk-other k (To i) h = absurd (h _ refl)
  walk-other zero End h = refl
  walk-other (suc k) End h = refl
  walk-other zero Off h = refl
  walk-other (suc k) Off h = refl
  walk-other zero Bad h = refl
  walk-other (suc k) Bad h = refl

  -- a place outside the memory
  pub walk-past : (k i : ℕ) → length chain ≤ i → walk chain names n k (To i) ≡ None
  unfolding walk
  walk-past zero i h = refl
  walk-past (suc k) i h = rw (le-ltb i (length chain) h)

  -- a place that has the name
  pub walk-found : (k i : ℕ) → 0 < k → i < length chain → same_name (name_at names i) n ≡ true
      → walk chain names n k (To i) ≡ Some (record { 0 = i })
  unfolding walk
  walk-found zero i p h e = absurd (omega arith)
  walk-found (suc k) i p h e = rw (lt-ltb i (length chain) h, e)

  -- and one that has not
  pub walk-on : (k i : ℕ) → i < length chain → same_name (name_at names i) n ≡ false
      → walk chain names n (suc k) (To i) ≡ walk chain names n k (link_at chain i)
  unfolding walk
  walk-on k i h e = rw (lt-ltb i (length chain) h, e)

  -- the same with the steps counted as the code does
  pub walk-next : {k : ℕ} (j i : ℕ) → k ≡ j + 1 → i < length chain → same_name (name_at names i) n ≡ false
      → walk chain names n k (To i) ≡ walk chain names n j (link_at chain i)
  walk-next j i p h e = rw (p, add-one) (walk-on j i h e)

  -- ---- of a list
  -- what it finds is in the list and has the name
  pub walk-hit : (k : ℕ) {l : Link} {xs : List ℕ} {b : BufferNumber} → Links chain l xs → walk chain names n k l ≡ Some b
      → (0 < times b.0 xs) × (name_at names b.0 ≡ n)
  unfolding walk times
  walk-hit zero done e = not_at e
  walk-hit zero (step h r) e = not_at e
  walk-hit (suc k) done e = not_at e
  walk-hit (suc k) {b = b} (step {i = i} {is = is} h r) e =
      ⊎_elim
      (λ t.
      subst (λ (j : ℕ). (0 < times j (i ∷ is)) × (name_at names j ≡ n)) (At-same (sym (walk-found (suc k) i (omega arith) h t) ∙ e))
      (times-here i is, (says-same-name (name_at names i) n).holds t))
      (λ t. let w = walk-hit k r (sym (walk-on k i h t) ∙ e) in (times-later b.0 i is w.0, w.1))
      (true-or-false (same_name (name_at names i) n))

  -- where it finds nothing, none in the list has the name
  pub walk-miss : (k : ℕ) {l : Link} {xs : List ℕ} → Links chain l xs → length xs ≤ k → walk chain names n k l ≡ None
      → (i : ℕ) → 0 < times i xs → name_at names i ≡ n → ⊥
  unfolding walk times
  walk-miss zero done f e j m q = not-suc-le-zero m
  walk-miss zero (step h r) f e j m q = omega arith
  walk-miss (suc k) done f e j m q = not-suc-le-zero m
  walk-miss (suc k) (step {i = i} {is = is} h r) f e j m q =
      ⊎_elim
      (λ t. not_at (sym e ∙ walk-found (suc k) i (omega arith) h t))
      (λ t.
      walk-miss k r (omega arith) (sym (walk-on k i h t) ∙ e) j
      (omega (
        arith,
        ind-none (ne_eqb j i (λ s. never ((says-same-name (name_at names i) n).shown (sym (ap (name_at names) s) ∙ q)) t)),
      )) q)
      (true-or-false (same_name (name_at names i) n))
