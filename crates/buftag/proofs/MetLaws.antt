-- The places met from a link on are those of its list.
use mathlib.Core.Path.{◌≡◌, refl, sym, ◌∙◌, ap, subst}
use mathlib.Core.Logic.{⊎_elim}
use mathlib.Core.List.{List, [], ◌∷◌}
use Prim.Native.Nat.{ℕ, zero, suc, ◌<◌}
use native.Mathlib.Nat.{not-suc-le-zero}
use native.Mathlib.Omega.{arith}
use lib.IntN.{ℤ}
use lib.ListN.{length}
use Rattle.laws.specs.Times.{times}
use Rattle.laws.proofs.Tests.{lt-or-le, true-or-false}
use Rattle.laws.proofs.Times.{present, times-here, times-later}
use Rattle.buftag.specs.declared.number.BufferNumber.{BufferNumber}
use Rattle.buftag.specs.declared.name.PageName.{PageName}
use Rattle.buftag.specs.declared.link.Link.{Link}
use Rattle.buftag.specs.declared.link.Link.TheVariants.{To, End, Off, Bad}
use Rattle.std.specs.Prelude.{Some}
use Rattle.buftag.specs.Name.{same_name}
use Rattle.buftag.specs.Names.{name_at}
use Rattle.buftag.specs.Link.{link_at, Links, done, step}
use Rattle.buftag.specs.Lookup.{walk}
use Rattle.buftag.proofs.LinkLaws.{To-same, end-to}
use Rattle.buftag.proofs.WalkLaws.{At-same, not_at, walk-past, walk-found, walk-on}

-- a link that ends its list, or leads to a place below n
pub data Within (n : ℕ) : Link → Type 0 where
  ends : Within n End
  leads : {k : ℕ} → k < n → Within n (To k)

pub within-to : {n : ℕ} {l : Link} {k : ℕ} → Within n l → l ≡ To k → k < n
within-to ends e = end-to e
within-to {n = n} (leads h) e = subst (λ (j : ℕ). j < n) (To-same e) h

-- place i is met after q others, each within the memory
pub data Met (ls : List ℤ) (l : Link) : ℕ → ℕ → Type 0 where
  first : {i : ℕ} → l ≡ To i → Met ls l 0 i
  next : {q j i : ℕ} → Met ls l q j → j < length ls → link_at ls j ≡ To i → Met ls l (suc q) i

module _ {ls : List ℤ} where
  -- a place before: it is met one later
  met-later : {j q i : ℕ} → j < length ls → Met ls (link_at ls j) q i → Met ls (To j) (suc q) i
  met-later h (first e) = next (first refl) h e
  met-later h (next m g e) = next (met-later h m) g e

  -- the places of a list are met
  pub in-met : {l : Link} {xs : List ℕ} (k : ℕ) → Links ls l xs → 0 < times k xs → (q : ℕ) × Met ls l q k
  unfolding times
  in-met k done m = absurd (not-suc-le-zero m)
  in-met k (step {i = i} {is = is} h r) m =
      ⊎_elim
      (λ e. (0, first (ap To (sym e))))
      (λ g. let t = in-met k r g in (suc t.0, met-later h t.1))
      (present k i is m)

  -- and what is met is in the list
  starts-in : {l : Link} {xs : List ℕ} {k : ℕ} → Links ls l xs → l ≡ To k → 0 < times k xs
  starts-in done e = end-to e
  starts-in (step {i = i} {is = is} h r) e = subst (λ (j : ℕ). 0 < times j (i ∷ is)) (To-same e) (times-here i is)

  next-in : {l : Link} {xs : List ℕ} (j : ℕ) {k : ℕ} → Links ls l xs → 0 < times j xs → link_at ls j ≡ To k → 0 < times k xs
  unfolding times
  next-in j done m e = absurd (not-suc-le-zero m)
  next-in j {k = k} (step {i = i} {is = is} h r) m e =
      times-later k i is
      (⊎_elim (λ q. starts-in r (sym (ap (link_at ls) q) ∙ e)) (λ q. next-in j r q e) (present j i is m))

  pub met-in : {l : Link} {xs : List ℕ} {q k : ℕ} → Links ls l xs → Met ls l q k → 0 < times k xs
  met-in r (first e) = starts-in r e
  met-in r (next {j = j} m h e) = next-in j r (met-in r m) e

  -- where every link ends its list or leads to a place, and none is met after m others, a list ends
  module _ (each : (j : ℕ) → j < length ls → Within (length ls) (link_at ls j)) where
    pub met-links : (m : ℕ) {l : Link} → Within (length ls) l → ((x : ℕ) → Met ls l m x → ⊥) → (xs : List ℕ) × Links ls l xs
    met-links zero ends none = ([], done)
    met-links zero (leads {k = k} h) none = absurd (none k (first refl))
    met-links (suc m) ends none = ([], done)
    met-links (suc m) (leads {k = k} h) none =
        let t = met-links m (each k h) (λ x r. none x (met-later h r)) in
        (k ∷ t.0, step h t.1)

-- what a walk finds is met on it
pub walk-met : (chain : List ℤ) (names : List ℕ) (n : PageName) (k : ℕ) (l : Link) {b : BufferNumber} → walk chain names n k l ≡ Some b
    → (q : ℕ) × (q < k) × Met chain l q b.0
unfolding walk
walk-met chain names n zero l e = not_at e
walk-met chain names n (suc k) (To i) e =
    ⊎_elim
    (λ h.
    ⊎_elim
    (λ t. (0, omega arith, first (ap To (At-same (sym (walk-found chain names n (suc k) i (omega arith) h t) ∙ e)))))
    (λ f.
    let r = walk-met chain names n k (link_at chain i) (sym (walk-on chain names n k i h f) ∙ e) in
    (suc r.0, omega (arith, r.1), met-later h r.2))
    (true-or-false (same_name (name_at names i) n)))
    (λ h. not_at (sym (walk-past chain names n (suc k) i h) ∙ e))
    (lt-or-le i (length chain))
walk-met chain names n (suc k) End e = not_at e
walk-met chain names n (suc k) Off e = not_at e
walk-met chain names n (suc k) Bad e = not_at e
