-- Laws of the walk with a budget, step by step, and of the list that it walks.
use mathlib.Core.Path.{◌≡◌, refl}
use mathlib.Core.Bool.{Bool, true, false, cond}
use mathlib.Core.List.{List, [], ◌∷◌}
use Prim.Native.Nat.{ℕ, zero, suc, ◌+◌, ◌-◌, ◌≤◌, ◌<◌}
use native.Mathlib.Numerals.{sub-one}
use native.Mathlib.Nat.{suc-add, zero-add}
use native.Mathlib.Omega.{arith}
use lib.Dec.{ltb}
use lib.IntN.{ℤ}
use lib.ListN.{length}
use borrow.Author.Tests.{ltb-true, lt-ltb, le-ltb}
use Rattle.buftag.specs.declared.link.Link.{Link}
use Rattle.buftag.specs.declared.link.Link.TheVariants.{To, End, Off, Bad}
use Rattle.std.specs.Prelude.{Option}
use Rattle.std.specs.Prelude.{Some, None}
use Rattle.buftag.specs.Link.{link_at, Links, done, step}
use Rattle.buftag.specs.Budget.{spend}
use Rattle.buftag.proofs.TagLaws.{NotTo}

-- ---- how a walk went that did not go wrong
wrong-left : {A : Type 0} {m : ℕ} → None ≡ Some m → A
wrong-left e = absurd (let z : ◌≡◌ {A = ℕ} 0 1 = cc in omega arith)

Left-same : {k m : ℕ} → Some k ≡ Some m → k ≡ m
Left-same e = cc

cond-left : (t : Bool) (w : Option ℕ) {m : ℕ} → cond t w None ≡ Some m → (t ≡ true) × (w ≡ Some m)
cond-left true w e = (refl, e)
cond-left false w e = wrong-left e

-- ---- the list
module _ (ls : List ℤ) where
  -- at the end all that is left is left
  pub spend-end : (k : ℕ) → spend ls k End ≡ Some k
  unfolding spend
  spend-end zero = refl
  spend-end (suc k) = refl

  -- a link that is neither the end nor a place
  pub spend-stops : (k : ℕ) (l : Link) → (l ≡ End → ⊥) → NotTo l → spend ls k l ≡ None
  unfolding spend
  spend-stops k (To i) e h = absurd (h _ refl)
  spend-stops k End e h = absurd (e refl)
  spend-stops zero Off e h = refl
  spend-stops (suc k) Off e h = refl
  spend-stops zero Bad e h = refl
  spend-stops (suc k) Bad e h = refl

  -- nothing is left for a place
  pub spend-none : (i : ℕ) → spend ls 0 (To i) ≡ None
  unfolding spend
  spend-none i = refl

  -- it lies outside the memory
  pub spend-past : (k i : ℕ) → length ls ≤ i → spend ls k (To i) ≡ None
  unfolding spend
  spend-past zero i h = refl
  spend-past (suc k) i h = rw (le-ltb i (length ls) h)

  -- a place of the memory
  pub spend-goes : (k i : ℕ) → 0 < k → i < length ls → spend ls k (To i) ≡ spend ls (k - 1) (link_at ls i)
  unfolding spend
  spend-goes zero i h t = absurd (omega arith)
  spend-goes (suc k) i h t = rw sub-one (rw (lt-ltb i (length ls) t))

  -- a walk that ends went through the places of the list
  pub spend-links : (k : ℕ) (l : Link) {m : ℕ} → spend ls k l ≡ Some m → (xs : List ℕ) × Links ls l xs × (length xs + m ≡ k)
  unfolding spend
  spend-links zero (To i) e = wrong-left e
  spend-links zero End e = ([], done, omega (arith, Left-same e))
  spend-links zero Off e = wrong-left e
  spend-links zero Bad e = wrong-left e
  spend-links (suc k) (To i) e =
      let p = cond-left (ltb i (length ls)) _ e in
      let r = spend-links k (link_at ls i) p.1 in
      (i ∷ r.0, step (ltb-true i (length ls) p.0) r.1, omega (arith, r.2))
  spend-links (suc k) End e = ([], done, omega (arith, Left-same e))
  spend-links (suc k) Off e = wrong-left e
  spend-links (suc k) Bad e = wrong-left e

  -- a list takes its length from the budget
  pub links-spend : {l : Link} {xs : List ℕ} (m : ℕ) → Links ls l xs → spend ls (length xs + m) l ≡ Some m
  unfolding spend
  links-spend m done = rw zero-add (spend-end m)
  links-spend m (step {i = i} h r) = rw suc-add (rw (lt-ltb i (length ls) h) (links-spend m r))
