-- Laws of lists kept as links.
use mathlib.Core.Path.{◌≡◌, refl, sym, ◌∙◌, ap, subst}
use mathlib.Core.Bool.{Bool, true, false≢true}
use mathlib.Core.Logic.{◌≢◌, ⊎_elim}
use mathlib.Core.List.{List, ◌∷◌}
use Prim.Native.Nat.{ℕ, zero, suc, ◌≤◌, ◌<◌}
use native.Mathlib.Nat.{not-suc-le-zero}
use native.Mathlib.Omega.{arith}
use lib.Dec.{ltb, eqb}
use lib.IntN.{ℤ, pos}
use lib.ListN.{length, set, length-set}
use lib.Seq.{get_or-set_same, get_or-set_other}
use borrow.Author.Tests.{lt-ltb, ltb-true, eqb-true, eq-eqb}
use Rattle.laws.specs.Every.{all}
use Rattle.laws.specs.Sum.{ind}
use Rattle.laws.specs.Times.{times}
use Rattle.laws.specs.Says.{Says}
use Rattle.laws.proofs.Tests.{and-true, and_left, and_right, lt-or-le, true-or-false}
use Rattle.laws.proofs.Every.{all-at, all_of}
use Rattle.laws.proofs.Sum.{ind-none, ind-some, ind-le, sum_below, sum_ones}
use Rattle.laws.proofs.Times.{times-self, present, absent, sum-times}
use Rattle.buftag.specs.declared.link.Link.{Link}
use Rattle.buftag.specs.declared.link.Link.TheVariants.{To, End, Off, Bad}
use Rattle.buftag.specs.Link.{link_of, link_at, is_end, is_to, Links, done, step, Holds, ends, members, holds_test}

-- ---- what a link says
-- the tests that a link leads to i, and that it ends
pub is_to-true : (i : ℕ) (l : Link) → is_to i l ≡ true → l ≡ To i
is_to-true i (To j) e = ap To (eqb-true j i e)
is_to-true i End e = absurd (false≢true e)
is_to-true i Off e = absurd (false≢true e)
is_to-true i Bad e = absurd (false≢true e)

pub to-is_to : (i : ℕ) (l : Link) → l ≡ To i → is_to i l ≡ true
to-is_to i l e = ap (is_to i) e ∙ eq-eqb i i refl

pub is_end-true : (l : Link) → is_end l ≡ true → l ≡ End
is_end-true (To i) e = absurd (false≢true e)
is_end-true End e = refl
is_end-true Off e = absurd (false≢true e)
is_end-true Bad e = absurd (false≢true e)

pub To-same : {i j : ℕ} → To i ≡ To j → i ≡ j
To-same e = cc

-- the end leads to no place
pub end-to : {A : Type 0} {i : ℕ} → End ≡ To i → A
end-to e = absurd (let z : ◌≡◌ {A = ℕ} 0 1 = cc in omega arith)

-- ---- the list of a link
module _ {ls : List ℤ} where
  -- there is only one
  pub links-same : {l : Link} {xs ys : List ℕ} → Links ls l xs → Links ls l ys → xs ≡ ys
  links-same done done = refl
  links-same (step {i = i} h r) (step h' r') = ap (λ (t : List ℕ). i ∷ t) (links-same r r')

  -- its places are within the memory
  pub links-in : {l : Link} {xs : List ℕ} → Links ls l xs → (k : ℕ) → 0 < times k xs → k < length ls
  unfolding times
  links-in done k m = absurd (not-suc-le-zero m)
  links-in (step {i = i} {is = is} h r) k m = ⊎_elim (λ e. rw e h) (links-in r k) (present k i is m)

  -- so it has none outside
  pub links-out : {l : Link} {xs : List ℕ} → Links ls l xs → (k : ℕ) → length ls ≤ k → times k xs ≡ 0
  links-out {xs = xs} r k h = ⊎_elim (λ m. omega (arith, links-in r k m)) (λ m. omega arith) (lt-or-le 0 (times k xs))

  -- a place of it starts a list that is no longer
  links-from : {l : Link} {xs : List ℕ} (k : ℕ) → Links ls l xs → 0 < times k xs
      → (ys : List ℕ) × Links ls (To k) ys × (length ys ≤ length xs)
  unfolding times
  links-from k done m = absurd (not-suc-le-zero m)
  links-from k (step {i = i} {is = is} h r) m =
      ⊎_elim
      (λ e. (i ∷ is, rw e (step h r), omega arith))
      (λ q. let t = links-from k r q in (t.0, t.1, omega (arith, t.2)))
      (present k i is m)

  -- it has no place twice
  pub links-once : {l : Link} {xs : List ℕ} → Links ls l xs → (k : ℕ) → times k xs ≤ 1
  unfolding times
  links-once done k = omega arith
  links-once (step {i = i} {is = is} h r) k =
      ⊎_elim
      (λ e.
      ⊎_elim
      (λ m.
      let t = links-from k r m in
      let s : i ∷ is ≡ t.0 = links-same (step h r) (subst (λ (j : ℕ). Links ls (To j) t.0) (eqb-true k i e) t.1) in
      omega (arith, ap length s, t.2))
      (λ m. omega (arith, ind-le (eqb k i)))
      (lt-or-le 0 (times k is)))
      (λ e. omega (arith, ind-none e, links-once r k))
      (true-or-false (eqb k i))

  -- it is no longer than the memory
  pub links-fit : {l : Link} {xs : List ℕ} → Links ls l xs → length xs ≤ length ls
  links-fit {xs = xs} r =
      omega (
        arith,
        sum-times (length ls) xs (links-out r),
        sum_below (λ k. times k xs) (λ k. 1) (length ls) (λ k h. links-once r k),
        sum_ones (length ls),
      )

  -- its first place does not stand in it again
  pub links-fresh : {l : Link} {i : ℕ} {xs : List ℕ} → Links ls l (i ∷ xs) → times i xs ≡ 0
  links-fresh {i = i} {xs = xs} r = omega (arith, links-once r i, times-self i xs)

-- ---- a store
link_set : (ls : List ℤ) (i j : ℕ) (z : ℤ) → j ≢ i → link_at (set ls i z) j ≡ link_at ls j
link_set ls i j z ne = ap link_of (get_or-set_other ls i j z (pos 0) ne)

module _ {ls : List ℤ} (i : ℕ) (z : ℤ) where
  -- at a place that is not in a list, it keeps the list
  pub links-kept : {l : Link} {xs : List ℕ} → Links ls l xs → times i xs ≡ 0 → Links (set ls i z) l xs
  links-kept done n = done
  links-kept (step {i = j} {is = js} h r) n =
      let a = absent i j js n in
      step {i = j} (rw length-set h)
      (subst (λ (l : Link). Links (set ls i z) l js) (sym (link_set ls i j z (λ e. a.0 (sym e)))) (links-kept r a.1))

  -- a place that is not in a list, put before it
  pub links-push : {xs : List ℕ} → i < length ls → Links ls (link_of z) xs → times i xs ≡ 0 → Links (set ls i z) (To i) (i ∷ xs)
  links-push {xs} h r n =
      step {i = i} (rw length-set h)
      (subst (λ (y : ℤ). Links (set ls i z) (link_of y) xs) (sym (get_or-set_same ls i z (pos 0) h)) (links-kept r n))

-- ---- the test
module _ (ls : List ℤ) where
  ends-links : (k : ℕ) (l : Link) → ends ls k l ≡ true → Links ls l (members ls k l)
  unfolding ends members
  ends-links zero (To i) e = absurd (false≢true e)
  ends-links zero End e = done
  ends-links zero Off e = absurd (false≢true e)
  ends-links zero Bad e = absurd (false≢true e)
  ends-links (suc k) (To i) e =
      step (ltb-true i (length ls) (and_left _ (ends ls k (link_at ls i)) e))
      (ends-links k (link_at ls i) (and_right (ltb i (length ls)) (ends ls k (link_at ls i)) e))
  ends-links (suc k) End e = done
  ends-links (suc k) Off e = absurd (false≢true e)
  ends-links (suc k) Bad e = absurd (false≢true e)

  links-ends : (k : ℕ) {l : Link} {xs : List ℕ} → Links ls l xs → length xs ≤ k → ends ls k l ≡ true
  unfolding ends
  links-ends zero done h = refl
  links-ends zero (step p r) h = absurd (omega arith)
  links-ends (suc k) done h = refl
  links-ends (suc k) (step {i = i} p r) h = and-true (lt-ltb i (length ls) p) (links-ends k r (omega arith))

  links-members : (k : ℕ) {l : Link} {xs : List ℕ} → Links ls l xs → length xs ≤ k → members ls k l ≡ xs
  unfolding members
  links-members zero done h = refl
  links-members zero (step p r) h = absurd (omega arith)
  links-members (suc k) done h = refl
  links-members (suc k) (step {i = i} p r) h = ap (λ (t : List ℕ). i ∷ t) (links-members k r (omega arith))

  module _ (l : Link) (ok : ℕ → Bool) where
    as_many : ℕ → Bool
    as_many k = eqb (times k (members ls (length ls) l)) (ind (ok k))

    -- it decides that the list holds exactly the places that pass, once
    pub holds-says : Says (holds_test ls l ok) (Holds ls l ok)
    unfolding holds_test as_many
    holds-says =
        record {
          holds = λ h.
              record {
                list = members ls (length ls) l;
                linked = ends-links (length ls) l (and_left _ (all (length ls) as_many) h);
                once = λ k b. eqb-true _ _ (all-at as_many (length ls) (and_right (ends ls (length ls) l) _ h) k b);
              };
          shown = λ s.
              let e = links-members (length ls) s.linked (links-fit s.linked) in
              and-true (links-ends (length ls) s.linked (links-fit s.linked))
              (all_of as_many (length ls) (λ k b. eq-eqb _ _ (ap (times k) e ∙ s.once k b)));
        }

-- the same list for a test that agrees
pub holds-like : {ls : List ℤ} {l : Link} (p q : ℕ → Bool) → ((k : ℕ) → k < length ls → p k ≡ q k) → Holds ls l p → Holds ls l q
holds-like p q same h = record { list = h.list; linked = h.linked; once = λ k b. h.once k b ∙ ap ind (same k b) }

-- a list that holds exactly the places that pass has no other
pub holds-pass : {ls : List ℤ} {l : Link} {p : ℕ → Bool} (h : Holds ls l p) (k : ℕ) → 0 < times k h.list → p k ≡ true
holds-pass {p = p} h k m = ind-some (p k) (omega (arith, h.once k (links-in h.linked k m)))
