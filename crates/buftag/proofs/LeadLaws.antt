-- Links counted, not walked. Where each buffer in use is met from the head of its home, and as many links lead on as there are buffers in
-- use, one link leads to each of them and none elsewhere, so each chain holds exactly its bucket's buffers, once. In sound chains as many
-- lead on.
use mathlib.Core.Path.{◌≡◌, refl, sym, ◌∙◌, ap, subst}
use mathlib.Core.Bool.{Bool, true, false, not, ◌&&◌, cond}
use mathlib.Core.Logic.{⊎_elim}
use mathlib.Core.List.{List, [], ◌∷◌}
use Prim.Native.Nat.{ℕ, suc, ◌+◌, ◌≤◌, ◌<◌}
use native.Mathlib.Omega.{arith}
use lib.Dec.{eqb}
use lib.IntN.{ℤ}
use lib.ListN.{length}
use borrow.Author.Tests.{eq-eqb, ne_eqb, eqb-true}
use Rattle.laws.specs.Sum.{sum, ind, count}
use Rattle.laws.specs.Times.{times}
use Rattle.laws.proofs.Tests.{and-true, and_left, and_right, lt-or-le, true-or-false, never}
use Rattle.laws.proofs.Sum.{ind-one, ind-none, ind-le, ind-some, ind-not, ind-parts, cond_ind, count-some, count_same}
use Rattle.laws.proofs.Sum.{sum_same, sum_below, sum-plus, sum-tight, sum-zero, sum-point', sum-swap, count-only, count-parts}
use Rattle.buftag.specs.declared.link.Link.{Link}
use Rattle.buftag.specs.declared.link.Link.TheVariants.{To, End, Off, Bad}
use Rattle.buftag.specs.Link.{link_at, is_end, is_to, Links, done, step, Holds}
use Rattle.buftag.specs.Lookup.{used}
use Rattle.buftag.specs.Chain.{in_bucket_by, ChainsBy}
use Rattle.buftag.specs.Check.{leading}
use Rattle.buftag.proofs.LinkLaws.{to-is_to, links-once}
use Rattle.buftag.proofs.MetLaws.{Within, ends, leads, within-to, Met, first, next, in-met, met-in, met-links}

-- ---- the links that lead to a place
-- how many of a list do
led : List ℤ → ℕ → ℕ
led ls i = count (length ls) (λ b. is_to i (link_at ls b))

module _ (n : ℕ) where
  -- a link leads to one place below n at most, and only if it leads on
  link-most : (l : Link) → sum n (λ i. ind (is_to i l)) ≤ ind (not (is_end l))
  link-most (To k) =
      ⊎_elim
      (λ h. omega (arith, sum-point' k n h))
      (λ h. omega (arith, sum-zero (λ i. ind (eqb k i)) n (λ i m. ind-none (ne_eqb k i (λ e. omega arith)))))
      (lt-or-le k n)
  link-most End = omega (arith, sum-zero (λ i. 0) n (λ i m. refl))
  link-most Off = omega (arith, sum-zero (λ i. 0) n (λ i m. refl))
  link-most Bad = omega (arith, sum-zero (λ i. 0) n (λ i m. refl))

  -- one that leads on leads to such a place, if these are as many
  link-within : (l : Link) → sum n (λ i. ind (is_to i l)) ≡ ind (not (is_end l)) → Within n l
  link-within (To k) e =
      ⊎_elim
      (λ h. leads h)
      (λ h. absurd (omega (arith, e, sum-zero (λ i. ind (eqb k i)) n (λ i m. ind-none (ne_eqb k i (λ q. omega arith))))))
      (lt-or-le k n)
  link-within End e = ends
  link-within Off e = absurd (omega (arith, e, sum-zero (λ i. 0) n (λ i m. refl)))
  link-within Bad e = absurd (omega (arith, e, sum-zero (λ i. 0) n (λ i m. refl)))

  -- the same of a list
  led-sum : (ls : List ℤ) → sum n (led ls) ≡ sum (length ls) (λ b. sum n (λ i. ind (is_to i (link_at ls b))))
  unfolding led count
  led-sum ls = sum-swap (λ i b. ind (is_to i (link_at ls b))) n (length ls)

  led-most : (ls : List ℤ) → sum n (led ls) ≤ leading ls
  unfolding leading count
  led-most ls =
      omega (
        arith,
        led-sum ls,
        sum_below (λ b. sum n (λ i. ind (is_to i (link_at ls b)))) (λ b. ind (not (is_end (link_at ls b)))) (length ls)
            (λ b h. link-most (link_at ls b)),
      )

  led-within : (ls : List ℤ) → sum n (led ls) ≡ leading ls → (b : ℕ) → b < length ls → Within n (link_at ls b)
  unfolding leading count
  led-within ls e b h =
      link-within (link_at ls b)
      (sum-tight (λ c. sum n (λ i. ind (is_to i (link_at ls c)))) (λ c. ind (not (is_end (link_at ls c)))) (length ls)
      (λ c m. link-most (link_at ls c)) (sym (led-sum ls) ∙ e) b h)

-- a link that leads to a place; where one does at most, two that do are one
led-some : (ls : List ℤ) (i b : ℕ) → b < length ls → link_at ls b ≡ To i → 0 < led ls i
unfolding led
led-some ls i b h e = count-some (λ c. is_to i (link_at ls c)) (length ls) b h (to-is_to i (link_at ls b) e)

led-same : (ls : List ℤ) (i : ℕ) → led ls i ≤ 1 → (b c : ℕ) → b < length ls → c < length ls → link_at ls b ≡ To i → link_at ls c ≡ To i
    → b ≡ c
unfolding led
led-same ls i most b c h g e f =
    count_same (λ d. is_to i (link_at ls d)) (length ls) most b c h g (to-is_to i (link_at ls b) e) (to-is_to i (link_at ls c) f)

-- ---- the last place of a list
-- how often a place stands in a list, if it passes
abbrev passing : (ℕ → Bool) → ℕ → List ℕ → ℕ
passing p k xs = cond (p k) (times k xs) 0

passing-nil : (p : ℕ → Bool) (k : ℕ) → passing p k [] ≡ 0
unfolding times
passing-nil p k = go (p k)
  where
    go : (t : Bool) {z : ℕ} → cond t z z ≡ z
    go true = refl
    go false = refl

passing-more : (p : ℕ → Bool) (k x : ℕ) (xs : List ℕ) → passing p k (x ∷ xs) ≡ ind (eqb k x && p k) + passing p k xs
unfolding times
passing-more p k x xs = go (eqb k x) (p k) (times k xs)
  where
    go : (e t : Bool) (m : ℕ) → cond t (ind e + m) 0 ≡ ind (e && t) + cond t m 0
    go true true m = refl
    go true false m = refl
    go false true m = refl
    go false false m = refl

-- the places of a list that pass are its first, if that passes, and those after it
sum-passing : (p : ℕ → Bool) (n x : ℕ) (xs : List ℕ) → x < n
    → sum n (λ k. passing p k (x ∷ xs)) ≡ ind (p x) + sum n (λ k. passing p k xs)
unfolding count
sum-passing p n x xs l =
    omega (
      arith,
      sum_same (λ k. passing p k (x ∷ xs)) (λ k. ind (eqb k x && p k) + passing p k xs) n (λ k h. passing-more p k x xs),
      sum-plus (λ k. ind (eqb k x && p k)) (λ k. passing p k xs) n,
      count-only (λ k. eqb k x && p k) n x l (λ k h t. eqb-true k x (and_left (eqb k x) (p k) t)),
      ap (λ (t : Bool). ind (t && p x)) (eq-eqb x x refl),
    )

-- the link of a place ends its list
abbrev last : List ℤ → ℕ → Bool
last ls k = is_end (link_at ls k)

-- a list that is not empty has one such place
links-last : {ls : List ℤ} {l : Link} {xs : List ℕ} → Links ls l xs → sum (length ls) (λ k. passing (last ls) k xs) ≡ ind (not (is_end l))
links-last {ls = ls} done = sum-zero _ (length ls) (λ k h. passing-nil (last ls) k)
links-last {ls = ls} (step {i = i} {is = is} h r) =
    omega (arith, sum-passing (last ls) (length ls) i is h, links-last r, ind-not (last ls i))

-- ---- the chains, whichever bucket is a buffer's home
module _ (words : List ℕ) (home : ℕ → ℕ) (heads chain : List ℤ) (len : length chain ≡ length words)
    (homes : (i : ℕ) → used words i ≡ true → home i < length heads) where
  -- the buffers in use, counted along the chain links
  many_is : count (length words) (used words) ≡ sum (length chain) (λ i. ind (used words i))
  unfolding count
  many_is = ap (λ (n : ℕ). sum n (λ i. ind (used words i))) (sym len)

  -- ---- each buffer in use is met from the head of its home, and as many links lead on
  module _ (met : (i : ℕ) → used words i ≡ true → (q : ℕ) × (q < length chain) × Met chain (link_at heads (home i)) q i)
      (as_many_is : leading heads + leading chain ≡ count (length words) (used words)) where
    -- how many links lead to i
    into : ℕ → ℕ
    into i = led heads i + led chain i

    -- to a buffer in use leads one at least
    met-into : {b q i : ℕ} → b < length heads → Met chain (link_at heads b) q i → 0 < into i
    unfolding into
    met-into {b = b} {i = i} h (first e) = omega (arith, led-some heads i b h e)
    met-into {i = i} h (next {j = j} m g e) = omega (arith, led-some chain i j g e)

    used-into : (i : ℕ) → ind (used words i) ≤ into i
    used-into i =
        ⊎_elim
        (λ u. omega (arith, ind-le (used words i), met-into (homes i u) (met i u).2))
        (λ f. omega (arith, ind-none f))
        (true-or-false (used words i))

    -- no fewer lead to buffers in use than these are, and no more lead on, so all these sums are one
    tight : (sum (length chain) (λ i. ind (used words i)) ≡ sum (length chain) into)
        × (sum (length chain) (led heads) ≡ leading heads) × (sum (length chain) (led chain) ≡ leading chain)
    unfolding into count
    tight =
        let n = length chain in
        let below = sum_below (λ i. ind (used words i)) into n (λ i h. used-into i) in
        let plus = sum-plus (led heads) (led chain) n in
        let most = led-most n heads in
        let most' = led-most n chain in (
          omega (arith, below, plus, most, most', as_many_is, many_is),
          omega (arith, below, plus, most, most', as_many_is, many_is),
          omega (arith, below, plus, most, most', as_many_is, many_is),
        )

    -- one link leads to each buffer in use, and none elsewhere
    into-is : (i : ℕ) → i < length chain → ind (used words i) ≡ into i
    into-is = sum-tight (λ i. ind (used words i)) into (length chain) (λ i h. used-into i) tight.0

    heads-within : (b : ℕ) → b < length heads → Within (length chain) (link_at heads b)
    heads-within = led-within (length chain) heads tight.1

    chain-within : (j : ℕ) → j < length chain → Within (length chain) (link_at chain j)
    chain-within = led-within (length chain) chain tight.2

    -- a place that is met is a buffer in use, and one link leads to it
    met-within : {b q i : ℕ} → b < length heads → Met chain (link_at heads b) q i → i < length chain
    met-within {b = b} h (first e) = within-to (heads-within b h) e
    met-within h (next {j = j} m g e) = within-to (chain-within j g) e

    met-used : {b q i : ℕ} → b < length heads → Met chain (link_at heads b) q i → used words i ≡ true
    met-used {i = i} h m = ind-some (used words i) (omega (arith, into-is i (met-within h m), met-into h m))

    into_one : {b q i : ℕ} → b < length heads → Met chain (link_at heads b) q i → led heads i + led chain i ≤ 1
    unfolding into
    into_one {i = i} h m = omega (arith, into-is i (met-within h m), ind-le (used words i))

    -- a place is met in one way only
    met-once : {b c p q i : ℕ} → b < length heads → c < length heads → Met chain (link_at heads b) p i → Met chain (link_at heads c) q i
        → (b ≡ c) × (p ≡ q)
    met-once {b = b} {c = c} {i = i} h g (first e) (first f) =
        (led-same heads i (omega (arith, into_one h (first e))) b c h g e f, refl)
    met-once {b = b} {i = i} h g (first e) (next {j = j} m w f) =
        absurd (omega (arith, into_one {b = b} {i = i} h (first e), led-some heads i b h e, led-some chain i j w f))
    met-once {c = c} {i = i} h g (next {j = j} m w e) (first f) =
        absurd (omega (arith, into_one {b = c} {i = i} g (first f), led-some heads i c g f, led-some chain i j w e))
    met-once {c = c} {i = i} h g (next {j = j} m w e) (next {q = q} {j = k} r v f) =
        let s = led-same chain i (omega (arith, into_one h (next m w e))) j k w v e f in
        let t = met-once h g m (subst (λ (x : ℕ). Met chain (link_at heads c) q x) (sym s) r) in
        (t.0, ap suc t.1)

    -- so each chain ends
    met-short : {b : ℕ} → b < length heads → (i : ℕ) → Met chain (link_at heads b) (length chain) i → ⊥
    met-short h i m =
        let u = met-used h m in
        let t = met i u in
        omega (arith, t.1, (met-once (homes i u) h t.2 m).1)

    -- and holds its bucket's buffers
    pub lead-holds : (b : ℕ) → b < length heads → Holds chain (link_at heads b) (in_bucket_by words home b)
    lead-holds b h =
        let s = met-links chain-within (length chain) (heads-within b h) (met-short h) in
        record {
          list = s.0;
          linked = s.1;
          once = λ k l.
              ⊎_elim
              (λ t.
              let u = and_left (used words k) _ t in
              let e = eqb-true (home k) b (and_right (used words k) _ t) in
              let m = subst (λ (c : ℕ). Met chain (link_at heads c) (met k u).0 k) e (met k u).2 in
              omega (arith, links-once s.1 k, met-in s.1 m, ind-one t))
              (λ f.
              ⊎_elim
              (λ g.
              let m = in-met k s.1 g in
              let u = met-used h m.1 in
              never (and-true u (eq-eqb (home k) b (met-once (homes k u) h (met k u).2 m.1).0)) f)
              (λ g. omega (arith, ind-none f))
              (lt-or-le 0 (times k s.0)))
              (true-or-false (in_bucket_by words home b k));
        }

  -- ---- sound chains
  module _ (sound : ChainsBy words home heads chain) where
    -- a chain whose head leads on has one last place, the others none
    last_one : (b : ℕ) → b < length heads
        → count (length chain) (λ k. (used words k && last chain k) && eqb (home k) b) ≡ ind (not (is_end (link_at heads b)))
    unfolding count
    last_one b h =
        let s = sound.each b h in
        sym
        (sum_same (λ k. passing (last chain) k s.list) _ (length chain)
        (λ k l.
        ap (λ (x : ℕ). cond (last chain k) x 0) (s.once k l) ∙ cond_ind (used words k) (last chain k) (eqb (home k) b)))
        ∙ links-last s.linked

    -- a buffer in use is the last of its chain, or its link leads on; no other leads on
    last-or-on : (k : ℕ) → k < length chain → ind (used words k && last chain k) + ind (not (last chain k)) ≡ ind (used words k)
    last-or-on k l = ind-parts (used words k) (last chain k) (λ f. ap is_end (sound.idle k l f))

    -- so as many links lead on as there are buffers in use
    pub lead-count : leading heads + leading chain ≡ count (length words) (used words)
    unfolding leading count
    lead-count =
        let B = length heads in
        let n = length chain in
        let both : ℕ → Bool = λ k. used words k && last chain k in
        omega (
          arith,
          many_is,
          count-parts both home B n (λ k l t. homes k (and_left (used words k) _ t)),
          sum_same (λ b. count n (λ k. both k && eqb (home k) b)) (λ b. ind (not (is_end (link_at heads b)))) B last_one,
          sum-plus (λ k. ind (both k)) (λ k. ind (not (last chain k))) n,
          sum_same (λ k. ind (both k) + ind (not (last chain k))) (λ k. ind (used words k)) n last-or-on,
        )
