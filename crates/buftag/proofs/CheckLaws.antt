-- The check of one list and the check of all chains are the tests of the definitions.
use mathlib.Core.Path.{◌≡◌, refl, sym, ◌∙◌, ap, subst}
use mathlib.Core.Bool.{Bool, true, false, ◌&&◌}
use mathlib.Core.Logic.{⊎_elim}
use mathlib.Core.List.{List}
use Prim.Native.Nat.{ℕ, ◌+◌, ◌≤◌, ◌<◌}
use native.Mathlib.Nat.{not-suc-le-zero, add-zero}
use native.Mathlib.Omega.{arith}
use lib.Dec.{eqb}
use lib.IntN.{ℤ}
use lib.ListN.{length}
use borrow.Author.Tests.{eqb-true, eq-eqb}
use Rattle.laws.specs.Every.{all}
use Rattle.laws.specs.Sum.{ind, count}
use Rattle.laws.specs.Times.{times}
use Rattle.laws.proofs.Tests.{and-true, and_left, and_right, same_tests, lt-or-le, never, true-or-false}
use Rattle.laws.proofs.Every.{all-at, all_of}
use Rattle.laws.proofs.Sum.{ind-one, sum_same, sum-tight}
use Rattle.laws.proofs.Times.{sum-times, present}
use Rattle.buftag.specs.declared.number.BufferNumber.{BufferNumber}
use Rattle.buftag.specs.declared.name.PageName.{PageName}
use Rattle.buftag.specs.declared.link.Link.{Link}
use Rattle.buftag.specs.declared.link.Link.TheVariants.{Off}
use Rattle.buftag.specs.Lookup.{Held}
use Rattle.std.specs.Prelude.{Some, None}
use Rattle.std.specs.Prelude.{Option}
use Rattle.std.specs.Prelude.{Some, None}
use Rattle.buftag.specs.Name.{bucket_of}
use Rattle.buftag.specs.Names.{name_at}
use Rattle.buftag.specs.Link.{link_at, is_end, Links, done, step, Holds, holds_test}
use Rattle.buftag.specs.Lookup.{used, walk}
use Rattle.buftag.specs.Chain.{in_bucket, bucket_at, ChainsSound, Distinct, chains_test}
use Rattle.buftag.specs.Budget.{spend, spent}
use Rattle.buftag.specs.Check.{is_at, is_first, finds_itself, stands, leading}
use Rattle.buftag.proofs.NameLaws.{bucket-lt}
use Rattle.buftag.proofs.LinkLaws.{is_end-true, links-in, links-out, links-once, links-fit, holds-says, holds-pass}
use Rattle.buftag.proofs.HoldsLaws.{used-in}
use Rattle.buftag.proofs.WalkLaws.{walk-hit, walk-miss}
use Rattle.buftag.proofs.BudgetLaws.{spend-links, links-spend}
use Rattle.buftag.proofs.MetLaws.{Met, walk-met}
use Rattle.buftag.proofs.LeadLaws.{lead-holds, lead-count}
use Rattle.buftag.proofs.TestLaws.{chains-say}

-- ---- lists of places that pass a test
module _ {ls : List ℤ} {l : Link} {xs : List ℕ} (p : ℕ → Bool) (r : Links ls l xs) (pass : (j : ℕ) → 0 < times j xs → p j ≡ true) where
  -- a place stands in such a list once at most, and only if it passes
  links-most : (j : ℕ) → times j xs ≤ ind (p j)
  links-most j =
      ⊎_elim (λ h. omega (arith, links-once r j, ind-one (pass j h))) (λ h. omega arith) (lt-or-le 0 (times j xs))

  -- if it is as long as they are many, it has each of them once
  links-full : length xs ≡ count (length ls) p → (j : ℕ) → j < length ls → times j xs ≡ ind (p j)
  unfolding count
  links-full e =
      sum-tight (λ j. times j xs) (λ j. ind (p j)) (length ls) (λ j h. links-most j) (sum-times (length ls) xs (links-out r) ∙ e)

-- a list that holds them all is as long
holds-long : {ls : List ℤ} {l : Link} (p : ℕ → Bool) (h : Holds ls l p) → length h.list ≡ count (length ls) p
unfolding count
holds-long {ls = ls} p h =
    sym (sum-times (length ls) h.list (links-out h.linked))
    ∙ sum_same (λ j. times j h.list) (λ j. ind (p j)) (length ls) h.once

-- a list does not start at −2, and so goes through no place whose link is −2
links-on : {ls : List ℤ} {l : Link} {xs : List ℕ} → Links ls l xs → l ≡ Off → ⊥
links-on done e = let z : ◌≡◌ {A = ℕ} 0 1 = cc in omega arith
links-on (step h r) e = let z : ◌≡◌ {A = ℕ} 0 1 = cc in omega arith

links-off : {ls : List ℤ} {l : Link} {xs : List ℕ} → Links ls l xs → (j : ℕ) → 0 < times j xs → link_at ls j ≡ Off → ⊥
unfolding times
links-off done j m e = not-suc-le-zero m
links-off {ls = ls} (step {i = i} {is = is} h r) j m e =
    ⊎_elim (λ q. links-on r (sym (ap (link_at ls) q) ∙ e)) (λ q. links-off r j q e) (present j i is m)

-- nothing is left only after a walk that ended
spent-is : (w : Option ℕ) → spent w ≡ true → w ≡ Some 0
spent-is (Some m) h = ap Some (eqb-true m 0 h)
spent-is None h = never h refl

-- ---- one list
module _ (ls : List ℤ) (l : Link) (ok : ℕ → Bool) (off : (i : ℕ) → i < length ls → ok i ≡ false → link_at ls i ≡ Off) where
  spent-holds : spend ls (count (length ls) ok) l ≡ Some 0 → Holds ls l ok
  spent-holds e =
      let s = spend-links ls (count (length ls) ok) l e in
      let pass : (j : ℕ) → 0 < times j s.0 → ok j ≡ true =
      λ j m. ⊎_elim (λ t. t) (λ f. absurd (links-off s.1 j m (off j (links-in s.1 j m) f))) (true-or-false (ok j)) in
      record { list = s.0; linked = s.1; once = links-full ok s.1 pass (omega (arith, s.2)) }

  holds-spent : Holds ls l ok → spend ls (count (length ls) ok) l ≡ Some 0
  holds-spent h = rw (← holds-long ok h) (rw add-zero at (links-spend ls 0 h.linked))

  -- where every place that fails the test has link −2, a list with as many places as pass holds exactly those
  pub list-is : spent (spend ls (count (length ls) ok) l) ≡ holds_test ls l ok
  list-is =
      same_tests _ (holds_test ls l ok)
      (λ h. (holds-says ls l ok).shown (spent-holds (spent-is _ h)))
      (λ h. ap spent (holds-spent ((holds-says ls l ok).holds h)))

-- ---- a buffer that the look-up of its name finds
is_at-true : (i : ℕ) (w : Held) → is_at i w ≡ true → (b : BufferNumber) × (w ≡ Some b) × (b.0 ≡ i)
is_at-true i (Some b) h = (b, refl, eqb-true b.0 i h)
is_at-true i None h = never h refl

is_at-same : (i j : ℕ) (w : Held) → is_at i w ≡ true → is_at j w ≡ true → i ≡ j
is_at-same i j (Some b) h g = sym (eqb-true b.0 i h) ∙ eqb-true b.0 j g
is_at-same i j None h g = never h refl

-- ---- the check of all chains
module _ (words names : List ℕ) (heads chain : List ℤ) (some : 0 < length heads) (len : length chain ≡ length words) where
  -- a buffer's home is a bucket
  homes : (i : ℕ) → used words i ≡ true → bucket_at names (length heads) i < length heads
  homes i u = bucket-lt (name_at names i) (length heads) some

  -- ---- a check that passes
  module _ (h : all (length chain) (stands words names heads chain) ≡ true) where
    -- what it says of a buffer in use
    finds : (i : ℕ) → used words i ≡ true → finds_itself names heads chain i ≡ true
    unfolding stands
    finds i u = rw u at (all-at (stands words names heads chain) (length chain) h i (omega (arith, used-in words i u)))

    -- two buffers of one name would both be the first found
    apart : Distinct words names
    unfolding finds_itself is_first
    apart i j u v e =
        let B = length heads in
        is_at-same i j (walk chain names (name_at names i) (length chain) (link_at heads (bucket_of (name_at names i) B))) (finds i u)
        (subst (λ (n : PageName). is_at j (walk chain names n (length chain) (link_at heads (bucket_of n B))) ≡ true) (sym e) (finds j v))

    -- a buffer in use is met on the walk that finds it
    met : (i : ℕ) → used words i ≡ true
        → (q : ℕ) × (q < length chain) × Met chain (link_at heads (bucket_at names (length heads) i)) q i
    unfolding finds_itself is_first
    met i u =
        let l = link_at heads (bucket_at names (length heads) i) in
        let a = is_at-true i _ (finds i u) in
        let w = walk-met chain names (name_at names i) (length chain) l a.1 in
        (w.0, w.1, subst (λ (k : ℕ). Met chain l w.0 k) a.2 w.2)

    check-test : leading heads + leading chain ≡ count (length words) (used words) → chains_test words names heads chain ≡ true
    unfolding stands
    check-test e =
        (chains-say words names heads chain).shown (
          record {
            each = lead-holds words (bucket_at names (length heads)) heads chain len homes met e;
            idle = λ i l u. is_end-true (link_at chain i) (rw u at (all-at (stands words names heads chain) (length chain) h i l));
          },
          apart,
        )

  -- ---- sound chains
  module _ (sound : ChainsSound words names heads chain) (apart : Distinct words names) where
    -- the walk of its bucket's chain finds each buffer in use
    found : (i : ℕ) → used words i ≡ true → finds_itself names heads chain i ≡ true
    unfolding finds_itself is_first
    found i u = go (walk chain names (name_at names i) (length chain) (link_at heads home)) refl
      where
        home : ℕ
        home = bucket_of (name_at names i) (length heads)

        its : Holds chain (link_at heads home) (in_bucket words names (length heads) home)
        its = sound.each home (bucket-lt (name_at names i) (length heads) some)

        go : (w : Held) → walk chain names (name_at names i) (length chain) (link_at heads home) ≡ w → is_at i w ≡ true
        go (Some j) e =
            let r = walk-hit chain names (name_at names i) (length chain) its.linked e in
            eq-eqb j.0 i (apart j.0 i (and_left (used words j.0) _ (holds-pass its j.0 r.0)) u r.1)
        go None e =
            absurd
            (walk-miss chain names (name_at names i) (length chain) its.linked (links-fit its.linked) e i
            (omega (arith, its.once i (omega (arith, used-in words i u)), ind-one (and-true u (eq-eqb home home refl)))) refl)

    standing : (i : ℕ) → i < length chain → stands words names heads chain i ≡ true
    unfolding stands
    standing i l =
        ⊎_elim (λ u. rw u (found i u)) (λ u. rw u (ap is_end (sound.idle i l u))) (true-or-false (used words i))

  -- the code's check is the test of the definition
  pub check-is :
      (all (length chain) (stands words names heads chain)
      && eqb (leading heads + leading chain) (count (length words) (used words)))
      ≡ chains_test words names heads chain
  check-is =
      let all-stand = all (length chain) (stands words names heads chain) in
      same_tests _ (chains_test words names heads chain)
      (λ h. check-test (and_left all-stand _ h) (eqb-true _ _ (and_right all-stand _ h)))
      (λ h.
      let s = (chains-say words names heads chain).holds h in
      and-true (all_of (stands words names heads chain) (length chain) (standing s.0 s.1))
      (eq-eqb _ _ (lead-count words (bucket_at names (length heads)) heads chain len homes s.0)))
