-- One pool's shelf and the pins of its list: the number that a pin got holds the page that it was for, until the pin is given back.
use Prim.Native.Nat.{ℕ, suc, ◌+◌, ◌-◌, ◌≤◌, ◌<◌}
use native.Mathlib.Omega.{arith}
use mathlib.Core.Path.{◌≡◌, refl, sym, ap, ◌∙◌, subst}
use mathlib.Core.Bool.{Bool, true, false, not, ◌&&◌, cond}
use mathlib.Core.Logic.{◌≢◌, ⊎_elim}
use lib.Dec.{eqb}
use borrow.Author.Tests.{eqb-true, eq-eqb, ne_eqb, not-true}
use Rattle.laws.specs.Sum.{sum, ind, count}
use Rattle.laws.specs.First.{Found, found, missing}
use Rattle.laws.specs.Says.{Says}
use Rattle.laws.proofs.Tests.{true-or-false, eq-or-ne, and_left, and_right, and-true, never}
use Rattle.laws.proofs.Says.{says_eq, says-not, says_any}
use Rattle.laws.proofs.Sum.{ind-one, ind-none, ind-le, sum_same, sum_below, sum-zero, count-some, count-change}
use Rattle.laws.proofs.First.{found-same, found-missing}
use Rattle.shelf.specs.Shelf.{Shelf, with, pins_in, has_pins, still_held, count_with, with_pins, pinned_at, unpinned_at, given_back}
use Rattle.shelf.proofs.WithLaws.{with-same, with-other, count_same, count-holder, count-page}
use Rattle.twopools.specs.Pins.{Pins}

-- the pin of call k is not given back, is of page x and of holder h
abbrev pub mine : Pins → (ℕ → ℕ) → ℕ → ℕ → ℕ → Bool
mine p page h x k = p.held k && (eqb (page k) x && eqb (p.holder k) h)

-- page: the pages that the pins are for
pub record Booked (s : Shelf) (p : Pins) (page : ℕ → ℕ) : Type 0 where
  pub below : (k : ℕ) → p.held k ≡ true → p.number k < s.buffers
  pub holds : (k : ℕ) → p.held k ≡ true → s.holds (p.number k) ≡ found (page k)
  -- a holder's count of a page is at least the number of its pins of it that are not given back
  pub owed : (h x : ℕ) → count p.made (mine p page h x) ≤ s.counts h x
  pub who : (k : ℕ) → p.held k ≡ true → p.holder k < 64
  pub made : (k : ℕ) → p.held k ≡ true → k < p.made

-- ---- a page has pins exactly where some holder has a count of it
pub pins-say : (counts : ℕ → ℕ → ℕ) (x : ℕ) → Says (pins_in counts x) ((h : ℕ) × (h < 64) × (counts h x ≢ 0))
unfolding pins_in
pins-say counts x =
    says_any 64 (λ h. not (eqb (counts h x) 0)) (λ h. counts h x ≢ 0) (λ h l. says-not (says_eq (counts h x) 0))

-- a pin that is not given back is counted
mine-self : (p : Pins) (page : ℕ → ℕ) (k : ℕ) → p.held k ≡ true → mine p page (p.holder k) (page k) k ≡ true
mine-self p page k e = and-true e (and-true (eq-eqb (page k) (page k) refl) (eq-eqb (p.holder k) (p.holder k) refl))

pub owed-some : (counts : ℕ → ℕ → ℕ) (p : Pins) (page : ℕ → ℕ) → ((h x : ℕ) → count p.made (mine p page h x) ≤ counts h x)
    → (k : ℕ) → p.held k ≡ true → k < p.made → counts (p.holder k) (page k) ≢ 0
owed-some counts p page owed k e l z =
    omega (
      arith,
      z,
      owed (p.holder k) (page k),
      count-some (mine p page (p.holder k) (page k)) p.made k l (mine-self p page k e),
    )

-- so its page stays where it is
owed_held : (counts : ℕ → ℕ → ℕ) (p : Pins) (page : ℕ → ℕ) → ((h x : ℕ) → count p.made (mine p page h x) ≤ counts h x)
    → (k : ℕ) → p.held k ≡ true → k < p.made → p.holder k < 64 → still_held counts (found (page k)) ≡ found (page k)
unfolding still_held
owed_held counts p page owed k e l who =
    ap (λ (t : Bool). cond t (found (page k)) missing)
    ((pins-say counts (page k)).shown (p.holder k, who, owed-some counts p page owed k e l))

-- ---- a call that changes no pin
abbrev pub onward : Pins → Pins
onward p = record { made = suc p.made; number = p.number; holder = p.holder; held = p.held }

-- that call k was no pin
not_made : {s : Shelf} {p : Pins} {page : ℕ → ℕ} → Booked s p page → (k : ℕ) → p.made ≤ k → p.held k ≡ false
not_made {p} u k l = ⊎_elim (λ t. absurd (omega (arith, l, u.made k t))) (λ f. f) (true-or-false (p.held k))

pub booked-on : {s t : Shelf} {p : Pins} {page : ℕ → ℕ} → s.buffers ≡ t.buffers → s.counts ≡ t.counts → s.holds ≡ t.holds
    → Booked s p page → Booked t (onward p) page
unfolding count sum
booked-on {s} {t} {p} {page} e f g u =
    record {
      below = λ k o. subst (λ (n : ℕ). p.number k < n) e (u.below k o);
      holds = λ k o. ap (λ (z : ℕ → Found). z (p.number k)) (sym g) ∙ u.holds k o;
      owed = λ h x.
          omega (
            arith,
            u.owed h x,
            ap (λ (z : ℕ → ℕ → ℕ). z h x) f,
            ap (λ (b : Bool). ind (b && (eqb (page p.made) x && eqb (p.holder p.made) h))) (not_made u p.made (omega arith)),
          );
      who = u.who;
      made = λ k o. omega (arith, u.made k o);
    }

-- ---- an accepted pin of page x by holder h, which got number b
module _ (s : Shelf) (p : Pins) (page : ℕ → ℕ) (h b x : ℕ) (u : Booked s p page) (few : h < 64) (below : b < s.buffers)
    (had : has_pins s x ≡ true → s.holds b ≡ found x) (fresh : has_pins s x ≡ false → s.holds b ≡ missing) where
  abbrev n : ℕ
  n = p.made

  -- the pins and their pages with it
  abbrev more : Pins
  more =
      record {
        made = suc p.made;
        number = with p.made b p.number;
        holder = with p.made h p.holder;
        held = with p.made true p.held;
      }

  abbrev pages : ℕ → ℕ
  pages = with p.made x page

  -- whatever page the number held is this one
  held-this : (y : ℕ) → s.holds b ≡ found y → y ≡ x
  held-this y e =
      ⊎_elim (λ t. found-same (sym e ∙ had t)) (λ f. found-missing (sym e ∙ fresh f)) (true-or-false (has_pins s x))

  -- the numbers that held a page hold it still
  pin-holds : (c y : ℕ) → s.holds c ≡ found y → with b (found x) s.holds c ≡ found y
  pin-holds c y e =
      ⊎_elim
      (λ q. rw (eq-eqb c b q) (ap found (sym (held-this y (ap s.holds (sym q) ∙ e)))))
      (λ ne. with-other b (found x) s.holds c ne ∙ e)
      (eq-or-ne c b)

  -- the pins made before are what they were, and there is this one
  mine-old : (j y k : ℕ) → k ≢ n → mine more pages j y k ≡ mine p page j y k
  mine-old j y k ne = rw (ne_eqb k n ne) refl

  mine-new : (j y : ℕ) → mine more pages j y n ≡ (eqb x y && eqb h j)
  mine-new j y = rw (eq-eqb n n refl) refl

  mine-count : (j y : ℕ) → count (suc n) (mine more pages j y) ≡ count n (mine p page j y) + ind (eqb x y && eqb h j)
  unfolding count sum
  mine-count j y =
      omega (
        arith,
        sum_same (λ k. ind (mine more pages j y k)) (λ k. ind (mine p page j y k)) n (λ k l. ap ind (mine-old j y k (λ e. omega arith))),
        ap ind (mine-new j y),
      )

  pin-owed : (j y : ℕ) → count (suc n) (mine more pages j y) ≤ count_with h x (s.counts h x + 1) s.counts j y
  pin-owed j y =
      let c = s.counts h x + 1 in
      ⊎_elim
      (λ q.
      ⊎_elim
      (λ r.
      omega (
        arith,
        mine-count j y,
        ind-le (eqb x y && eqb h j),
        u.owed j y,
        ap (λ (i : ℕ). count_with h x c s.counts i y) r,
        ap (count_with h x c s.counts h) q,
        count_same h x c s.counts,
        ap (λ (i : ℕ). s.counts i y) r,
        ap (s.counts h) q,
      ))
      (λ ne.
      omega (
        arith,
        mine-count j y,
        ind-none {b = eqb x y && eqb h j} (rw (ne_eqb h j (λ e. ne (sym e))) (and_none (eqb x y))),
        u.owed j y,
        count-holder h x c s.counts j y ne,
      ))
      (eq-or-ne j h))
      (λ ne.
      omega (
        arith,
        mine-count j y,
        ind-none {b = eqb x y && eqb h j} (rw (ne_eqb x y (λ e. ne (sym e))) refl),
        u.owed j y,
        count-page h x c s.counts j y ne,
      ))
      (eq-or-ne y x)
    where
      and_none : (t : Bool) → (t && false) ≡ false
      and_none true = refl
      and_none false = refl

  -- a pin that was held, where this one is not meant
  held-old : (k : ℕ) → k ≢ n → more.held k ≡ true → p.held k ≡ true
  held-old k ne e = sym (with-other n true p.held k ne) ∙ e

  pub pin-booked : Booked (pinned_at s h b (found x)) more pages
  unfolding pinned_at
  pin-booked =
      record {
        below = λ k e.
            ⊎_elim (λ q. rw (eq-eqb k n q) below) (λ ne. rw (ne_eqb k n ne) (u.below k (held-old k ne e))) (eq-or-ne k n);
        holds = λ k e.
            ⊎_elim
            (λ q. rw (eq-eqb k n q) (with-same b (found x) s.holds))
            (λ ne. rw (ne_eqb k n ne) (pin-holds (p.number k) (page k) (u.holds k (held-old k ne e))))
            (eq-or-ne k n);
        owed = pin-owed;
        who = λ k e. ⊎_elim (λ q. rw (eq-eqb k n q) few) (λ ne. rw (ne_eqb k n ne) (u.who k (held-old k ne e))) (eq-or-ne k n);
        made = λ k e. ⊎_elim (λ q. omega (arith, q)) (λ ne. omega (arith, u.made k (held-old k ne e))) (eq-or-ne k n);
      }

-- ---- some pins given back: those that are held still, under counts that cover them, are booked
module _ (s : Shelf) (p : Pins) (page : ℕ → ℕ) (u : Booked s p page) (held : ℕ → Bool) (fewer : (k : ℕ) → held k ≡ true → p.held k ≡ true)
  where
    abbrev rest : Pins
    rest = record { made = suc p.made; number = p.number; holder = p.holder; held = held }

    -- with those made so far counted
    abbrev before : Pins
    before = record { made = p.made; number = p.number; holder = p.holder; held = held }

    rest-made : (k : ℕ) → held k ≡ true → k < p.made
    rest-made k e = u.made k (fewer k e)

    rest-count : (h x : ℕ) → count (suc p.made) (mine rest page h x) ≡ count p.made (mine before page h x)
    unfolding count sum
    rest-count h x =
        let closed : held p.made ≡ false =
        ⊎_elim (λ t. absurd (omega (arith, rest-made p.made t))) (λ f. f) (true-or-false (held p.made)) in
        omega (arith, ap (λ (b : Bool). ind (b && (eqb (page p.made) x && eqb (p.holder p.made) h))) closed)

    pub back-booked : (counts : ℕ → ℕ → ℕ) (holds : ℕ → Found) → ((h x : ℕ) → count p.made (mine before page h x) ≤ counts h x)
        → ((k : ℕ) → held k ≡ true → still_held counts (found (page k)) ≡ found (page k) → holds (p.number k) ≡ found (page k))
        → Booked (with_pins counts holds s) rest page
    back-booked counts holds owed still =
        record {
          below = λ k e. u.below k (fewer k e);
          holds = λ k e. still k e (owed_held counts before page owed k e (rest-made k e) (u.who k (fewer k e)));
          owed = λ h x. omega (arith, rest-count h x, owed h x);
          who = λ k e. u.who k (fewer k e);
          made = λ k e. omega (arith, rest-made k e);
        }

-- ---- an accepted unpin, by its holder h, of the pin of call k, which is of page x at number b
module _ (s : Shelf) (p : Pins) (page : ℕ → ℕ) (k : ℕ) (u : Booked s p page) (held : p.held k ≡ true) where
  abbrev h : ℕ
  h = p.holder k

  abbrev x : ℕ
  x = page k

  abbrev b : ℕ
  b = p.number k

  abbrev less : ℕ → Bool
  less = with k false p.held

  abbrev now : ℕ → ℕ → ℕ
  now = count_with h x (s.counts h x - 1) s.counts

  less-held : (i : ℕ) → less i ≡ true → p.held i ≡ true
  less-held i e =
      ⊎_elim
      (λ q. never e (ap (with k false p.held) q ∙ with-same k false p.held))
      (λ ne. sym (with-other k false p.held i ne) ∙ e)
      (eq-or-ne i k)

  abbrev left : Pins
  left = record { made = p.made; number = p.number; holder = p.holder; held = less }

  -- of its own holder and page one is gone; of others as many are left
  unpin-owed : (j y : ℕ) → count p.made (mine left page j y) ≤ now j y
  unpin-owed j y =
      let c = count-change (mine p page j y) (mine left page j y) k (λ i ne. rw (ne_eqb i k ne) refl) p.made (u.made k held) in
      let gone : ind (mine left page j y k) ≡ 0 = rw (eq-eqb k k refl) refl in
      ⊎_elim
      (λ q.
      ⊎_elim
      (λ r.
      omega (
        arith,
        c,
        gone,
        ind-one {b = mine p page j y k} (and-true held (and-true (eq-eqb x y (sym q)) (eq-eqb h j (sym r)))),
        u.owed j y,
        ap (λ (i : ℕ). now i y) r,
        ap (now h) q,
        count_same h x (s.counts h x - 1) s.counts,
        ap (λ (i : ℕ). s.counts i y) r,
        ap (s.counts h) q,
      ))
      (λ ne. omega (arith, c, gone, u.owed j y, count-holder h x (s.counts h x - 1) s.counts j y ne))
      (eq-or-ne j h))
      (λ ne. omega (arith, c, gone, u.owed j y, count-page h x (s.counts h x - 1) s.counts j y ne))
      (eq-or-ne y x)

  -- another pin that is held keeps the number, if it is of this page
  unpin-holds : (i : ℕ) → less i ≡ true → still_held now (found (page i)) ≡ found (page i)
      → with b (still_held now (found x)) s.holds (p.number i) ≡ found (page i)
  unpin-holds i e still =
      let there = u.holds i (less-held i e) in
      ⊎_elim
      (λ q.
      let same : x ≡ page i = found-same (sym (u.holds k held) ∙ ap s.holds (sym q) ∙ there) in
      rw (eq-eqb (p.number i) b q) (ap (λ (y : ℕ). still_held now (found y)) same ∙ still))
      (λ ne. with-other b (still_held now (found x)) s.holds (p.number i) ne ∙ there)
      (eq-or-ne (p.number i) b)

  pub unpin-booked : Booked (unpinned_at s (p.holder k) (p.number k) (found (page k)))
      (record { made = suc p.made; number = p.number; holder = p.holder; held = with k false p.held }) page
  unfolding unpinned_at
  unpin-booked = back-booked s p page u less less-held now _ unpin-owed unpin-holds

-- ---- an accepted give back of holder h
module _ (s : Shelf) (p : Pins) (page : ℕ → ℕ) (h : ℕ) (u : Booked s p page) where
  abbrev others : ℕ → Bool
  others k = p.held k && not (eqb (p.holder k) h)

  abbrev none : ℕ → ℕ → ℕ
  none = with h (λ y. 0) s.counts

  others-held : (k : ℕ) → others k ≡ true → p.held k ≡ true
  others-held k e = and_left (p.held k) _ e

  abbrev kept : Pins
  kept = record { made = p.made; number = p.number; holder = p.holder; held = others }

  -- none of this holder's is left, all of others' are
  give-own : (j y k : ℕ) → j ≡ h → mine kept page j y k ≡ false
  give-own j y k q =
      ⊎_elim (λ t. absurd (own t)) (λ f. f) (true-or-false (mine kept page j y k))
    where
      own : mine kept page j y k ≡ true → ⊥
      own t =
          let held = and_left (others k) _ t in
          let by = eqb-true (p.holder k) j (and_right (eqb (page k) y) _ (and_right (others k) _ t)) in
          never (eq-eqb (p.holder k) h (by ∙ q)) (not-true (eqb (p.holder k) h) (and_right (p.held k) _ held))

  give-less : (j y k : ℕ) → ind (mine kept page j y k) ≤ ind (mine p page j y k)
  give-less j y k =
      ⊎_elim
      (λ t.
      omega (
        arith,
        ind-le (mine kept page j y k),
        ind-one {b = mine p page j y k} (and-true (others-held k (and_left (others k) _ t)) (and_right (others k) _ t)),
      ))
      (λ f. omega (arith, ind-none f))
      (true-or-false (mine kept page j y k))

  give-owed : (j y : ℕ) → count p.made (mine kept page j y) ≤ none j y
  unfolding count
  give-owed j y =
      ⊎_elim
      (λ q. omega (arith, sum-zero (λ k. ind (mine kept page j y k)) p.made (λ k l. ind-none (give-own j y k q))))
      (λ ne.
      omega (
        arith,
        u.owed j y,
        sum_below (λ k. ind (mine kept page j y k)) (λ k. ind (mine p page j y k)) p.made (λ k l. give-less j y k),
        ap (λ (f : ℕ → ℕ). f y) (with-other h (λ y. 0) s.counts j ne),
      ))
      (eq-or-ne j h)

  pub give-booked : Booked (given_back s h)
      (record { made = suc p.made; number = p.number; holder = p.holder; held = λ k. p.held k && not (eqb (p.holder k) h) }) page
  unfolding given_back
  give-booked =
      back-booked s p page u others others-held none _ give-owed
      (λ k e still. ap (still_held none) (u.holds k (others-held k e)) ∙ still)
