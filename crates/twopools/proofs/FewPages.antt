-- No more pages have pins than there are buffers.
use Prim.Native.Nat.{ℕ, ◌+◌, ◌-◌, ◌≤◌}
use native.Mathlib.Omega.{arith}
use mathlib.Core.Path.{◌≡◌, sym, ap, ◌∙◌, subst}
use mathlib.Core.Bool.{Bool, true, false, not, ◌&&◌}
use mathlib.Core.Logic.{◌≢◌, ⊎_elim}
use lib.Dec.{eqb}
use borrow.Author.Tests.{eqb-false}
use Rattle.laws.specs.Sum.{ind, count}
use Rattle.laws.specs.First.{found}
use Rattle.laws.proofs.Tests.{true-or-false, lt-or-le, eq-or-ne, same_tests}
use Rattle.laws.proofs.Sum.{ind-one, ind-none, ind-le, sum_same, sum_below, count-change}
use Rattle.bufmodel.specs.Rows.{store_blocks}
use Rattle.shelf.specs.Shelf.{Shelf, with, pins_in, has_pins, pinned_pages, no_buffer, count_with, pinned_at, unpinned_at, given_back}
use Rattle.shelf.proofs.WithLaws.{with-same, with-other, count_same, count-holder, count-page}
use Rattle.twopools.proofs.Booked.{pins-say}

-- ---- what has pins under some counts has them under counts that are 0 nowhere else
pins-less : (c d : ℕ → ℕ → ℕ) (y : ℕ) → ((h : ℕ) → d h y ≡ 0 → c h y ≡ 0) → pins_in c y ≡ true → pins_in d y ≡ true
pins-less c d y f e =
    let w = (pins-say c y).holds e in
    (pins-say d y).shown (w.0, w.1, λ z. w.2 (f w.0 z))

fewer-pages : (s : Shelf) (c : ℕ → ℕ → ℕ) → ((h y : ℕ) → s.counts h y ≡ 0 → c h y ≡ 0)
    → count (store_blocks s.rows) (pins_in c) ≤ pinned_pages s
unfolding pinned_pages has_pins count
fewer-pages s c f =
    sum_below (λ y. ind (pins_in c y)) (λ y. ind (pins_in s.counts y)) (store_blocks s.rows)
    (λ y l.
    ⊎_elim (λ t. omega (arith, ind-le (pins_in c y), ind-one (pins-less c s.counts y (λ h. f h y) t)))
    (λ n. omega (arith, ind-none n)) (true-or-false (pins_in c y)))

-- ---- a pin of page x: one page more has pins at most, and none where it had pins
count-step : (p q : ℕ → Bool) (k n : ℕ) → ((i : ℕ) → i ≢ k → q i ≡ p i) → count n q ≤ count n p + 1
unfolding count
count-step p q k n other =
    ⊎_elim
    (λ l. omega (arith, count-change p q k other n l, ind-le (q k)))
    (λ l. omega (arith, sum_same (λ i. ind (q i)) (λ i. ind (p i)) n (λ i h. ap ind (other i (λ e. omega arith)))))
    (lt-or-le k n)

module _ (s : Shelf) (h x : ℕ) where
  abbrev more : ℕ → ℕ → ℕ
  more = count_with h x (s.counts h x + 1) s.counts

  more-other : (y : ℕ) → y ≢ x → pins_in more y ≡ pins_in s.counts y
  more-other y ne =
      same_tests (pins_in more y) (pins_in s.counts y)
      (pins-less more s.counts y (λ k z. count-page h x (s.counts h x + 1) s.counts k y ne ∙ z))
      (pins-less s.counts more y (λ k z. sym (count-page h x (s.counts h x + 1) s.counts k y ne) ∙ z))

  pub pin-few : (b : ℕ) → pinned_pages s ≤ s.buffers → no_buffer s (found x) ≡ false
      → pinned_pages (pinned_at s h b (found x)) ≤ s.buffers
  unfolding pinned_pages pinned_at has_pins no_buffer count
  pin-few b l six =
      ⊎_elim
      (λ t.
      omega (
        arith,
        l,
        sum_below (λ y. ind (pins_in more y)) (λ y. ind (pins_in s.counts y)) (store_blocks s.rows)
            (λ y q.
            ⊎_elim
            (λ e. omega (arith, ind-le (pins_in more y), ind-one (ap (pins_in s.counts) e ∙ t)))
            (λ ne. omega (arith, ap ind (more-other y ne)))
            (eq-or-ne y x)),
      ))
      (λ f.
      let ne = eqb-false (pinned_pages s) s.buffers (subst (λ (t : Bool). (not t && eqb (pinned_pages s) s.buffers) ≡ false) f six) in
      omega (arith, l, ne, count-step (pins_in s.counts) (pins_in more) x (store_blocks s.rows) more-other))
      (true-or-false (has_pins s x))

-- ---- an unpin and a give back: no more pages have pins
pub unpin-few : (s : Shelf) (h x b : ℕ) → pinned_pages s ≤ s.buffers → pinned_pages (unpinned_at s h b (found x)) ≤ s.buffers
unfolding pinned_pages unpinned_at has_pins
unpin-few s h x b l =
    omega (arith, l, fewer-pages s (count_with h x (s.counts h x - 1) s.counts) less)
  where
    less : (k y : ℕ) → s.counts k y ≡ 0 → count_with h x (s.counts h x - 1) s.counts k y ≡ 0
    less k y z =
        ⊎_elim
        (λ q.
        ⊎_elim
        (λ r.
        ap (λ (i : ℕ). count_with h x (s.counts h x - 1) s.counts i y) r
        ∙ ap (count_with h x (s.counts h x - 1) s.counts h) q
        ∙ count_same h x (s.counts h x - 1) s.counts
        ∙ omega (arith, z, ap (λ (i : ℕ). s.counts i y) r, ap (s.counts h) q))
        (λ ne. count-holder h x (s.counts h x - 1) s.counts k y ne ∙ z)
        (eq-or-ne k h))
        (λ ne. count-page h x (s.counts h x - 1) s.counts k y ne ∙ z)
        (eq-or-ne y x)

pub give-few : (s : Shelf) (h : ℕ) → pinned_pages s ≤ s.buffers → pinned_pages (given_back s h) ≤ s.buffers
unfolding pinned_pages given_back has_pins
give-few s h l = omega (arith, l, fewer-pages s (with h (λ y. 0) s.counts) less)
  where
    less : (k y : ℕ) → s.counts k y ≡ 0 → with h (λ y. 0) s.counts k y ≡ 0
    less k y z =
        ⊎_elim
        (λ q. ap (λ (i : ℕ). with h (λ y. 0) s.counts i y) q ∙ ap (λ (f : ℕ → ℕ). f y) (with-same h (λ y. 0) s.counts))
        (λ ne. ap (λ (f : ℕ → ℕ). f y) (with-other h (λ y. 0) s.counts k ne) ∙ z)
        (eq-or-ne k h)
