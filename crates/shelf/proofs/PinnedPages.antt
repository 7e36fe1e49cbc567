-- As many pages have pins as buffers are pinned.
use Prim.Native.Nat.{ℕ, ◌<◌}
use mathlib.Core.Path.{◌≡◌, sym, ap, ◌∙◌, subst}
use mathlib.Core.Logic.{◌↔◌, ⊎_elim}
use mathlib.Core.Bool.{Bool, true, ◌&&◌}
use lib.Dec.{eqb}
use borrow.Author.Tests.{eq-eqb, eqb-true}
use Rattle.laws.specs.Every.{all}
use Rattle.laws.specs.Sum.{ind, count}
use Rattle.laws.specs.First.{Found, found, missing}
use Rattle.laws.proofs.Tests.{and_left, and_right, and-true, same_tests}
use Rattle.laws.proofs.Sum.{sum_same, ind-none, count-parts, count-only, count-nobody, count-all}
use Rattle.std.specs.Prelude.{None}
use Rattle.bufmodel.specs.Word.{pinned}
use Rattle.bufmodel.specs.Rows.{store_blocks, place_of}
use Rattle.bufmodel.specs.Memory.{Memory, buffers, word_of, name_of}
use Rattle.bufmodel.specs.Pin.{no_victim}
use Rattle.bufmodel.proofs.RowsLaws.{place-in}
use Rattle.bufmodel.proofs.HeldLaws.{pinned-full}
use Rattle.shelf.specs.Shelf.{has_pins, pinned_pages}
use Rattle.shelf.proofs.Kept.{View, shelf_of, Has, Kept}
use Rattle.shelf.proofs.KeptLaws.{has_one, has-page, some_or_none, pins-has, pins-nobody}

-- ---- the count
-- the place of a page that has one
abbrev at : Found → ℕ
at (found g) = g
at missing = 0

module _ (m : Memory) (v : View) (k : Kept m v) where
  -- buffer i is pinned, and where its page is
  pin? : ℕ → Bool
  pin? i = pinned (word_of m i)

  home : ℕ → ℕ
  home i = at (place_of m.rows (name_of m i))

  -- a pinned buffer has the page at its home
  has-home : (i : ℕ) → i < buffers m → pin? i ≡ true → Has m i (home i)
  unfolding pin? home
  has-home i l p =
      let h = has-page m k.good i l (pinned-full m i p) in
      subst (Has m i) (sym (ap at h.1.place)) h.1

  -- the buffers at home at a place
  here : ℕ → ℕ → Bool
  here g i = pin? i && eqb (home i) g

  here-has : (g i : ℕ) → i < buffers m → here g i ≡ true → Has m i g
  unfolding here
  here-has g i l h =
      subst (Has m i) (eqb-true (home i) g (and_right (pin? i) _ h)) (has-home i l (and_left (pin? i) (eqb (home i) g) h))

  has_here : (g i : ℕ) → Has m i g → here g i ≡ pinned (word_of m i)
  unfolding here pin? home
  has_here g i h =
      same_tests (here g i) (pinned (word_of m i)) (and_left (pinned (word_of m i)) _)
      (λ p. and-true p (eq-eqb (home i) g (ap at h.place)))

  -- a page has pins exactly when one of these has it
  here-count : (g : ℕ) → count (buffers m) (here g) ≡ ind (has_pins (shelf_of m v) g)
  here-count g =
      ⊎_elim
      (λ s.
      count-only (here g) (buffers m) s.0 s.1.below (λ j l e. has_one m k.good j s.0 g (here-has g j l e) s.1)
      ∙ ap ind (has_here g s.0 s.1 ∙ sym (pins-has m v k s.0 g s.1)))
      (λ x. count-nobody (here g) (buffers m) (λ i l h. x i (here-has g i l h)) ∙ sym (ind-none (pins-nobody m v k g x)))
      (some_or_none m k.good g)

  pinned_count : pinned_pages (shelf_of m v) ≡ count (buffers m) (λ i. pinned (word_of m i))
  unfolding pinned_pages count pin? here
  pinned_count =
      sym
      (count-parts pin? home (store_blocks m.rows) (buffers m) (λ i l p.
      place-in m.rows k.good.sizes.rows (name_of m i) (has-home i l p).place)
      ∙ sum_same (λ g. count (buffers m) (here g)) (λ g. ind (has_pins (shelf_of m v) g)) (store_blocks m.rows) (λ g l. here-count g))

-- ---- N pages have pins exactly when every buffer is pinned
module _ (m : Memory) where
  all-pinned : (count (buffers m) (λ i. pinned (word_of m i)) ≡ buffers m) ↔ (all (buffers m) (λ i. pinned (word_of m i)) ≡ true)
  all-pinned = count-all (λ i. pinned (word_of m i)) (buffers m)

  pub pages-full : (v : View) → Kept m v
      → eqb (pinned_pages (shelf_of m v)) (buffers m) ≡ all (buffers m) (λ i. pinned (word_of m i))
  pages-full v k =
      same_tests _ _ (λ e. all-pinned.0 (sym (pinned_count m v k) ∙ eqb-true _ _ e))
      (λ h. eq-eqb _ _ (pinned_count m v k ∙ all-pinned.1 h))

  -- and so 6 is refused to a page that is not held
  pub no-victim : (v : View) → Kept m v → no_victim m None ≡ eqb (pinned_pages (shelf_of m v)) (buffers m)
  unfolding no_victim
  no-victim v k = sym (pages-full v k)
