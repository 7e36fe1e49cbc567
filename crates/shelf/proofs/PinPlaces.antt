-- A pin's number is the shelf's, and what an accepted pin's number says.
use Prim.Native.Nat.{ℕ, ◌<◌}
use mathlib.Core.Path.{◌≡◌, refl, sym, ap, ◌∙◌}
use mathlib.Core.Logic.{⊎_elim}
use mathlib.Core.Bool.{Bool, false, not, ◌&&◌}
use mathlib.Core.List.{List, [], ◌∷◌}
use native.Mathlib.Omega.{arith}
use lib.Dec.{eqb}
use borrow.Author.Tests.{le-leb, lt-leb}
use Rattle.laws.specs.First.{Found, found}
use Rattle.laws.proofs.Tests.{lt-or-le, true-or-false}
use Rattle.laws.proofs.Every.{all-fails}
use Rattle.buftag.specs.Lookup.{Held}
use Rattle.std.specs.Prelude.{Some, None}
use Rattle.buftag.specs.declared.name.PageName.{PageName}
use Rattle.bufmodel.specs.Word.{pinned}
use Rattle.bufmodel.specs.Rows.{place_of}
use Rattle.bufmodel.specs.Memory.{Memory, buffers, word_of}
use Rattle.bufmodel.specs.Counts.{max_holders, max_count, count_at}
use Rattle.bufmodel.specs.Outcome.{Place, place, refusal_of}
use Rattle.bufmodel.specs.Pin as pin
use Rattle.bufmodel.specs.Pin.{holder_place, no_victim, held_in, page_places, pin_places}
use Rattle.bufmodel.specs.Step.{Pin}
use Rattle.bufmodel.proofs.OutcomeLaws.{refusal-same, refusal-past, refusal-at, refusal-passed}
use Rattle.shelf.specs.Shelf.{Shelf, has_pins, pinned_pages, count_full, no_buffer, page_first, above, places, refuses}
use Rattle.shelf.proofs.Kept.{View, shelf_of, Has, Nobody, Kept}
use Rattle.shelf.proofs.ShelfPlaces.{refuses-is}
use Rattle.shelf.proofs.Refused.{Neither, neither-none, neither-place}
use Rattle.shelf.proofs.KeptLaws.{pins-has, pins-nobody}
use Rattle.shelf.proofs.MemoryPlaces.{last_places}
use Rattle.shelf.proofs.NamePage.{held-has, held-nobody}
use Rattle.shelf.proofs.PagePlaces.{page-number, page-neither}
use Rattle.shelf.proofs.PinnedPages.{pages-full, no-victim}

-- ---- the places 5 and 6
abbrev shelf_places : Shelf → ℕ → Found → List Place
shelf_places s o f = place 5 (count_full s o f) ∷ place 6 (no_buffer s f) ∷ []

module _ (m : Memory) (v : View) (k : Kept m v) where
  -- a buffer has the page: its holders' counts are the page's, and if it has none then not every buffer is pinned
  full-has : (o i g : ℕ) → o < max_holders → Has m i g → count_full (shelf_of m v) o (found g) ≡ eqb (count_at m.counts i o) max_count
  unfolding count_full
  full-has o i g few h = ap (λ (c : ℕ). eqb c max_count) ((k.same i g h).counts o few)

  six-has : (i g : ℕ) → Has m i g → no_buffer (shelf_of m v) (found g) ≡ false
  unfolding no_buffer
  six-has i g h =
      let then : Bool → Bool = λ t. not t && eqb (pinned_pages (shelf_of m v)) (buffers m) in
      ⊎_elim
      (λ t. ap then t)
      (λ f.
      ap then f ∙ pages-full m v k
      ∙ sym (all-fails (λ j. pinned (word_of m j)) (buffers m) i h.below (sym (pins-has m v k i g h) ∙ f)))
      (true-or-false (has_pins (shelf_of m v) g))

  -- no buffer has it: its counts are 0
  full-nobody : (o g : ℕ) → o < max_holders → Nobody m g → count_full (shelf_of m v) o (found g) ≡ false
  unfolding count_full
  full-nobody o g few x = ap (λ (c : ℕ). eqb c max_count) (k.unpinned g x o few)

  six-nobody : (g : ℕ) → Nobody m g → no_buffer (shelf_of m v) (found g) ≡ no_victim m None
  unfolding no_buffer
  six-nobody g x =
      ap (λ (t : Bool). not t && eqb (pinned_pages (shelf_of m v)) (buffers m)) (pins-nobody m v k g x) ∙ sym (no-victim m v k)

  tests_same : (o : ℕ) → o < max_holders → (n : PageName) (g : ℕ) → place_of m.rows n ≡ found g → (h : Held) → held_in m n ≡ h
      → refusal_of (last_places m o h) ≡ refusal_of (shelf_places (shelf_of m v) o (found g))
  unfolding pin.count_full no_victim
  tests_same o few n g e (Some b) q =
      let h = held-has m k.good n g e b q in
      refusal-same 5 _ _ (sym (full-has o b.0 g few h)) (refusal-same 6 [] [] (sym (six-has b.0 g h)) refl)
  tests_same o few n g e None q =
      let x = held-nobody m k.good n g e q in
      refusal-same 5 _ _ (sym (full-nobody o g few x)) (refusal-same 6 [] [] (sym (six-nobody g x)) refl)

  -- ---- the number
  page-same : (o : ℕ) → o < max_holders → (n : PageName)
      → refusal_of (page_places m n (last_places m o (held_in m n)))
      ≡ refusal_of (page_first (shelf_of m v) n (shelf_places (shelf_of m v) o (place_of m.rows n)))
  page-same o few n =
      page-number m v k n (last_places m o (held_in m n)) (shelf_places (shelf_of m v) o (place_of m.rows n))
      (λ g e. tests_same o few n g e (held_in m n) refl ∙ ap (λ (f : Found). refusal_of (shelf_places (shelf_of m v) o f)) (sym e))

  pub pin-number : (o : ℕ) (n : PageName) → refusal_of (pin_places m o n) ≡ refuses (shelf_of m v) (Pin o n)
  unfolding pin_places holder_place places above page_first
  pin-number o n =
      ⊎_elim
      (λ few. refusal-past 19 _ (lt-leb _ _ few) ∙ page-same o few n ∙ sym (refusal-past 19 _ (lt-leb _ _ few)))
      (λ l. refusal-at 19 _ (le-leb _ _ l) ∙ sym (refusal-at 19 _ (le-leb _ _ l)))
      (lt-or-le o max_holders)
      ∙ sym (refuses-is _ _)

-- ---- what the number says of the memory
module _ (m : Memory) (o : ℕ) (n : PageName) where
  pub pin-neither : Neither (refusal_of (pin_places m o n))
  unfolding pin_places holder_place
  pin-neither =
      neither-place 19 _ _ (omega arith)
      (page-neither m n _ (neither-place 5 _ _ (omega arith) (neither-place 6 _ [] (omega arith) neither-none)))

  -- past the holder's place are the page's
  pub pin-page : refusal_of (pin_places m o n) ≡ 0 → refusal_of (page_places m n (last_places m o (held_in m n))) ≡ 0
  unfolding pin_places holder_place
  pin-page z = (refusal-passed 19 _ _ (omega arith) z).1
