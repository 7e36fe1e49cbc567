-- The tests of a buffer number: the calls on a buffer and the shelf give one number, and what an accepted number has.
use Prim.Native.Nat.{ℕ, ◌≤◌, ◌<◌}
use mathlib.Core.Path.{◌≡◌, sym, ap, ◌∙◌}
use mathlib.Core.Bool.{Bool, true, false, not}
use mathlib.Core.Logic.{◌≢◌, ⊎_elim}
use mathlib.Core.List.{List}
use native.Mathlib.Omega.{arith}
use lib.Dec.{eqb}
use borrow.Author.Tests.{eq-eqb, ne_eqb, le-leb, lt-leb}
use Rattle.laws.specs.First.{found}
use Rattle.laws.proofs.Tests.{eq-or-ne, lt-or-le, never, true-or-false}
use Rattle.bufmodel.specs.Word.{pins, pinned}
use Rattle.bufmodel.specs.Memory.{Memory, buffers, cap_of, word_of}
use Rattle.bufmodel.specs.Counts.{max_holders, count_at, has_pin}
use Rattle.bufmodel.specs.Outcome.{Place, refusal_of}
use Rattle.bufmodel.specs.Pin.{holder_place}
use Rattle.bufmodel.specs.Calls.{buffer_places}
use Rattle.bufmodel.proofs.WordLaws.{Held, pinned-pins, pins-pinned}
use Rattle.bufmodel.proofs.HeldLaws.{pinned-full}
use Rattle.bufmodel.proofs.CountLaws.{pin-some}
use Rattle.bufmodel.proofs.OutcomeLaws.{refusal-past, refusal-at}
use Rattle.shelf.specs.Shelf.{Shelf, no_pin, number_places}
use Rattle.shelf.proofs.Kept.{View, shelf_of, Has, Same, Kept}
use Rattle.shelf.proofs.KeptLaws.{has-page, holds-page, holds-none}
use Rattle.shelf.proofs.MemoryPlaces.{number_passed}
use Rattle.shelf.proofs.Refused.{Neither, neither-place}

-- ---- the tests, one by one
module _ (m : Memory) (o i : ℕ) (ps : List Place) where
  -- neither 1 nor 2, where no later place gives that
  pub number-neither : Neither (refusal_of ps) → Neither (refusal_of (buffer_places m o i ps))
  unfolding buffer_places holder_place
  number-neither h =
      neither-place 19 _ _ (omega arith) (neither-place 7 _ _ (omega arith) (neither-place 8 _ ps (omega arith) h))

  -- a holder past the last gives 19, a number past the last buffer 7, one of a buffer on which the holder has no pin 8; else the number is
  -- that of the later places
  number-nobody : max_holders ≤ o → refusal_of (buffer_places m o i ps) ≡ 19
  unfolding buffer_places holder_place
  number-nobody l = refusal-at 19 _ (le-leb _ _ l)

  module _ (few : o < max_holders) where
    number_past : buffers m ≤ i → refusal_of (buffer_places m o i ps) ≡ 7
    unfolding buffer_places holder_place
    number_past h = refusal-past 19 _ (lt-leb _ _ few) ∙ refusal-at 7 _ (le-leb _ _ h)

    number-idle : i < buffers m → count_at m.counts i o ≡ 0 → refusal_of (buffer_places m o i ps) ≡ 8
    unfolding buffer_places holder_place has_pin
    number-idle h e =
        refusal-past 19 _ (lt-leb _ _ few) ∙ refusal-past 7 _ (lt-leb _ _ h)
        ∙ refusal-at 8 ps (ap (λ (c : ℕ). not (not (eqb c 0))) e)

    number-good : i < buffers m → count_at m.counts i o ≢ 0 → refusal_of (buffer_places m o i ps) ≡ refusal_of ps
    unfolding buffer_places holder_place has_pin
    number-good h ne =
        refusal-past 19 _ (lt-leb _ _ few) ∙ refusal-past 7 _ (lt-leb _ _ h)
        ∙ refusal-past 8 ps (ap (λ (t : Bool). not (not t)) (ne_eqb (count_at m.counts i o) 0 ne))

-- so on the shelf
module _ (s : Shelf) (o i : ℕ) (qs : List Place) where
  shelf-nobody : max_holders ≤ o → refusal_of (number_places s o i qs) ≡ 19
  unfolding number_places
  shelf-nobody l = refusal-at 19 _ (le-leb _ _ l)

  module _ (few : o < max_holders) where
    shelf-past : s.buffers ≤ i → refusal_of (number_places s o i qs) ≡ 7
    unfolding number_places
    shelf-past h = refusal-past 19 _ (lt-leb _ _ few) ∙ refusal-at 7 _ (le-leb _ _ h)

    shelf-idle : i < s.buffers → no_pin s o (s.holds i) ≡ true → refusal_of (number_places s o i qs) ≡ 8
    unfolding number_places
    shelf-idle h e = refusal-past 19 _ (lt-leb _ _ few) ∙ refusal-past 7 _ (lt-leb _ _ h) ∙ refusal-at 8 qs e

    shelf-good : i < s.buffers → no_pin s o (s.holds i) ≡ false → refusal_of (number_places s o i qs) ≡ refusal_of qs
    unfolding number_places
    shelf-good h e = refusal-past 19 _ (lt-leb _ _ few) ∙ refusal-past 7 _ (lt-leb _ _ h) ∙ refusal-past 8 qs e

-- ---- a buffer that is pinned
-- the page that a pinned buffer has, as the ledger says
pub record PinnedPage (m : Memory) (v : View) (i : ℕ) : Type 0 where
  pub page : ℕ
  pub has : Has m i page
  pub holds : v.holds i ≡ found page
  pub same : Same m v i page
  -- its word
  pub word : Held (cap_of m) (word_of m i)
  pub some : 0 < pins (word_of m i)

module _ (m : Memory) (v : View) (k : Kept m v) where
  pub pinned-page : (i : ℕ) → i < buffers m → pinned (word_of m i) ≡ true → PinnedPage m v i
  pinned-page i h e =
      let full = pinned-full m i e in
      let p = has-page m k.good i h full in
      record {
        page = p.0;
        has = p.1;
        holds = holds-page m v k i p.0 p.1 e;
        same = k.same i p.0 p.1;
        word = k.words i h full;
        some = pinned-pins (word_of m i) e;
      }

module _ (m : Memory) (v : View) (k : Kept m v) (o i : ℕ) where
  -- a buffer on which a holder has a pin is pinned
  pub holder-pins : o < max_holders → i < buffers m → count_at m.counts i o ≢ 0 → pinned (word_of m i) ≡ true
  holder-pins few h ne = pins-pinned (word_of m i) (omega (arith, k.good.books.counts i h, pin-some m.counts i o few ne))

  -- an accepted number is that of a pinned buffer
  pub number-page : (ps : List Place) → refusal_of (buffer_places m o i ps) ≡ 0 → PinnedPage m v i
  number-page ps e =
      let p = number_passed m o i ps e in
      pinned-page m v k i p.0 (holder-pins p.3 p.0 p.1)

  -- the shelf's holders have the pins that the buffer's have
  no_pin_is : o < max_holders → i < buffers m → no_pin (shelf_of m v) o (v.holds i) ≡ eqb (count_at m.counts i o) 0
  unfolding no_pin
  no_pin_is few h =
      ⊎_elim
      (λ e.
      let p = pinned-page m v k i h e in
      ap (no_pin (shelf_of m v) o) p.holds ∙ ap (λ (c : ℕ). eqb c 0) (p.same.counts o few))
      (λ e.
      ap (no_pin (shelf_of m v) o) (holds-none m v k i h e)
      ∙ sym
      (eq-eqb (count_at m.counts i o) 0
      (⊎_elim (λ z. z) (λ ne. never (holder-pins few h ne) e) (eq-or-ne (count_at m.counts i o) 0))))
      (true-or-false (pinned (word_of m i)))

  -- the memory and the shelf give one number, where the later places do at a pinned buffer
  pub number_same : (ps qs : List Place) → (i < buffers m → pinned (word_of m i) ≡ true → refusal_of ps ≡ refusal_of qs)
      → refusal_of (buffer_places m o i ps) ≡ refusal_of (number_places (shelf_of m v) o i qs)
  number_same ps qs later =
      ⊎_elim
      (λ few.
      ⊎_elim
      (λ h.
      ⊎_elim
      (λ z.
      number-idle m o i ps few h z ∙ sym (shelf-idle (shelf_of m v) o i qs few h (no_pin_is few h ∙ eq-eqb _ 0 z)))
      (λ ne.
      number-good m o i ps few h ne ∙ later h (holder-pins few h ne)
      ∙ sym (shelf-good (shelf_of m v) o i qs few h (no_pin_is few h ∙ ne_eqb _ 0 ne)))
      (eq-or-ne (count_at m.counts i o) 0))
      (λ h. number_past m o i ps few h ∙ sym (shelf-past (shelf_of m v) o i qs few h))
      (lt-or-le i (buffers m)))
      (λ l. number-nobody m o i ps l ∙ sym (shelf-nobody (shelf_of m v) o i qs l))
      (lt-or-le o max_holders)
