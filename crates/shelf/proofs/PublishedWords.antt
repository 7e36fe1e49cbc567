-- The pool's changes of a state word are document 01's, and by a holder's pins document 02's; the words of a sound memory.
use Prim.Native.Nat.{ℕ, ◌-◌, ◌^◌, ◌≤◌, ◌<◌}
use mathlib.Core.Path.{◌≡◌, refl, sym, ap, ◌∙◌}
use mathlib.Core.Bool.{Bool, true, false, ◌&&◌, ◌||◌, cond}
use mathlib.Core.Logic.{◌≢◌, ⊎_elim}
use native.Mathlib.Omega.{arith}
use lib.Dec.{eqb, leb, ltb}
use borrow.Author.Tests.{eq-eqb, ne_eqb, eqb-true, eqb-false, leb-true}
use Rattle.laws.proofs.Tests.{eq-or-ne, true-or-false, and_left}
use Rattle.bufmodel.specs.Word.{pins, usage, flags, pack, clean_flags, dirty_flags, dirty, empty, sound_flags, sound_word}
use Rattle.bufmodel.specs.Word.{pin_more, pin_less, make_dirty, make_clean, loaded}
use Rattle.bufmodel.specs.Memory.{Memory, buffers, cap_of, word_of}
use Rattle.bufmodel.specs.Books.{empty_at, BooksSound}
use Rattle.bufmodel.specs.Pin.{held_word}
use Rattle.bufmodel.specs.Calls.{less_word, given_word}
use Rattle.bufmodel.proofs.WordLaws.{pack-fields, empty-zero, Held, sound-held, held-lt, dirty-is}
use Rattle.bufmodel.proofs.HeldLaws.{dirty-full}
use Rattle.shelf.specs.Published.{more_pins, dirtied, cleaned, just_loaded}

-- ---- the counts: any word, since its fields are packed by sums
more-pins : (cap w : ℕ) → pin_more cap w ≡ more_pins cap w
unfolding pin_more more_pins pack
more-pins cap w =
    ⊎_elim (λ e. rw e (omega (arith, pack-fields w))) (λ e. rw e (omega (arith, pack-fields w))) (true-or-false (ltb (usage w) cap))

less-pins : (w : ℕ) → 0 < pins w → pin_less w ≡ w - 1
unfolding pin_less pack
less-pins w h = omega (arith, pack-fields w)

-- what they are by a holder's count: at its first pin, its last one, and all that it has
pub held-word-is : (cap c w : ℕ) → held_word cap c w ≡ cond (eqb c 0) (more_pins cap w) w
unfolding held_word
held-word-is cap c w = ap (λ (x : ℕ). cond (eqb c 0) x w) (more-pins cap w)

module _ (c w : ℕ) (some : c ≢ 0 → 0 < pins w) where
  pub less-word-is : less_word c w ≡ cond (eqb c 1) (w - 1) w
  unfolding less_word
  less-word-is =
      ⊎_elim (λ e. rw (eq-eqb c 1 e) (less-pins w (some (λ z. omega arith)))) (λ ne. rw (ne_eqb c 1 ne) refl) (eq-or-ne c 1)

  pub given-word-is : given_word c w ≡ cond (eqb c 0) w (w - 1)
  unfolding given_word
  given-word-is = ⊎_elim (λ e. rw (eq-eqb c 0 e) refl) (λ ne. rw (ne_eqb c 0 ne) (less-pins w (some ne))) (eq-or-ne c 0)

-- ---- the flags: a word in use has one of two
module _ {cap w : ℕ} (k : Held cap w) where
  dirty-flags : dirty w ≡ true → flags w ≡ dirty_flags
  dirty-flags d = eqb-true (flags w) dirty_flags (sym (dirty-is k) ∙ d)

  clean-flags : dirty w ≡ false → flags w ≡ clean_flags
  clean-flags d =
      ⊎_elim (λ c. c) (λ e. absurd (eqb-false (flags w) dirty_flags (sym (dirty-is k) ∙ d) e)) k.flag

  pub dirtied-is : make_dirty w ≡ dirtied w
  unfolding make_dirty dirtied pack
  dirtied-is =
      ⊎_elim
      (λ d. rw d (omega (arith, pack-fields w, dirty-flags d)))
      (λ d. rw d (omega (arith, pack-fields w, clean-flags d)))
      (true-or-false (dirty w))

  less-dirt : dirty w ≡ true → make_clean w ≡ w - 0x10800000
  unfolding make_clean pack
  less-dirt d = omega (arith, pack-fields w, dirty-flags d)

-- a page that was not dirty keeps its word
pub cleaned-is : {cap : ℕ} (w : ℕ) → (dirty w ≡ true → Held cap w) → cond (dirty w) (make_clean w) w ≡ cleaned w
unfolding cleaned
cleaned-is w k = ⊎_elim (λ d. rw d (less-dirt (k d) d)) (λ d. rw d refl) (true-or-false (dirty w))

pub loaded-is : loaded ≡ just_loaded
unfolding loaded pack
loaded-is = refl

-- ---- the words of a memory with sound books
-- a sound word's usage is not above the cap, however wide the word
sound-few : (cap w : ℕ) → sound_word cap w ≡ true → usage w ≤ cap
unfolding sound_word usage
sound-few cap w s =
    ⊎_elim
    (λ e. omega (arith, empty-zero w e))
    (λ f. leb-true _ _ (and_left _ (sound_flags w) (sym (ap (λ (t : Bool). t || (leb (usage w) cap && sound_flags w)) f) ∙ s)))
    (true-or-false (empty w))

-- each word but 0 has the flags of a buffer in use
abbrev pub HeldWords : Memory → Type 0
HeldWords m = (i : ℕ) → i < buffers m → empty_at m i ≡ false → Held (cap_of m) (word_of m i)

module _ (m : Memory) where
  pub few-used : BooksSound m → (i : ℕ) → i < buffers m → usage (word_of m i) ≤ cap_of m
  few-used b i l = sound-few (cap_of m) (word_of m i) (b.words i l)

  -- so where words have 32 bits: the test of a word looks at no others
  pub held-words : BooksSound m → ((i : ℕ) → i < buffers m → word_of m i < 2 ^ 32) → HeldWords m
  unfolding empty_at
  held-words b narrow i l f = sound-held (narrow i l) (b.words i l) f

  -- and those have 32 bits
  pub narrow-words : HeldWords m → (i : ℕ) → i < buffers m → word_of m i < 2 ^ 32
  unfolding empty_at
  narrow-words held i l =
      ⊎_elim (λ e. omega (arith, empty-zero (word_of m i) e)) (λ f. held-lt (held i l f)) (true-or-false (empty (word_of m i)))

  pub dirty-held : HeldWords m → (i : ℕ) → i < buffers m → dirty (word_of m i) ≡ true → Held (cap_of m) (word_of m i)
  dirty-held held i l d = held i l (dirty-full m i d)
