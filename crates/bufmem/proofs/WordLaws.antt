-- The changes of a state word as sums and differences, as code computes them, and its test on the flags as one number.
use Prim.Native.Nat.{ℕ, ◌+◌, ◌-◌, ◌*◌, ◌%◌, ◌^◌, ◌≤◌, ◌<◌}
use mathlib.Core.Path.{◌≡◌, refl}
use mathlib.Core.Bool.{Bool, true, false, not, ◌&&◌, ◌||◌}
use mathlib.Core.Logic.{⊎_elim}
use native.Mathlib.Omega.{arith}
use lib.Dec.{eqb, leb}
use borrow.Author.Tests.{eq-eqb, ne_eqb, le-ltb, lt-ltb}
use Rattle.laws.proofs.Tests.{eq-or-ne}
use Rattle.bufmodel.specs.Word.{pins, usage, flags, pack, clean_flags, dirty_flags, empty, sound_word, pinned}
use Rattle.bufmodel.specs.Word.{pin_more, pin_less, use_less}
use Rattle.bufmodel.proofs.WordLaws.{sound-flags, sound-held, pinned-pins}

-- ---- the test of a word, on the flags as one number
turned : (a b : Bool) → (a && b) ≡ (b && a && true)
turned true true = refl
turned true false = refl
turned false true = refl
turned false false = refl

module _ (cap w : ℕ) (h : w < 2 ^ 32) where
  sound-tests : sound_word cap w ≡ (eqb w 0 || (leb (usage w) cap && (eqb (flags w) clean_flags || eqb (flags w) dirty_flags)))
  unfolding sound_word empty
  sound-tests = rw (sound-flags w h)

  -- the flags of a page and few uses: a word that is sound and not 0, since 0 has no flags
  pub full-tests : ((eqb (flags w) clean_flags || eqb (flags w) dirty_flags) && leb (usage w) cap) ≡ (sound_word cap w && not (empty w))
  unfolding empty flags
  full-tests =
      ⊎_elim
      (λ z. rw (sound-tests, eq-eqb w 0 z, ne_eqb (flags w) clean_flags (λ e. omega arith), ne_eqb (flags w) dirty_flags (λ e. omega arith)))
      (λ n. rw (sound-tests, ne_eqb w 0 n) (turned (eqb (flags w) clean_flags || eqb (flags w) dirty_flags) (leb (usage w) cap)))
      (eq-or-ne w 0)

-- ---- the changes
-- one pin more, below the cap and at it
pub pin-more-below : (cap w : ℕ) → usage w < cap → pin_more cap w ≡ w + 1 + 2 ^ 18
unfolding pin_more pack pins usage flags
pin-more-below cap w h = rw (lt-ltb (usage w) cap h) (omega arith)

pub pin-more-most : (cap w : ℕ) → cap ≤ usage w → pin_more cap w ≡ w + 1
unfolding pin_more pack pins usage flags
pin-more-most cap w h = rw (le-ltb (usage w) cap h) (omega arith)

-- it fits: the greatest flags leave room
pub pin-more-room : (cap w : ℕ) → w < 2 ^ 32 → sound_word cap w ≡ true → empty w ≡ false → w + 1 + 2 ^ 18 < 2 ^ 32
unfolding flags
pin-more-room cap w h sound full = ⊎_elim (λ f. omega arith) (λ f. omega arith) (sound-held h sound full).flag

pub pin-less-is : (w : ℕ) → pinned w ≡ true → pin_less w ≡ w - 1
unfolding pin_less pack pins usage flags
pin-less-is w h = omega (arith, pinned-pins w h)

pub use-less-is : (w : ℕ) → 0 < usage w → use_less w ≡ w - 2 ^ 18
unfolding use_less pack pins usage flags
use-less-is w h = omega arith

-- other flags, the same counts
pub other-flags : (w f : ℕ) → pack (pins w) (usage w) f ≡ w % 2 ^ 22 + f * 2 ^ 22
unfolding pack pins usage
other-flags w f = omega arith
