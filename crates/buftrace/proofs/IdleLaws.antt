-- Words of pages that nobody has pinned: what a use or a sweep makes of them.
use Prim.Native.Nat.{ℕ, ◌+◌, ◌-◌, ◌*◌, ◌/◌, ◌%◌, ◌^◌, ◌≤◌, ◌<◌}
use native.Mathlib.Nat.{div-div-eq-div-mul}
use native.Mathlib.Omega.{arith}
use mathlib.Core.Path.{◌≡◌, refl, sym, ap, ◌∙◌}
use mathlib.Core.Bool.{true, false, ◌&&◌, cond}
use mathlib.Core.Logic.{⊎_elim}
use lib.Dec.{eqb, leb, ltb}
use borrow.Author.Tests.{leb-true, ltb-true, le-leb, ne_eqb}
use Rattle.laws.proofs.Tests.{and_left, and_right, and-true, true-or-false, never}
use Rattle.bufmodel.specs.Word.{pins, usage, flags, pack, bit, dirty, valid, tag_valid, just_dirtied, permanent, no_other, pinned, empty}
use Rattle.bufmodel.specs.Word.{sound_flags, sound_word, pin_more, pin_less, loaded}
use Rattle.bufmodel.proofs.WordLaws.{pins-pack, usage-pack, flags-pack, usage-lt}
use Rattle.bufmodel.proofs.WordLaws.{pins-pinned, pinned-same, zero-pins, zero-unpinned, loaded-pins}
use Rattle.bufmodel.proofs.LessUsedLaws.{LessUsed}
use Rattle.buftrace.specs.Usage.{cap}
use Rattle.buftrace.specs.Trace.{Idle, hit_word, load_word}

-- ---- the test of a word's flags reads nothing else
bit-flags : (k w : ℕ) → eqb (w / (2 ^ 22 * k) % 2) 1 ≡ eqb (flags w / k % 2) 1
unfolding flags
bit-flags k w = ap (λ (x : ℕ). eqb (x % 2) 1) (sym (div-div-eq-div-mul w (2 ^ 22) k))

module _ (v w : ℕ) (e : flags v ≡ flags w) where
  bit-same : (k : ℕ) → eqb (v / (2 ^ 22 * k) % 2) 1 ≡ eqb (w / (2 ^ 22 * k) % 2) 1
  bit-same k = bit-flags k v ∙ ap (λ (x : ℕ). eqb (x / k % 2) 1) e ∙ sym (bit-flags k w)

  flags-same : sound_flags v ≡ sound_flags w
  unfolding sound_flags valid tag_valid permanent dirty just_dirtied no_other bit
  flags-same =
      rw (
        bit-same (2 ^ 0),
        bit-same (2 ^ 1),
        bit-same (2 ^ 2),
        bit-same (2 ^ 3),
        bit-same (2 ^ 4),
        bit-same (2 ^ 5),
        bit-same (2 ^ 6),
        bit-same (2 ^ 7),
        bit-same (2 ^ 8),
        bit-same (2 ^ 9),
      )

-- ---- what an idle word is, and when another is so too
idle-parts : (w : ℕ) → Idle w → (leb (usage w) cap && sound_flags w) ≡ true
unfolding sound_word
idle-parts w k = rw k.full at k.sound

pub idle-few : (w : ℕ) → Idle w → usage w ≤ cap
idle-few w k = leb-true (usage w) cap (and_left (leb (usage w) cap) (sound_flags w) (idle-parts w k))

pub idle-unpinned : (w : ℕ) → Idle w → pinned w ≡ false
idle-unpinned w k = pinned-same w 0 (k.free ∙ sym zero-pins) ∙ zero-unpinned

zero_flags : sound_flags 0 ≡ false
unfolding sound_flags valid bit
zero_flags = refl

idle-by : (w v : ℕ) → Idle w → pins v ≡ 0 → usage v ≤ cap → flags v ≡ flags w → Idle v
unfolding sound_word empty
idle-by w v k p u f =
    let s : sound_flags v ≡ true = flags-same v w f ∙ and_right (leb (usage w) cap) (sound_flags w) (idle-parts w k) in
    let full : eqb v 0 ≡ false = ne_eqb v 0 (λ e. never (ap sound_flags (sym e) ∙ s) zero_flags) in
    record { sound = rw full (and-true (le-leb (usage v) cap u) s); full = full; free = p }

-- ---- a use
few-more : (u : ℕ) → u ≤ cap → cond (ltb u cap) (u + 1) u ≤ cap
few-more u h = ⊎_elim (λ e. let lt = ltb-true u cap e in rw e (omega arith)) (λ e. rw e h) (true-or-false (ltb u cap))

module _ (w : ℕ) (k : Idle w) where
  -- the word between pin and unpin
  more-fields : (pins (pin_more cap w) ≡ 1) × (usage (pin_more cap w) ≤ cap) × (flags (pin_more cap w) ≡ flags w)
  unfolding pin_more
  more-fields =
      let u = cond (ltb (usage w) cap) (usage w + 1) (usage w) in
      let few : u ≤ cap = few-more (usage w) (idle-few w k) in
      let hp : pins w + 1 < 2 ^ 18 = omega (arith, k.free) in
      let hu : u < 2 ^ 4 = omega arith in (
        pins-pack (pins w + 1) u (flags w) hp hu ∙ omega (arith, k.free),
        rw (usage-pack (pins w + 1) u (flags w) hp hu) few,
        flags-pack (pins w + 1) u (flags w) hp hu,
      )

  pub more-pinned : pinned (pin_more cap w) ≡ true
  more-pinned = pins-pinned (pin_more cap w) (omega (arith, more-fields.0))

  pub hit-idle : Idle (hit_word w)
  unfolding pin_less
  hit-idle =
      let m = pin_more cap w in
      let f = more-fields in
      let hp : pins m - 1 < 2 ^ 18 = omega (arith, f.0) in
      idle-by w (hit_word w) k
      (pins-pack (pins m - 1) (usage m) (flags m) hp (usage-lt m) ∙ omega (arith, f.0))
      (rw (usage-pack (pins m - 1) (usage m) (flags m) hp (usage-lt m)) f.1)
      (flags-pack (pins m - 1) (usage m) (flags m) hp (usage-lt m) ∙ f.2)

  -- a sweep
  pub less-idle : (v : ℕ) → LessUsed w v → Idle v
  less-idle v l = idle-by w v k (l.same-pins ∙ k.free) (omega (arith, idle-few w k)) l.same_flags

-- ---- a load
pub loaded-pinned : pinned loaded ≡ true
loaded-pinned = pins-pinned loaded (omega (arith, loaded-pins))

pub load-idle : Idle load_word
unfolding pin_less loaded pack pins usage flags sound_word empty sound_flags valid tag_valid permanent dirty just_dirtied no_other bit
load-idle = record { sound = refl; full = refl; free = refl }
