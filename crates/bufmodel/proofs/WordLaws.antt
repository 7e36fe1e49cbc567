-- Laws of state words: the fields of a word, the words of buffers in use, and what the changes do to them.
use Prim.Native.Nat.{ℕ, suc, ◌+◌, ◌-◌, ◌/◌, ◌%◌, ◌^◌, ◌≤◌, ◌<◌}
use mathlib.Core.Path.{◌≡◌, refl, sym, ap, ◌∙◌}
use mathlib.Core.Bool.{Bool, true, false, not, ◌&&◌, ◌||◌, cond, beq}
use mathlib.Core.Logic.{◌⊎◌, inl, inr, ⊎_elim}
use native.Mathlib.Nat.{div-div-eq-div-mul}
use native.Mathlib.Omega.{arith}
use lib.Dec.{eqb, ltb}
use borrow.Author.Tests.{eq-eqb, ne_eqb, eqb-true, eqb-false, ltb-true, not-true, not-false}
use Rattle.laws.specs.Every.{all}
use Rattle.laws.specs.Says.{Says}
use Rattle.laws.proofs.Tests.{true-or-false, beq-true}
use Rattle.laws.proofs.Every.{all-at}
use Rattle.laws.proofs.Says.{says_eq, says-le, says-and, says-or, says-else, says-as}
use Rattle.bufmodel.specs.Word.{max_cap, pins, usage, flags, pack, clean_flags, dirty_flags, pinned}
use Rattle.bufmodel.specs.Word.{bit, dirty, valid, tag_valid, just_dirtied, permanent, no_other, empty, sound_flags, sound_word}
use Rattle.bufmodel.specs.Word.{pin_more, pin_less, use_less, make_dirty, make_clean, loaded}

-- ---- the fields of a word, and the word of its fields
module _ (p u f : ℕ) (hp : p < 2 ^ 18) (hu : u < 2 ^ 4) where
  pub pins-pack : pins (pack p u f) ≡ p
  unfolding pins pack
  pins-pack = omega arith

  pub usage-pack : usage (pack p u f) ≡ u
  unfolding usage pack
  usage-pack = omega arith

  pub flags-pack : flags (pack p u f) ≡ f
  unfolding flags pack
  flags-pack = omega arith

pub pack-fields : (w : ℕ) → pack (pins w) (usage w) (flags w) ≡ w
unfolding pack pins usage flags
pack-fields w = omega arith

pub pins-lt : (w : ℕ) → pins w < 2 ^ 18
unfolding pins
pins-lt w = omega arith

pub usage-lt : (w : ℕ) → usage w < 2 ^ 4
unfolding usage
usage-lt w = omega arith

pub flags-lt : (w : ℕ) → w < 2 ^ 32 → flags w < 2 ^ 10
unfolding flags
flags-lt w h = omega arith

-- ---- the word of an empty buffer
pub zero-empty : empty 0 ≡ true
unfolding empty
zero-empty = refl

pub empty-zero : (w : ℕ) → empty w ≡ true → w ≡ 0
unfolding empty
empty-zero w e = eqb-true w 0 e

pub zero-sound : (cap : ℕ) → sound_word cap 0 ≡ true
unfolding sound_word empty
zero-sound cap = refl

pub zero-clean : dirty 0 ≡ false
unfolding dirty bit
zero-clean = refl

pub zero-pins : pins 0 ≡ 0
unfolding pins
zero-pins = refl

pub zero-unpinned : pinned 0 ≡ false
unfolding pinned pins
zero-unpinned = refl

-- ---- a word is pinned while its count is not 0
pub pinned-pins : (w : ℕ) → pinned w ≡ true → 0 < pins w
unfolding pinned
pinned-pins w h = let ne = eqb-false (pins w) 0 (not-true _ h) in omega arith

pub pins-pinned : (w : ℕ) → 0 < pins w → pinned w ≡ true
unfolding pinned
pins-pinned w h = ap not (ne_eqb (pins w) 0 (omega arith))

pub unpinned-none : (w : ℕ) → pinned w ≡ false → pins w ≡ 0
unfolding pinned
unpinned-none w e = eqb-true (pins w) 0 (not-false _ e)

pub pinned-same : (v w : ℕ) → pins v ≡ pins w → pinned v ≡ pinned w
unfolding pinned
pinned-same v w e = rw e

-- ---- the flags as one number
-- the test of the flags, over the ten bits of that number
pub right : ℕ → Bool
right f =
    bit 2 f && bit 3 f && bit 9 f && beq (bit 1 f) (bit 6 f)
    && (not (bit 0 f) && not (bit 4 f) && not (bit 5 f) && not (bit 7 f) && not (bit 8 f))

-- the number is one of two
known : ℕ → Bool
known f = eqb f clean_flags || eqb f dirty_flags

flags-table : all (2 ^ 10) (λ f. beq (right f) (known f)) ≡ true
unfolding all right known bit
flags-table = refl

-- bit 22 + k of a word is bit k of its flags
pub right-flags : (w : ℕ) → right (flags w) ≡ sound_flags w
unfolding right sound_flags valid tag_valid permanent dirty just_dirtied no_other bit flags
right-flags w = simp div-div-eq-div-mul

-- sound flags are one of two numbers
pub sound-flags : (w : ℕ) → w < 2 ^ 32 → sound_flags w ≡ (eqb (flags w) clean_flags || eqb (flags w) dirty_flags)
unfolding known
sound-flags w h =
    sym (right-flags w) ∙ beq-true _ _ (all-at (λ f. beq (right f) (known f)) (2 ^ 10) flags-table (flags w) (flags-lt w h))

-- ---- the word of a buffer in use, its usage not above a cap
pub record Held (cap w : ℕ) : Type 0 where
  pub full : empty w ≡ false
  pub few : usage w ≤ cap
  pub flag : (flags w ≡ clean_flags) ⊎ (flags w ≡ dirty_flags)

-- it is not 0, since its flags are not
pub held_by : (cap w : ℕ) → usage w ≤ cap → (flags w ≡ clean_flags) ⊎ (flags w ≡ dirty_flags) → Held cap w
unfolding empty flags
held_by cap w few flag =
    record { full = ne_eqb w 0 (λ e. ⊎_elim (λ f. omega arith) (λ f. omega arith) flag); few = few; flag = flag }

-- the test of a word decides that it is 0 or so
word-says : (cap w : ℕ) → w < 2 ^ 32 → Says (sound_word cap w) (empty w ≡ false → Held cap w)
unfolding sound_word
word-says cap w h =
    says-else (empty w)
    (says-as (λ s. held_by cap w s.0 s.1) (λ k. (k.few, k.flag))
    (says-and (says-le (usage w) cap) (rw (sound-flags w h) (says-or (says_eq (flags w) clean_flags) (says_eq (flags w) dirty_flags)))))

-- a sound word other than 0 is so, and back
pub sound-held : {cap w : ℕ} → w < 2 ^ 32 → sound_word cap w ≡ true → empty w ≡ false → Held cap w
sound-held {cap} {w} h sound full = (word-says cap w h).holds sound full

pub held-sound : {cap w : ℕ} → w < 2 ^ 32 → Held cap w → (sound_word cap w ≡ true) × (empty w ≡ false)
held-sound {cap} {w} h k = ((word-says cap w h).shown (λ e. k), k.full)

pub held-lt : {cap w : ℕ} → Held cap w → w < 2 ^ 32
unfolding flags
held-lt k = ⊎_elim (λ f. omega arith) (λ f. omega arith) k.flag

-- a page is dirty by its flags as a number
pub dirty-is : {cap w : ℕ} → Held cap w → dirty w ≡ eqb (flags w) dirty_flags
unfolding dirty bit flags
dirty-is {cap} {w} k =
    ⊎_elim
    (λ f. rw f (ne_eqb (w / 2 ^ 23 % 2) 1 (omega arith)))
    (λ f. rw f (eq-eqb (w / 2 ^ 23 % 2) 1 (omega arith)))
    k.flag

-- ---- the changes
-- the word of a buffer in use, with these pins, usage and flags, dirty or not
pub record Fields (cap w p u f : ℕ) (d : Bool) : Type 0 where
  pub held : Held cap w
  pub pins : pins w ≡ p
  pub usage : usage w ≡ u
  pub flags : flags w ≡ f
  pub dirty : dirty w ≡ d

-- a packed word has the fields that it was packed of
packed : (cap p u f : ℕ) → p < 2 ^ 18 → u < 2 ^ 4 → u ≤ cap → (f ≡ clean_flags) ⊎ (f ≡ dirty_flags)
    → Fields cap (pack p u f) p u f (eqb f dirty_flags)
packed cap p u f hp hu few hf =
    let fs = flags-pack p u f hp hu in
    let us = usage-pack p u f hp hu in
    let k : Held cap (pack p u f) = held_by cap (pack p u f) (rw us few) (rw fs hf) in
    record { held = k; pins = pins-pack p u f hp hu; usage = us; flags = fs; dirty = dirty-is k ∙ rw fs refl }

-- one use more, up to the cap
few-more : (cap u : ℕ) → u ≤ cap → cond (ltb u cap) (u + 1) u ≤ cap
few-more cap u h =
    ⊎_elim (λ e. let lt = ltb-true u cap e in rw e (omega arith)) (λ e. rw e h) (true-or-false (ltb u cap))

module _ {cap w : ℕ} (k : Held cap w) where
  -- other counts, the same flags
  counted : (p u : ℕ) → p < 2 ^ 18 → u < 2 ^ 4 → u ≤ cap → Fields cap (pack p u (flags w)) p u (flags w) (dirty w)
  counted p u hp hu few = rw (dirty-is k) (packed cap p u (flags w) hp hu few k.flag)

  -- a cap that four bits hold: no use more is carried into the flags
  pub pin-more : cap ≤ max_cap → suc (pins w) < 2 ^ 18
      → Fields cap (pin_more cap w) (pins w + 1) (cond (ltb (usage w) cap) (usage w + 1) (usage w)) (flags w) (dirty w)
  unfolding pin_more
  pin-more c h =
      let few = few-more cap (usage w) k.few in
      counted (pins w + 1) _ (omega arith) (omega arith) few

  pub pin-less : Fields cap (pin_less w) (pins w - 1) (usage w) (flags w) (dirty w)
  unfolding pin_less
  pin-less = counted (pins w - 1) (usage w) (omega (arith, pins-lt w)) (usage-lt w) k.few

  pub use-less : Fields cap (use_less w) (pins w) (usage w - 1) (flags w) (dirty w)
  unfolding use_less
  use-less = counted (pins w) (usage w - 1) (pins-lt w) (omega (arith, usage-lt w)) (omega (arith, k.few))

  pub make-dirty : Fields cap (make_dirty w) (pins w) (usage w) dirty_flags true
  unfolding make_dirty
  make-dirty = packed cap (pins w) (usage w) dirty_flags (pins-lt w) (usage-lt w) k.few (inr refl)

  pub make-clean : Fields cap (make_clean w) (pins w) (usage w) clean_flags false
  unfolding make_clean
  make-clean = packed cap (pins w) (usage w) clean_flags (pins-lt w) (usage-lt w) k.few (inl refl)

-- every cap allows the usage of a page just loaded
pub loaded-fields : {cap : ℕ} → 1 ≤ cap → Fields cap loaded 1 1 clean_flags false
unfolding loaded
loaded-fields {cap} c = packed cap 1 1 clean_flags (omega arith) (omega arith) c (inl refl)

pub loaded-pins : pins loaded ≡ 1
loaded-pins = (loaded-fields {cap = 1} (omega arith)).pins

pub loaded-full : empty loaded ≡ false
loaded-full = (loaded-fields {cap = 1} (omega arith)).held.full

pub loaded-clean : dirty loaded ≡ false
loaded-clean = (loaded-fields {cap = 1} (omega arith)).dirty
