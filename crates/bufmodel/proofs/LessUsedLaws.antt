-- A word that lost some usage, and nothing else: what it still is.
use Prim.Native.Nat.{ℕ, ◌-◌, ◌/◌, ◌%◌, ◌^◌, ◌≤◌, ◌<◌}
use mathlib.Core.Path.{◌≡◌, refl, sym, ap, ◌∙◌}
use mathlib.Core.Bool.{true, false}
use mathlib.Core.Logic.{⊎_elim}
use mathlib.Core.List.{List}
use native.Mathlib.Omega.{arith}
use lib.Dec.{eqb}
use lib.ListN.{length, get_or, set}
use lib.Seq.{get_or-set_same, get_or-set_other}
use borrow.Author.Tests.{eq-eqb}
use Rattle.laws.proofs.Tests.{true-or-false, eq-or-ne}
use Rattle.bufmodel.specs.Word.{pins, usage, flags, pack, pinned, bit, dirty, empty, sound_word, use_less}
use Rattle.bufmodel.proofs.WordLaws.{empty-zero, zero-sound, pinned-same, Held, held_by, held-sound, held-lt}

-- ---- a word that loses one usage
pub less-pins : (w : ℕ) → pins (use_less w) ≡ pins w
unfolding use_less pack pins usage flags
less-pins w = omega arith

pub less-usage : (w : ℕ) → usage (use_less w) ≡ usage w - 1
unfolding use_less pack pins usage flags
less-usage w = omega arith

pub less-flags : (w : ℕ) → flags (use_less w) ≡ flags w
unfolding use_less pack pins usage flags
less-flags w = omega arith

-- the word v is w, of which usage may be lost, and nothing else
pub record LessUsed (w v : ℕ) : Type 0 where
  pub same-pins : pins v ≡ pins w
  pub same_flags : flags v ≡ flags w
  pub less : usage v ≤ usage w

pub used-same : {w : ℕ} → LessUsed w w
used-same = record { same-pins = refl; same_flags = refl; less = omega arith }

pub used-then : {u v w : ℕ} → LessUsed u v → LessUsed v w → LessUsed u w
used-then p q =
    record { same-pins = q.same-pins ∙ p.same-pins; same_flags = q.same_flags ∙ p.same_flags; less = omega arith }

pub used-less : (w : ℕ) → LessUsed w (use_less w)
used-less w = record { same-pins = less-pins w; same_flags = less-flags w; less = omega (arith, less-usage w) }

-- one word of a list, and so each
pub set-less : (words : List ℕ) (k v : ℕ) → k < length words → LessUsed (get_or words k 0) v
    → (i : ℕ) → LessUsed (get_or words i 0) (get_or (set words k v) i 0)
set-less words k v l h i =
    ⊎_elim (λ e. rw e (rw (get_or-set_same words k v 0 l) h)) (λ f. rw (get_or-set_other words k i v 0 f) used-same) (eq-or-ne i k)

-- ---- dirty is a flag
dirty-flags : (w : ℕ) → dirty w ≡ eqb (flags w / 2 % 2) 1
unfolding dirty bit flags
dirty-flags w = let e : w / 2 ^ 23 % 2 ≡ w / 2 ^ 22 / 2 % 2 = omega arith in ap (λ (x : ℕ). eqb x 1) e

-- a word with no pins, no usage and no flags is 0
fields-zero : (w : ℕ) → pins w ≡ 0 → usage w ≡ 0 → flags w ≡ 0 → empty w ≡ true
unfolding empty pins usage flags
fields-zero w p u f = eq-eqb w 0 (omega arith)

module _ {w v : ℕ} (less : LessUsed w v) where
  pub less-pinned : pinned v ≡ pinned w
  less-pinned = pinned-same v w less.same-pins

  pub less-dirty : dirty v ≡ dirty w
  less-dirty = dirty-flags v ∙ ap (λ (x : ℕ). eqb (x / 2 % 2) 1) less.same_flags ∙ sym (dirty-flags w)

  -- a buffer in use stays in use, and an empty one empty
  pub less-held : {cap : ℕ} → Held cap w → Held cap v
  less-held {cap} k = held_by cap v (omega (arith, k.few)) (rw less.same_flags k.flag)

  less_zero : w ≡ 0 → empty v ≡ true
  unfolding pins usage flags
  less_zero z =
      fields-zero v (omega arith) (omega arith) (omega arith)

  -- of words that are 0 or in use
  pub less-empty : {cap : ℕ} → (empty w ≡ false → Held cap w) → empty v ≡ empty w
  less-empty held =
      ⊎_elim
      (λ e. less_zero (empty-zero w e) ∙ sym e)
      (λ f. (less-held (held f)).full ∙ sym f)
      (true-or-false (empty w))

  pub less-sound : {cap : ℕ} → (empty w ≡ false → Held cap w) → sound_word cap v ≡ true
  less-sound {cap} held =
      ⊎_elim
      (λ e. ap (sound_word cap) (empty-zero v (less_zero (empty-zero w e))) ∙ zero-sound cap)
      (λ f. let k = less-held (held f) in (held-sound (held-lt k) k).0)
      (true-or-false (empty w))
