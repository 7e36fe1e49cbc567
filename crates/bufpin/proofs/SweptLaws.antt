-- A sweep keeps memory that passes the places 1 and 2 so; one that finds none changes nothing.
use Prim.Native.Nat.{ℕ, ◌/◌, ◌%◌, ◌^◌, ◌≤◌, ◌<◌}
use native.Mathlib.Omega.{arith}
use mathlib.Core.Path.{◌≡◌, refl, sym, ap, ◌∙◌}
use mathlib.Core.Bool.{true, false}
use mathlib.Core.Logic.{⊎_elim}
use lib.ListN.{get_or}
use lib.Dec.{leb}
use borrow.Author.Tests.{eqb-true, ne_eqb, le-leb}
use Rattle.laws.specs.First.{missing}
use Rattle.laws.proofs.Tests.{and_left, and_right, true-or-false, never}
use Rattle.laws.proofs.First.{found-missing}
use Rattle.bufmodel.specs.Word.{pins, usage, flags, empty, pinned, sound_flags, sound_word}
use Rattle.bufmodel.specs.Word.{bit, valid, no_other}
use Rattle.bufmodel.specs.Memory.{Memory, buffers, cap_of, word_of, with_states, with_hand}
use Rattle.bufmodel.specs.Books.{empty_at}
use Rattle.bufmodel.specs.Sweep.{Swept, Sweeps, sweep_all}
use Rattle.bufmodel.proofs.WordLaws.{empty-zero, right, right-flags}
use Rattle.bufmodel.proofs.GoodLaws.{Good}
use Rattle.bufmodel.proofs.LikeLaws.{like-good}
use Rattle.bufmodel.proofs.LessUsedLaws.{LessUsed, less-dirty, less-empty, less-sound}
use Rattle.bufmodel.proofs.SweepLaws.{SweptFrom, sweeps-from, sweeps-same}
use Rattle.bufmodel.proofs.SweepEnds.{sweep_all-relates, sweep-finds, sweep-stuck}
use Rattle.bufpin.proofs.VictimBackLaws.{sound-parts, sound-few}

-- ---- words that lost usage
-- sound flags have the bit of a valid page
flags-valid : (w : ℕ) → sound_flags w ≡ true → valid w ≡ true
unfolding sound_flags
flags-valid w h =
    and_left (valid w) _ (and_left _ _ (and_left _ _ (and_left _ (no_other w) h)))

valid-full : (v w : ℕ) → flags v ≡ flags w → valid w ≡ true → empty v ≡ false
unfolding valid bit flags empty
valid-full v w e h = let b = eqb-true (w / 2 ^ 24 % 2) 1 h in ne_eqb v 0 (λ z. omega arith)

-- a word that lost usage is as sound, and as empty, as it was
pub less-kept : (cap : ℕ) {w v : ℕ} → LessUsed w v → sound_word cap w ≡ true → (sound_word cap v ≡ true) × (empty v ≡ empty w)
unfolding sound_word
less-kept cap {w} {v} less s =
    ⊎_elim
    (λ e. (less-sound less (λ f. never e f), less-empty less {cap = cap} (λ f. never e f)))
    (λ e.
    let p = sound-parts cap w s e in
    let flagged = and_right (leb (usage w) cap) (sound_flags w) p in
    let full = valid-full v w less.same_flags (flags-valid w flagged) in
    let right-too : sound_flags v ≡ true = sym (right-flags v) ∙ ap right less.same_flags ∙ right-flags w ∙ flagged in
    let few : usage v ≤ cap = omega (arith, sound-few cap w s e, less.less) in
    (rw (full, le-leb (usage v) cap few, right-too), full ∙ sym e))
    (true-or-false (empty w))

-- ---- the sweep
module _ (m : Memory) (k : Good m) where
  abbrev end : Swept
  end = sweep_all (cap_of m) m.states m.control.hand

  few : (i : ℕ) → i < buffers m → usage (word_of m i) ≤ cap_of m
  unfolding usage
  few i l =
      ⊎_elim
      (λ e. omega (arith, empty-zero (word_of m i) e))
      (λ f. sound-few (cap_of m) (word_of m i) (k.books.words i l) f)
      (true-or-false (empty (word_of m i)))

  sweeps : Sweeps (buffers m) 0 m.control.hand m.states end
  sweeps = (sweep_all-relates (cap_of m) m.states m.control.hand k.books.hand few).0

  pub swept-from : SweptFrom m.states end
  swept-from = sweeps-from k.books.hand refl sweeps

  kept : (i : ℕ) → i < buffers m
      → (sound_word (cap_of m) (get_or end.words i 0) ≡ true) × (empty (get_or end.words i 0) ≡ empty (word_of m i))
  kept i l = less-kept (cap_of m) (swept-from.each i) (k.books.words i l)

  -- the memory with the words and the hand that it leaves
  pub swept-good : Good (with_hand end.hand (with_states end.words m))
  unfolding empty_at
  swept-good =
      let b = k.books in
      like-good m k end.hand m.control.inserted m.control.flushed end.words m.pool m.store
      swept-from.hand-lt b.log swept-from.same_length refl refl (λ i l. (kept i l).1) (λ i l. (kept i l).0)
      (λ i l d. b.low i l (sym (less-dirty (swept-from.each i)) ∙ d)) (λ i l. (swept-from.each i).same-pins)

  -- the victim of a sweep with no buffer empty
  pub swept-full : (i : ℕ) → i < buffers m → empty_at m i ≡ false → empty (get_or end.words i 0) ≡ false
  unfolding empty_at
  swept-full i l f = (kept i l).1 ∙ f

  -- where it finds none, every buffer is pinned
  pub swept-pinned : end.victim ≡ missing → (i : ℕ) → i < buffers m → pinned (word_of m i) ≡ true
  swept-pinned e i l =
      ⊎_elim
      (λ p. p)
      (λ f.
      let w = sweep-finds (cap_of m) m.states m.control.hand k.books.hand i l f few in
      found-missing (sym w.1 ∙ e))
      (true-or-false (pinned (word_of m i)))

  -- where every buffer is pinned, it finds none and changes no word
  pub swept-stuck : ((i : ℕ) → i < buffers m → pinned (word_of m i) ≡ true) → (end.victim ≡ missing) × (end.words ≡ m.states)
  swept-stuck pins =
      let w = sweep-stuck m.states m.control.hand k.books.hand pins in
      let q = sweeps-same sweeps w.1 in
      (ap (λ (s : Swept). s.victim) q ∙ w.2, ap (λ (s : Swept). s.words) q ∙ w.4)
