-- Laws of the C side: the control record to words and back, and a call of the memory as it is lent.
use Prim.Native.Nat.{ℕ, zero, suc, ◌<◌}
use mathlib.Core.Path.{◌≡◌, refl, sym, ◌∙◌}
use mathlib.Core.Logic.{◌≢◌, ◌⊎◌, ⊎_elim}
use mathlib.Core.List.{List}
use native.Mathlib.Omega.{arith}
use lib.Dec.{eqb}
use lib.IntN.{ℤ, pos}
use lib.ListN.{length, get_or}
use lib.Seq.{take_all}
use borrow.Author.Tests.{eq-eqb, ne_eqb, eqb-true}
use Rattle.laws.proofs.Tests.{true-or-false}
use Rattle.laws.proofs.Lists.{take-listed}
use Rattle.buftag.specs.Link.{none}
use Rattle.bufmodel.specs.declared.control.Control.{Control}
use Rattle.bufmodel.specs.Memory.{Memory}
use Rattle.bufmodel.specs.Outcome.{Outcome}
use Rattle.bufmodel.specs.Lent.{control_words, one_bits, top_of, top_word, control_of, words_of, opened, closed}
use Rattle.bufmodel.specs.Lent.{Called, answer_words, ended, called}

-- ---- the top of the free list as a word
-- −1, or a place below 64 one bits, which stand for −1
abbrev pub TopFits : ℤ → Type 0
TopFits t = (t ≡ none) ⊎ ((i : ℕ) × (t ≡ pos i) × (i < one_bits))

top-of-word : (t : ℤ) → TopFits t → top_of (top_word t) ≡ t
unfolding top_of top_word
top-of-word t fits =
    ⊎_elim (λ e. rw e) (λ s. rw (s.1, ne_eqb s.0 one_bits (omega (arith, s.2)))) fits

word-of-top : (w : ℕ) → top_word (top_of w) ≡ w
unfolding top_of top_word
word-of-top w = ⊎_elim (λ e. rw e (sym (eqb-true w one_bits e))) (λ e. rw e) (true-or-false (eqb w one_bits))

-- ---- the control record as words
pub words-of-control : (ws : List ℕ) → length ws ≡ control_words → words_of (control_of ws) ≡ ws
unfolding words_of control_of
words-of-control ws h =
    rw (word-of-top (get_or ws 2 0)) (sym (take-listed 6 ws 0 (omega arith)) ∙ take_all 6 ws (omega arith))

pub control-of-words : (c : Control) → TopFits c.top → control_of (words_of c) ≡ c
unfolding control_of words_of
control-of-words c fits = rw (top-of-word c.top fits)

-- ---- the lent memory
pub opened-closed : (m : Memory) → TopFits m.control.top → opened (closed m) ≡ m
unfolding opened closed
opened-closed m fits = rw (control-of-words m.control fits)

-- ---- a call
-- an outcome as the caller in C has it
abbrev pub called_of : Outcome → Called
called_of o = record { result = o.refusal; answer = o.answer; bytes = o.bytes; lent = closed o.after }

ended_is : (m : Memory) (o : Outcome) → (o.refusal ≢ 0 → o.after ≡ m) → ended (closed m) o o.refusal ≡ called_of o
unfolding ended
ended_is m o keeps = go o.refusal refl
  where
    go : (k : ℕ) → o.refusal ≡ k → ended (closed m) o k ≡ called_of o
    go zero e = cc
    go (suc k) e = let same : o.after ≡ m = keeps (λ z. omega arith) in cc

closed-long : (m : Memory) → length (closed m).control ≡ control_words
unfolding closed words_of
closed-long m = refl

-- a call that leaves the memory where it refuses gives in C what it gives
pub called-closed : (call : Memory → Outcome) (m : Memory) (bytes answer : List ℕ) → TopFits m.control.top
    → length answer ≡ answer_words → ((call m).refusal ≢ 0 → (call m).after ≡ m)
    → called call (closed m) bytes answer ≡ called_of (call m)
unfolding called
called-closed call m bytes answer fits long keeps =
    rw (eq-eqb (length answer) answer_words long, eq-eqb _ control_words (closed-long m), opened-closed m fits) (ended_is m (call m) keeps)
