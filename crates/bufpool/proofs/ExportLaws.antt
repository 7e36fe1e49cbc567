-- A call over the memory as the code reads it is the call over the memory as it is lent.
use Prim.Native.Nat.{ℕ, zero, suc}
use mathlib.Core.Path.{◌≡◌, refl, sym, ap, ◌∙◌}
use mathlib.Core.Logic.{◌≢◌, ⊎_elim}
use mathlib.Core.List.{List, []}
use native.Mathlib.Omega.{arith}
use lib.ListN.{length}
use borrow.Author.Tests.{eq-eqb, ne_eqb}
use Rattle.laws.proofs.Tests.{eq-or-ne}
use Rattle.bufmodel.specs.declared.control.Control.{Control}
use Rattle.bufmodel.specs.Memory.{Memory, memory, with_counts}
use Rattle.bufmodel.specs.Outcome.{Outcome, checked, refused, zeros}
use Rattle.bufmodel.specs.Lent.{Lent, Called, control_words, answer_words, words_of, opened, closed, ended, called}
use Rattle.bufmodel.proofs.GoodLaws.{Good, passed-good}
use Rattle.bufmodel.proofs.LentLaws.{words-of-control}
use Rattle.bufmodel.proofs.AnsweredLaws.{Answers}
use Rattle.bufmem.specs.Control.{control_read}
use Rattle.bufbooks.proofs.LentLaws.{read_opened, read-good}
use Rattle.bufpool.specs.Lent.{lent, ends, kept_words}

-- the lent memory with a control record of its own
abbrev pub under : Control → Lent → Memory
under c l =
    with_counts l.counts (memory c l.states l.names l.pool l.free l.heads l.chain l.rows l.store)

-- the lent memory with the control words ws and the other parts of m
abbrev pub over : List ℕ → Memory → Lent
over ws m = lent ws m.states m.names m.pool m.free m.heads m.chain m.rows m.store m.counts

-- ---- a call as the exports need it
-- the places 1 and 2 refuse it with their number
abbrev pub Early : (Memory → Outcome) → List ℕ → Type 0
Early call bytes = (m : Memory) (k : ℕ) → k ≡ checked m [] → k ≢ 0 → call m ≡ refused k bytes m

-- ---- the memory as it is read
ended-refused : (l : Lent) (bytes : List ℕ) (k : ℕ) (a b : Memory) → k ≢ 0 → ended l (refused k bytes a) k ≡ ended l (refused k bytes b) k
unfolding ended
ended-refused l bytes zero a b h = absurd (h refl)
ended-refused l bytes (suc k) a b h = refl

abbrev pub ended_by : Lent → Outcome → Called
ended_by l o = ended l o o.refusal

-- good memory is read as it is
read_same : (l : Lent) → Good (opened l) → under (control_read l.control) l ≡ opened l
unfolding opened
read_same l g = ap (λ (c : Control). under c l) (read-good l g)

module _ (call : Memory → Outcome) (bytes : List ℕ) (l : Lent) where
  -- an answer of another length
  pub export-answer : (answer : List ℕ) → length answer ≢ answer_words → ends 1 answer bytes l ≡ called call l bytes answer
  unfolding called
  export-answer answer a = rw (ne_eqb (length answer) answer_words a)

  -- a control record of another length
  pub export-control : (answer : List ℕ) → length answer ≡ answer_words → length l.control ≢ control_words
      → ends 1 zeros bytes l ≡ called call l bytes answer
  unfolding called
  export-control answer a h = rw (eq-eqb (length answer) answer_words a, ne_eqb (length l.control) control_words h)

  called-ended : (answer : List ℕ) → length answer ≡ answer_words → length l.control ≡ control_words
      → called call l bytes answer ≡ ended_by l (call (opened l))
  unfolding called
  called-ended answer a h = rw (eq-eqb (length answer) answer_words a, eq-eqb (length l.control) control_words h)

  module _ (early : Early call bytes) (c : Control) (is : c ≡ control_read l.control) where
    checked-read : checked (under c l) [] ≡ checked (opened l) []
    checked-read = rw is (read_opened l)

    call-good : checked (opened l) [] ≡ 0 → under c l ≡ opened l
    call-good z = ap (λ (x : Control). under x l) is ∙ read_same l (passed-good (opened l) refl z)

    pub call-read : ended_by l (call (under c l)) ≡ ended_by l (call (opened l))
    call-read =
        ⊎_elim
        (λ z. ap (λ (m : Memory). ended_by l (call m)) (call-good z))
        (λ h.
        let k = checked (opened l) [] in
        ap (ended_by l) (early (under c l) k (sym checked-read) h)
        ∙ ended-refused l bytes k (under c l) (opened l) h
        ∙ sym (ap (ended_by l) (early (opened l) k refl h)))
        (eq-or-ne (checked (opened l) []) 0)

    -- an accepted call read the control record as it is lent
    accepted-words : length l.control ≡ control_words → (call (under c l)).refusal ≡ 0 → words_of c ≡ l.control
    unfolding opened
    accepted-words h e =
        ⊎_elim
        (λ z. ap (λ (m : Memory). words_of m.control) (call-good z) ∙ words-of-control l.control h)
        (λ n.
        let r = early (under c l) (checked (opened l) []) (sym checked-read) n in
        absurd (n (ap (λ (o : Outcome). o.refusal) (sym r) ∙ e)))
        (eq-or-ne (checked (opened l) []) 0)

-- ---- the end of a call that was made
ended-made : (l : Lent) (o : Outcome) (r : ℕ) (m : Memory) → m ≡ o.after → (r ≢ 0 → over l.control m ≡ l)
    → ends r o.answer o.bytes (over (kept_words r m.control l.control) m) ≡ ended l o r
unfolding ended kept_words closed
ended-made l o zero m t keeps = rw t
ended-made l o (suc k) m t keeps =
    let n : suc k ≢ 0 = λ z. absurd (omega arith) in
    rw (ne_eqb (suc k) 0 n) (ap (λ (y : Lent). ends (suc k) o.answer o.bytes y) (keeps n))

module _ {T : Type 0} {words : T → List ℕ} {of : List ℕ → T} (call : Memory → Outcome) (bytes : List ℕ)
    (l : Lent) (answer : List ℕ) (a : length answer ≡ answer_words) (h : length l.control ≡ control_words)
    {c : Control} (read : ended_by l (call (under c l)) ≡ ended_by l (call (opened l))) {left : List ℕ}
    (answers : Answers words of left (under c l) (call (under c l))) where
  abbrev o : Outcome
  o = call (under c l)

  called-made : ended_by l o ≡ called call l bytes answer
  called-made = read ∙ sym (called-ended call bytes l answer a h)

  module _ {r : ℕ} {ws : List ℕ} {m : Memory} (r-is : r ≡ o.refusal) (ws-is : ws ≡ o.answer) (m-is : m ≡ o.after) where
    made_kept : r ≢ 0 → over l.control m ≡ l
    made_kept n = ap (λ (y : Memory). over l.control y) (m-is ∙ answers.kept (λ z. n (r-is ∙ z)))

    -- the control record is stored where the result is 0
    pub export-made : ends r ws left (over (kept_words r m.control l.control) m) ≡ called call l bytes answer
    export-made =
        rw (ws-is, answers.same_bytes)
        (ended-made l o r m m-is made_kept ∙ ap (ended l o) r-is ∙ called-made)

    -- or is left as it is
    pub export-left : Early call bytes → c ≡ control_read l.control → m.control ≡ c
        → ends r ws left (over l.control m) ≡ called call l bytes answer
    unfolding kept_words
    export-left early is same = ap (λ (y : List ℕ). ends r ws left (over y m)) words_left ∙ export-made
      where
        words_left : l.control ≡ kept_words r m.control l.control
        words_left =
            ⊎_elim
            (λ z. rw z (sym (ap words_of same ∙ accepted-words call bytes l early c is h (sym r-is ∙ z))))
            (λ n. rw (ne_eqb r 0 n) refl)
            (eq-or-ne r 0)
