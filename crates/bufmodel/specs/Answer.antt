-- The code's answers: document 01's number and answer words for each case, and the case of an outcome.
use Rattle.std.specs.Prelude.{ℕ, zero, suc, cond, List, [], ◌∷◌, get_or, eqb, Result, Ok, Err}
use Rattle.laws.specs.Sum.{ind}
use Rattle.buftag.specs.declared.number.BlockNumber.{BlockNumber}
use Rattle.bufmodel.specs.declared.control.Control.{Control}
use Rattle.bufmodel.specs.declared.answer.Pinned.{Pinned}
use Rattle.bufmodel.specs.declared.answer.Peeked.{Peeked}
use Rattle.bufmodel.specs.declared.answer.Peeked.TheVariants.{InPool, InStore}
use Rattle.bufmodel.specs.declared.answer.Ended.{Ended}
use Rattle.bufmodel.specs.declared.refusal.Refusal.{Refusal}
use Rattle.bufmodel.specs.Refusal.{refusal_number, refusal_at}
use Rattle.bufmodel.specs.Outcome.{Outcome, zeros, one, two}

-- ---- an answer's number, 0 where the call is accepted, and its words, zeros where it is refused
abbrev pub result_number : {T : Type 0} → Result T Refusal → ℕ
result_number (Ok x) = 0
result_number (Err refusal) = refusal_number refusal

abbrev pub result_words : {T : Type 0} → (T → List ℕ) → Result T Refusal → List ℕ
result_words words (Ok x) = words x
result_words words (Err refusal) = zeros

-- ---- what a call left beside the memory: its answer, and the control record, which a refused call hands back
abbrev pub answer_of : {T : Type 0} → Result (Ended T) Refusal → Result T Refusal
answer_of (Ok end) = Ok end.answer
answer_of (Err refusal) = Err refusal

abbrev pub ended_control : {T : Type 0} → Control → Result (Ended T) Refusal → Control
ended_control before (Ok end) = end.control
ended_control before (Err refusal) = before

-- of a call that answers nothing beside: that it was done, and the control record
abbrev pub done_of : Result Control Refusal → Result (Unit {0}) Refusal
done_of (Ok after) = Ok (tt {0})
done_of (Err refusal) = Err refusal

abbrev pub record_of : Control → Result Control Refusal → Control
record_of before (Ok after) = after
record_of before (Err refusal) = before

-- ---- the words of an accepted call
-- pin: buffer number, hit or loaded, whether it wrote, probes
abbrev pub pin_words : Pinned → List ℕ
pin_words p = p.buffer.0 ∷ ind p.hit ∷ ind p.wrote ∷ p.probes ∷ []

-- peek: 1 for the pool or 0 for the store, and a byte offset
abbrev pub peek_words : Peeked → List ℕ
peek_words (InPool at) = two 1 at
peek_words (InStore at) = two 0 at

-- extend: the block's number
abbrev pub extend_words : BlockNumber → List ℕ
extend_words b = one b.0

-- the others answer only that they were done
abbrev pub done_words : Unit {0} → List ℕ
done_words x = zeros

-- ---- document 01's number and words of each kind of answer
abbrev pub pinned_number : Result Pinned Refusal → ℕ
pinned_number = result_number

abbrev pub pinned_words : Result Pinned Refusal → List ℕ
pinned_words = result_words pin_words

-- flush and checkpoint: the count written
abbrev pub written_number : Result ℕ Refusal → ℕ
written_number = result_number

abbrev pub written_words : Result ℕ Refusal → List ℕ
written_words = result_words one

abbrev pub peeked_number : Result Peeked Refusal → ℕ
peeked_number = result_number

abbrev pub peeked_words : Result Peeked Refusal → List ℕ
peeked_words = result_words peek_words

abbrev pub extended_number : Result BlockNumber Refusal → ℕ
extended_number = result_number

abbrev pub extended_words : Result BlockNumber Refusal → List ℕ
extended_words = result_words extend_words

abbrev pub accepted_number : Result (Unit {0}) Refusal → ℕ
accepted_number = result_number

abbrev pub accepted_words : Result (Unit {0}) Refusal → List ℕ
accepted_words = result_words done_words

-- ---- the case of an outcome: refused with its number, or accepted with its words
unfoldable pub answer_at : {T : Type 0} → (List ℕ → T) → ℕ → List ℕ → Result T Refusal
answer_at of zero ws = Ok (of ws)
answer_at of (suc k) ws = Err (refusal_at (suc k))

-- ---- what the words of an accepted call say
abbrev pub pinned_at : List ℕ → Pinned
pinned_at ws =
    record { buffer = record { 0 = get_or ws 0 0 }; hit = eqb (get_or ws 1 0) 1; wrote = eqb (get_or ws 2 0) 1; probes = get_or ws 3 0 }

abbrev pub written_at : List ℕ → ℕ
written_at ws = get_or ws 0 0

abbrev pub peeked_at : List ℕ → Peeked
peeked_at ws = cond (eqb (get_or ws 0 0) 1) (InPool (get_or ws 1 0)) (InStore (get_or ws 1 0))

abbrev pub extended_at : List ℕ → BlockNumber
extended_at ws = record { 0 = get_or ws 0 0 }

abbrev pub accepted_at : List ℕ → Unit {0}
accepted_at ws = tt {0}

abbrev pub pinned_of : Outcome → Result Pinned Refusal
pinned_of o = answer_at pinned_at o.refusal o.answer

abbrev pub written_of : Outcome → Result ℕ Refusal
written_of o = answer_at written_at o.refusal o.answer

abbrev pub peeked_of : Outcome → Result Peeked Refusal
peeked_of o = answer_at peeked_at o.refusal o.answer

abbrev pub extended_of : Outcome → Result BlockNumber Refusal
extended_of o = answer_at extended_at o.refusal o.answer

abbrev pub accepted_of : Outcome → Result (Unit {0}) Refusal
accepted_of o = answer_at accepted_at o.refusal o.answer
