use mathlib.Core.Path.{refl, ◌∙◌}
use Rattle.bufmodel.proofs.AnsweredLaws.{read-answers}
use Rattle.bufpool.proofs.ExportLaws.{export-answer, export-control, call-read, export-left}
use Rattle.bufpool.proofs.CallLaws.{read-early, read_left}
use Rattle.bufpool.proofs.buffer.bufpool_read.Goals as goal

pub returns-then-answer-ne-ANSWER_WORDS : goal.returns-then-answer-ne-ANSWER_WORDS
returns-then-answer-ne-ANSWER_WORDS c = rw c.from.ensures (export-answer _ _ _ _ c.if-answer-ne-ANSWER_WORDS.true)

pub returns-then-control-ne-CONTROL_WORDS : goal.returns-then-control-ne-CONTROL_WORDS
returns-then-control-ne-CONTROL_WORDS c =
    rw (c.refuse.ensures.value, c.refuse.ensures.answer_after) (export-control _ _ _ _ c.if-answer-ne-ANSWER_WORDS.false c.if-control-ne-CONTROL_WORDS.true)

pub returns : goal.returns
returns c =
    let p = c.put_answer.ensures in
    let u = c.read_buffer-given.ensures in
    let is = c.read_control.ensures in
    let early = read-early _ _ _ _ in
    rw u.out_after
    (export-left _ _ _ _ c.if-answer-ne-ANSWER_WORDS.false c.if-control-ne-CONTROL_WORDS.false (call-read _ _ _ early _ is) (read-answers _ _ _ _ _)
    (p.value ∙ u.number) (p.answer_after ∙ u.words) (read_left _ _ _ _ _) early is refl)
