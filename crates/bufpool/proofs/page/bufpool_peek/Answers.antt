use mathlib.Core.Path.{refl, ◌∙◌}
use Rattle.bufmodel.proofs.AnsweredLaws.{peek-answers}
use Rattle.bufpool.proofs.ExportLaws.{export-answer, export-control, call-read, export-left}
use Rattle.bufpool.proofs.CallLaws.{peek-early, peek-left}
use Rattle.bufpool.proofs.page.bufpool_peek.Goals as goal

pub returns-then-answer-ne-ANSWER_WORDS : goal.returns-then-answer-ne-ANSWER_WORDS
returns-then-answer-ne-ANSWER_WORDS c = rw c.from.ensures (export-answer _ _ _ _ c.if-answer-ne-ANSWER_WORDS.true)

pub returns-then-control-ne-CONTROL_WORDS : goal.returns-then-control-ne-CONTROL_WORDS
returns-then-control-ne-CONTROL_WORDS c =
    rw (c.refuse.ensures.value, c.refuse.ensures.answer_after) (export-control _ _ _ _ c.if-answer-ne-ANSWER_WORDS.false c.if-control-ne-CONTROL_WORDS.true)

pub returns : goal.returns
returns c =
    let p = c.put_answer.ensures in
    let u = c.peek_at-given.ensures in
    let is = c.read_control.ensures in
    let early = peek-early _ in
    rw (← c.page_name-name.ensures)
    (export-left _ _ _ _ c.if-answer-ne-ANSWER_WORDS.false c.if-control-ne-CONTROL_WORDS.false (call-read _ _ _ early _ is) (peek-answers _ _)
    (p.value ∙ u.number) (p.answer_after ∙ u.words) (peek-left _ _) early is refl)
