use mathlib.Core.Path.{◌∙◌}
use Rattle.bufmodel.proofs.AnsweredLaws.{flushed-answers}
use Rattle.bufpool.proofs.ExportLaws.{export-answer, export-control, call-read, export-made}
use Rattle.bufpool.proofs.CallLaws.{flushed-early}
use Rattle.bufpool.proofs.log.bufpool_log_flushed.Goals as goal

pub returns-then-answer-ne-ANSWER_WORDS : goal.returns-then-answer-ne-ANSWER_WORDS
returns-then-answer-ne-ANSWER_WORDS c = rw c.from.ensures (export-answer _ _ _ _ c.if-answer-ne-ANSWER_WORDS.true)

pub returns-then-control-ne-CONTROL_WORDS : goal.returns-then-control-ne-CONTROL_WORDS
returns-then-control-ne-CONTROL_WORDS c =
    rw (c.refuse.ensures.value, c.refuse.ensures.answer_after) (export-control _ _ _ _ c.if-answer-ne-ANSWER_WORDS.false c.if-control-ne-CONTROL_WORDS.true)

pub returns : goal.returns
returns c =
    let p = c.put_record.ensures in
    let u = c.log_flushed-given.ensures in
    let read = call-read _ _ _ (flushed-early _) _ c.read_control.ensures in
    rw (p.control_after c.read_control.result)
    (export-made _ _ _ _ c.if-answer-ne-ANSWER_WORDS.false c.if-control-ne-CONTROL_WORDS.false read (flushed-answers _ _)
    (p.value ∙ u.number) (p.answer_after ∙ u.words) u.after)
