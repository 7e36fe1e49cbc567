use mathlib.Core.Path.{◌∙◌}
use Rattle.bufmodel.proofs.AnsweredLaws.{set-up-answers}
use Rattle.bufpool.proofs.ExportLaws.{export-answer, export-control, export-made}
use Rattle.bufpool.proofs.CallLaws.{set-up-read}
use Rattle.bufpool.proofs.set_up.bufpool_set_up.Goals as goal

pub returns-then-answer-ne-ANSWER_WORDS : goal.returns-then-answer-ne-ANSWER_WORDS
returns-then-answer-ne-ANSWER_WORDS c = rw c.from.ensures (export-answer _ _ _ _ c.if-answer-ne-ANSWER_WORDS.true)

pub returns-then-control-ne-CONTROL_WORDS : goal.returns-then-control-ne-CONTROL_WORDS
returns-then-control-ne-CONTROL_WORDS c =
    rw (c.refuse.ensures.value, c.refuse.ensures.answer_after) (export-control _ _ _ _ c.if-answer-ne-ANSWER_WORDS.false c.if-control-ne-CONTROL_WORDS.true)

pub returns : goal.returns
returns c =
    let p = c.put_record.ensures in
    let u = c.set_up_pool-given.ensures in
    rw (p.control_after c.read_control.result)
    (export-made _ _ _ _ c.if-answer-ne-ANSWER_WORDS.false c.if-control-ne-CONTROL_WORDS.false (set-up-read _ _ _ _ _) (set-up-answers _ _ _ _)
    (p.value ∙ u.number) (p.answer_after ∙ u.words) u.store_after)
