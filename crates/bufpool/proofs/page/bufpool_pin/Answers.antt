use mathlib.Core.Path.{◌∙◌}
use Rattle.std.proofs.Common.{rules}
use Rattle.bufmodel.proofs.AnsweredLaws.{pin-answers}
use Rattle.bufpool.proofs.ExportLaws.{export-answer, export-control, call-read, export-made}
use Rattle.bufpool.proofs.CallLaws.{pin-early}
use Rattle.bufpool.proofs.page.bufpool_pin.Goals as goal

pub returns-then-answer-ne-ANSWER_WORDS : goal.returns-then-answer-ne-ANSWER_WORDS
returns-then-answer-ne-ANSWER_WORDS c = rw c.from.ensures (export-answer _ _ _ _ c.if-answer-ne-ANSWER_WORDS.true)

pub returns-then-control-ne-CONTROL_WORDS : goal.returns-then-control-ne-CONTROL_WORDS
returns-then-control-ne-CONTROL_WORDS c =
    rw (c.refuse.ensures.value, c.refuse.ensures.answer_after) (export-control _ _ _ _ c.if-answer-ne-ANSWER_WORDS.false c.if-control-ne-CONTROL_WORDS.true)

pub returns : goal.returns
returns c =
    let p = c.put_end.ensures in
    let u = c.pin_page-given.ensures in
    let read = call-read _ _ _ (pin-early _ _) _ c.read_control.ensures in
    rw (p.control_after c.read_control.result, ← c.page_name-name.ensures)
    (export-made _ _ _ _ c.if-answer-ne-ANSWER_WORDS.false c.if-control-ne-CONTROL_WORDS.false read (pin-answers _ _ _)
    (p.value ∙ u.number) (p.answer_after ∙ u.words) (search rules))
