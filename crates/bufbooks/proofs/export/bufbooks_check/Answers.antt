use mathlib.Core.Path.{◌∙◌}
use Rattle.bufbooks.proofs.LentLaws.{called-read}
use Rattle.bufbooks.proofs.export.bufbooks_check.Goals as goal

pub returns-in-Ok : goal.returns-in-Ok
returns-in-Ok c =
    c.in-Ok.ensures ∙ called-read _ _ c.if-answer-ne-ANSWER_WORDS.false c.if-control-ne-CONTROL_WORDS.false c.read_control.ensures

pub returns-in-Err : goal.returns-in-Err
returns-in-Err c =
    c.from-in-Err.ensures ∙ c.in-Err.ensures
    ∙ called-read _ _ c.if-answer-ne-ANSWER_WORDS.false c.if-control-ne-CONTROL_WORDS.false c.read_control.ensures
