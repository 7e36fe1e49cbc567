use mathlib.Core.Path.{sym, ap, ◌∙◌}
use Rattle.buftrace.specs.Report.{printed}
use Rattle.buftrace.proofs.ReportLaws.{printed-of}
use Rattle.bufcost.proofs.sum_up.Goals as goal

pub returns-clause-out_after : goal.returns-clause-out_after
returns-clause-out_after c =
    c.put_line.ensures.out_after ∙ sym (printed-of _ _ _) ∙ ap printed c.finish-end.ensures.held_after
