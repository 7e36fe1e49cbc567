use mathlib.Core.List.{List, [], ◌∷◌, ◌++◌}
use mathlib.Core.Path.{ap, ◌∙◌}
use Prim.Native.Nat.{ℕ}
use Rattle.buftrace.specs.Report.{decimal, bad_line}
use Rattle.buftrace.proofs.report.put_bad.Goals as goal

pub returns-clause-out_after : goal.returns-clause-out_after
unfolding bad_line
returns-clause-out_after c =
    c.put_number.ensures.out_after ∙ ap (λ (l : List ℕ). l ++ (decimal c.args.line ++ (10 ∷ []))) c.put_bytes-end.ensures.out_after
