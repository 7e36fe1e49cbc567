use Rattle.buftag.specs.Budget.{spend}
use Rattle.std.proofs.Common.{◌≡◌}
use Rattle.buftag.proofs.budget.list_walk.Given as goal

abbrev pub invariant-loop-left : goal.invariant-loop-left
invariant-loop-left l = spend l.links l.left l.at ≡ spend l.links l.budget l.initial.at
