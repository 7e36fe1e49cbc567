use mathlib.Core.Path.{◌≡◌}
use Rattle.bufmodel.specs.Calls.{give_up_to}
use Rattle.bufcalls.specs.Give.{pins_part}
use Rattle.bufcalls.proofs.give.give_all.Given as goal

abbrev pub invariant-loop-i : goal.invariant-loop-i
invariant-loop-i l = pins_part l.states l.counts ≡ give_up_to l.holder.0 l.i (pins_part l.initial.states l.initial.counts)
