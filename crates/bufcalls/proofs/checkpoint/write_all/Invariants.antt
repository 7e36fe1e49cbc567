use mathlib.Core.List.{[]}
use mathlib.Core.Path.{◌≡◌}
use Rattle.bufmodel.specs.Memory.{memory}
use Rattle.bufmodel.specs.Moves.{write_up_to}
use Rattle.bufcalls.proofs.checkpoint.write_all.Given as goal

abbrev pub invariant-loop-i : goal.invariant-loop-i
invariant-loop-i l =
    memory l.after l.states l.names l.pool [] [] [] l.rows l.store
    ≡ write_up_to l.i (memory l.initial.after l.initial.states l.names l.pool [] [] [] l.rows l.initial.store)
