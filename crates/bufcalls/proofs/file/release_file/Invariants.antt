use mathlib.Core.Path.{◌≡◌}
use Rattle.bufmodel.specs.Memory.{memory, with_counts}
use Rattle.bufmodel.specs.Moves.{release_up_to}
use Rattle.bufcalls.proofs.file.release_file.Given as goal

abbrev pub invariant-loop-i : goal.invariant-loop-i
invariant-loop-i l =
    with_counts l.counts (memory l.after l.states l.names l.pool l.free l.heads l.chain l.rows l.store)
    ≡ release_up_to l.file l.i
    (with_counts l.counts
    (memory l.initial.after l.initial.states l.initial.names l.pool l.initial.free l.initial.heads l.initial.chain l.rows l.store))
