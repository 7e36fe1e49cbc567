use lib.ListN.{get_or}
use mathlib.Core.Path.{◌≡◌}
use Rattle.laws.specs.Sum.{count}
use Rattle.bufmodel.specs.Word.{dirty}
use Rattle.bufcalls.proofs.checkpoint.count_dirty.Given as goal

abbrev pub invariant-loop-w : goal.invariant-loop-w
invariant-loop-w l = l.n ≡ count l.w-index (λ i. dirty (get_or l.states i 0))
