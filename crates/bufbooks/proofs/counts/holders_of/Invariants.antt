use mathlib.Core.Path.{◌≡◌}
use Rattle.laws.specs.Sum.{count}
use Rattle.bufmodel.specs.Counts.{has_pin}
use Rattle.bufbooks.proofs.counts.holders_of.Given as goal

abbrev pub invariant-loop-count : goal.invariant-loop-count
invariant-loop-count l = l.n ≡ count l.count-index (has_pin l.counts l.fn.buffer.0)
