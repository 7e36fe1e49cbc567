use lib.Dec.{eqb}
use lib.ListN.{get_or}
use mathlib.Core.Path.{◌≡◌}
use Rattle.laws.specs.Every.{all}
use Rattle.bufmem.proofs.seal.is_clear.Given as goal

abbrev pub invariant-loop-b : goal.invariant-loop-b
invariant-loop-b l = l.clear ≡ all l.b-index (λ k. eqb (get_or l.bytes k 0) 0)
