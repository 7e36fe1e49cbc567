use mathlib.Core.Bool.{true}
use mathlib.Core.Path.{◌≡◌}
use lib.Dec.{eqb}
use lib.ListN.{get_or}
use Rattle.laws.specs.Every.{all}
use Rattle.bufmodel.specs.Word.{pins}
use Rattle.bufmodel.specs.Counts.{holders_of}
use Rattle.bufbooks.proofs.counts.counts_ok.Given as goal

abbrev pub invariant-loop-i : goal.invariant-loop-i
invariant-loop-i l = all l.i (λ i. eqb (pins (get_or l.states i 0)) (holders_of l.counts i)) ≡ true
