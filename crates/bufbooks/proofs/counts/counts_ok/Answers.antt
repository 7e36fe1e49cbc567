use borrow.Author.Rules.{rules}
use borrow.Author.Tests.{ne_eqb}
use native.Mathlib.Omega.{arith}
use Rattle.laws.proofs.Every.{all-fails}
use Rattle.bufbooks.proofs.counts.counts_ok.Goals as goal

pub returns-then-pins_of-from : goal.returns-then-pins_of-from
returns-then-pins_of-from c = all-fails _ _ c.loop-i.i (search rules) (ne_eqb _ _ (λ e. omega arith))
