use mathlib.Core.Path.{sym}
use native.Mathlib.Omega.{arith}
use Rattle.bufmodel.proofs.SweepLaws.{next-end, next-on}
use Rattle.bufmoves.proofs.sweep.next_of.Goals as goal

pub returns-then-at-n : goal.returns-then-at-n
returns-then-at-n c = let a = c.args in sym (next-end a.n a.at (omega (arith, c.if-at-n.true)))

pub returns : goal.returns
returns c = let a = c.args in omega (arith, next-on a.n a.at (λ e. c.if-at-n.false (omega (arith, e))))
