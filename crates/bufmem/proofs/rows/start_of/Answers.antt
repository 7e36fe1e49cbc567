use Rattle.bufmodel.specs.Rows.{start_of, capacity_at}
use Rattle.laws.proofs.Sum.{sum-none, sum-one-more}
use native.Mathlib.Omega.{arith}
use Rattle.bufmem.proofs.rows.start_of.Goals as goal

pub loop-i-init : goal.loop-i-init
unfolding start_of
loop-i-init c = omega (arith, sum-none (capacity_at c.args.rows.now))

pub loop-i-preserved : goal.loop-i-preserved
unfolding start_of
loop-i-preserved c =
    omega (arith, sum-one-more (capacity_at c.args.rows.now) c.loop-i.i, c.capacity_at.ensures)
