use native.Mathlib.Omega.{arith}
use Rattle.bufbooks.proofs.CountsLaws.{holder_next}
use Rattle.bufbooks.proofs.counts.holders_of.Goals as goal

pub loop-count-preserved : goal.loop-count-preserved
loop-count-preserved c =
    omega (
      arith,
      c.from-n.ensures,
      holder_next c.args.counts.now c.args.buffer.0 _ c.loop-count.count-index c.loop-count-test.true,
    )
