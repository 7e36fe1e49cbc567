use Rattle.bufmem.proofs.PositionLaws.{position-words}
use native.Mathlib.Omega.{arith}
use Rattle.bufmem.proofs.position.position_at.Goals as goal

pub returns : goal.returns
returns c =
    omega (arith, position-words c.args.at c.args.bytes.now)
