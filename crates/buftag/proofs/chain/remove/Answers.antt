use Rattle.buftag.proofs.NameLaws.{bucket-lt}
use lib.ListN.{length}
use native.Mathlib.Omega.{arith}
use Rattle.buftag.proofs.chain.remove.Goals as goal

pub leave-requires : goal.leave-requires
leave-requires c = (
  omega (arith, c.bucket-b.ensures, bucket-lt c.args.name (length c.args.heads.now) c.requires.0),
  c.requires.1,
)
