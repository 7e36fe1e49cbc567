use Rattle.buftag.proofs.NameLaws.{bucket-lt}
use lib.ListN.{length}
use native.Mathlib.Omega.{arith}
use Rattle.buftag.proofs.chain.insert.Goals as goal

pub enter-requires : goal.enter-requires
enter-requires c = (
  omega (arith, c.bucket-b.ensures, bucket-lt c.args.name (length c.args.heads.now) c.requires.0),
  c.requires.1,
  c.requires.2,
)
