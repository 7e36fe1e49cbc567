use Rattle.buftag.specs.Name.{bucket_of}
use Prim.Native.Nat.{◌%◌}
use mathlib.Core.Path.{ap}
use Rattle.buftag.proofs.name.bucket.Goals as goal

pub returns : goal.returns
unfolding bucket_of
returns c = ap (λ h. h % c.args.buckets) c.hash.ensures.value_2
