use Rattle.std.proofs.Common.{◌∙◌}
use Rattle.bufhash.proofs.FnvLaws.{fnv-short}
use Rattle.bufhash.proofs.fnv.mix_short.Goals as goal

pub returns : goal.returns
returns c = (rw c.mix_byte-h1.ensures at c.wrapping_mul.ensures) ∙ fnv-short _ _ c.requires
