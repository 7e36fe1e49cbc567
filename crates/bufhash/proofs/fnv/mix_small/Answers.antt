use Rattle.std.proofs.Common.{◌∙◌}
use Rattle.bufhash.proofs.FnvLaws.{fnv-small}
use Rattle.bufhash.proofs.fnv.mix_small.Goals as goal

pub returns : goal.returns
returns c = c.wrapping_mul.ensures ∙ fnv-small _ _ c.requires
