use Rattle.bufhash.specs.Fnv.{fnv_step}
use Rattle.bufhash.proofs.fnv.mix_byte.Goals as goal

pub returns : goal.returns
unfolding fnv_step
returns c = c.wrapping_mul.ensures
