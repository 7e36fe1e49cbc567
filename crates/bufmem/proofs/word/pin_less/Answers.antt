use Rattle.bufmem.proofs.WordLaws.{pin-less-is}
use Rattle.bufmodel.specs.Word.{pins}
use Rattle.bufmodel.proofs.WordLaws.{pinned-pins}
use mathlib.Core.Path.{sym}
use native.Mathlib.Omega.{arith}
use Rattle.bufmem.proofs.word.pin_less.Goals as goal

pub overflow_sub-result : goal.overflow_sub-result
unfolding pins
overflow_sub-result c = omega (arith, pinned-pins c.args.w c.requires)

pub returns : goal.returns
returns c = sym (pin-less-is c.args.w c.requires)
