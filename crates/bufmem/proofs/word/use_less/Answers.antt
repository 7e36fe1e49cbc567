use Rattle.bufmem.proofs.WordLaws.{use-less-is}
use Rattle.bufmodel.specs.Word.{usage}
use mathlib.Core.Path.{sym}
use native.Mathlib.Omega.{arith}
use Rattle.bufmem.proofs.word.use_less.Goals as goal

pub overflow_sub-result : goal.overflow_sub-result
unfolding usage
overflow_sub-result c = omega arith

pub returns : goal.returns
returns c = sym (use-less-is c.args.w c.requires)
