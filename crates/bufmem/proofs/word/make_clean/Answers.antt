use Rattle.bufmem.proofs.WordLaws.{other-flags}
use Rattle.bufmodel.specs.Word.{make_clean, clean_flags}
use mathlib.Core.Path.{sym}
use Rattle.bufmem.proofs.word.make_clean.Goals as goal

pub returns : goal.returns
unfolding make_clean
returns c = sym (other-flags c.args.w clean_flags)
