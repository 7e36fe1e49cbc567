use Rattle.bufmem.proofs.WordLaws.{other-flags}
use Rattle.bufmodel.specs.Word.{make_dirty, dirty_flags}
use mathlib.Core.Path.{sym}
use Rattle.bufmem.proofs.word.make_dirty.Goals as goal

pub returns : goal.returns
unfolding make_dirty
returns c = sym (other-flags c.args.w dirty_flags)
