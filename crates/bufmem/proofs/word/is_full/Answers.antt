use Rattle.bufmem.proofs.WordLaws.{full-tests}
use Rattle.bufmem.proofs.word.is_full.Goals as goal

pub returns : goal.returns
returns c = rw (c.flags_of-flags.ensures, c.usage_of.ensures) (full-tests c.args.cap c.args.w c.ranges.w.fits)
