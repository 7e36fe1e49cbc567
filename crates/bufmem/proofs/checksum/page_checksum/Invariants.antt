use Rattle.bufmodel.specs.Checksum.{bare}
use Rattle.bufmem.specs.Checksum.{Summed}
use Rattle.bufmem.proofs.checksum.page_checksum.Given as goal

abbrev pub invariant-loop-row : goal.invariant-loop-row
invariant-loop-row l = Summed (bare l.page) l.row l.sums
