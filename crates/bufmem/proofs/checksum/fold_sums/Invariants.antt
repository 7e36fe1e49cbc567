use mathlib.Core.Path.{◌≡◌}
use Rattle.bufmem.specs.Checksum.{fold_all}
use Rattle.bufmem.proofs.checksum.fold_sums.Given as goal

abbrev pub invariant-loop-s : goal.invariant-loop-s
invariant-loop-s l = l.r ≡ fold_all l.fn.sums l.s-index
