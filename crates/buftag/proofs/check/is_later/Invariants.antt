use Rattle.buftag.proofs.FirstLaws.{Later}
use Rattle.std.proofs.Common.{◌-◌}
use Rattle.buftag.specs.Link.{link_of}
use Rattle.buftag.proofs.check.is_later.Given as goal

abbrev pub invariant-loop-left : goal.invariant-loop-left
invariant-loop-left l = Later l.chain l.names l.buffer.0 (link_of l.first) (l.left - 1) l.at
