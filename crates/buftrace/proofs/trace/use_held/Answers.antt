use borrow.Author.Rules.{rules}
use mathlib.Core.Path.{ap, ◌∙◌}
use Rattle.bufmodel.specs.Word.{pinned}
use Rattle.buftrace.proofs.IdleLaws.{more-pinned}
use Rattle.buftrace.proofs.trace.use_held.Goals as goal

pub pin_less-requires : goal.pin_less-requires
pin_less-requires c = ap pinned c.pin_more.ensures ∙ more-pinned _ (search rules)
