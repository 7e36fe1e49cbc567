use mathlib.Core.Path.{ap, ◌∙◌}
use Rattle.bufmodel.specs.Word.{pinned}
use Rattle.buftrace.proofs.IdleLaws.{loaded-pinned}
use Rattle.buftrace.proofs.trace.put_block.Goals as goal

pub pin_less-requires : goal.pin_less-requires
pin_less-requires c = ap pinned c.loaded_word.ensures ∙ loaded-pinned
