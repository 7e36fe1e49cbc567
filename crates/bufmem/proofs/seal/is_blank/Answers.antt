use mathlib.Core.Path.{sym, ◌∙◌}
use Rattle.bufmodel.proofs.ChecksumLaws.{zero-not}
use Rattle.bufmem.proofs.seal.is_blank.Goals as goal

pub returns-else-is_clear : goal.returns-else-is_clear
returns-else-is_clear c = c.if-is_clear.false ∙ sym (zero-not 128 _ (sym c.is_clear.ensures ∙ c.if-is_clear.false))
