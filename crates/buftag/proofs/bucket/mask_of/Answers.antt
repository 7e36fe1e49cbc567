use Rattle.std.proofs.Common.{sym, ◌∙◌}
use Rattle.buftag.proofs.BucketLaws.{power-masks}
use Rattle.buftag.proofs.bucket.mask_of.Goals as goal

pub returns-then-is_power_of_two : goal.returns-then-is_power_of_two
returns-then-is_power_of_two c = (power-masks _ (sym c.is_power_of_two.ensures ∙ c.if-is_power_of_two.true)).1
