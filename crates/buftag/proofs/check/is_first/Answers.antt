use Rattle.std.proofs.Common.{◌∙◌}
use borrow.Author.Tests.{eq-eqb}
use Rattle.buftag.proofs.FirstLaws.{first-own}
use Rattle.buftag.proofs.check.is_first.Goals as goal

pub returns-then-first-buffer : goal.returns-then-first-buffer
returns-then-first-buffer c =
    eq-eqb _ _ c.if-first-buffer.true
    ∙ first-own _ _ c.args.buffer.0 c.args.first c.ranges.first c.requires.1 c.requires.2 c.if-first-buffer.true
