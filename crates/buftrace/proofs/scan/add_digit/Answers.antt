use mathlib.Core.Path.{refl}
use Rattle.buftrace.proofs.FeedLaws.{digit-least}
use Rattle.buftrace.proofs.ReaderLaws.{digit-becomes, digit-spoils}
use Rattle.buftrace.proofs.scan.add_digit.Goals as goal

pub overflow_sub-b : goal.overflow_sub-b
overflow_sub-b c = digit-least _ c.requires.2

pub returns-then-v-gt-MAX_BLOCKS : goal.returns-then-v-gt-MAX_BLOCKS
returns-then-v-gt-MAX_BLOCKS c =
    digit-spoils _ _ _ refl (rw (c.from.ensures) at c.if-v-gt-MAX_BLOCKS.true) c.spoil.ensures.becomes

pub returns : goal.returns
returns c = rw (c.from.ensures) (digit-becomes _ _ _ refl c.requires.0 (rw (c.from.ensures) at c.if-v-gt-MAX_BLOCKS.false))
