use Rattle.bufmem.proofs.WordLaws.{pin-more-below, pin-more-most, pin-more-room}
use mathlib.Core.Path.{sym}
use native.Mathlib.Omega.{arith}
use Rattle.bufmem.proofs.word.pin_more.Goals as goal

pub overflow_add-result-then-usage_of-cap : goal.overflow_add-result-then-usage_of-cap
overflow_add-result-then-usage_of-cap c =
    omega (arith, pin-more-room c.args.cap c.args.w c.ranges.w.fits c.requires.0 c.requires.1)

pub overflow_add-result-else-usage_of-cap : goal.overflow_add-result-else-usage_of-cap
overflow_add-result-else-usage_of-cap c =
    omega (arith, pin-more-room c.args.cap c.args.w c.ranges.w.fits c.requires.0 c.requires.1)

pub overflow_add-result : goal.overflow_add-result
overflow_add-result c =
    omega (arith, pin-more-room c.args.cap c.args.w c.ranges.w.fits c.requires.0 c.requires.1)

pub returns-then-usage_of-cap : goal.returns-then-usage_of-cap
returns-then-usage_of-cap c = let a = c.args in sym (pin-more-below a.cap a.w (rw c.usage_of.ensures at c.if-usage_of-cap.true))

pub returns-else-usage_of-cap : goal.returns-else-usage_of-cap
returns-else-usage_of-cap c = let a = c.args in sym (pin-more-most a.cap a.w (rw c.usage_of.ensures at c.if-usage_of-cap.false))
