use borrow.Author.Tests.{eq-eqb, ne_eqb}
use Rattle.bufmodel.specs.Calls.{less_word}
use Rattle.bufcalls.proofs.buffer.less_word.Goals as goal

pub returns-then-count-eq1 : goal.returns-then-count-eq1
unfolding less_word
returns-then-count-eq1 c = rw (eq-eqb _ 1 c.if-count-eq1.true) c.pin_less.ensures

pub returns-else-count-eq1 : goal.returns-else-count-eq1
unfolding less_word
returns-else-count-eq1 c = rw (ne_eqb _ 1 c.if-count-eq1.false)
