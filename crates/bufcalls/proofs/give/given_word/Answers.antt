use borrow.Author.Tests.{eq-eqb, ne_eqb}
use Rattle.bufmodel.specs.Calls.{given_word}
use Rattle.bufcalls.proofs.give.given_word.Goals as goal

pub returns-then-count-eq0 : goal.returns-then-count-eq0
unfolding given_word
returns-then-count-eq0 c = rw (eq-eqb _ 0 c.if-count-eq0.true)

pub returns-else-count-eq0 : goal.returns-else-count-eq0
unfolding given_word
returns-else-count-eq0 c = rw (ne_eqb _ 0 c.if-count-eq0.false) c.pin_less.ensures
