use mathlib.Core.Path.{sym, ◌∙◌, ap}
use lib.ListN.{set}
use lib.Seq.{set-get_or}
use borrow.Author.Tests.{eq-eqb, ne_eqb}
use Rattle.bufmodel.specs.Word.{pin_more}
use Rattle.bufmodel.specs.Pin.{held_word}
use Rattle.bufpin.proofs.held.count_first.Goals as goal

pub returns-then-count-eq0 : goal.returns-then-count-eq0
unfolding held_word
returns-then-count-eq0 c =
    let raised = c.pin_more.ensures ∙ ap (pin_more c.args.cap) c.state_of-w.ensures in
    rw (eq-eqb c.args.count 0 c.if-count-eq0.true)
    (c.put_state.ensures ∙ ap (set c.args.states.now c.args.buffer.0) raised)

pub returns-else-count-eq0 : goal.returns-else-count-eq0
unfolding held_word
returns-else-count-eq0 c =
    rw (ne_eqb c.args.count 0 c.if-count-eq0.false) (sym (set-get_or c.args.states.now c.args.buffer.0 0))
