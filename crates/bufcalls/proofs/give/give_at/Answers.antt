use mathlib.Core.Path.{ap, ◌∙◌}
use Rattle.bufmodel.specs.Calls.{given_word}
use Rattle.bufcalls.proofs.GiveLaws.{gave}
use Rattle.bufcalls.proofs.give.give_at.Goals as goal

pub returns : goal.returns
returns c =
    let a = c.args in
    gave a.states.now a.counts.now a.holder.0 a.buffer.0 c.count_of-count.ensures
    (c.given_word-word.ensures ∙ ap (given_word c.count_of-count.result) c.state_of.ensures) c.put_state.ensures
    c.put_count.ensures
