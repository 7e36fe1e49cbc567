use mathlib.Core.Path.{◌∙◌, ap}
use lib.ListN.{set}
use Rattle.bufmoves.proofs.ExchangeLaws.{loaded-in}
use Rattle.bufmoves.proofs.exchange.load_page.Goals as goal

pub returns : goal.returns
returns c =
    let a = c.args in
    let i = a.buffer.0 in
    loaded-in a.control a.states.now a.names.now a.pool.now a.free.now a.heads.now a.chain.now
    a.store.now i a.name a.g
    c.pop_free-after.ensures.value
    (c.put_state.ensures ∙ ap (set a.states.now i) c.loaded_word.ensures)
    c.put_name.ensures
    c.page_from_store.ensures
    c.pop_free-after.ensures.free_after
    c.insert.ensures.heads_after
    c.insert.ensures.chain_after
