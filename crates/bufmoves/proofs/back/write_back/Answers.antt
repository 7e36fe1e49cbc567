use mathlib.Core.Path.{sym, ◌∙◌}
use Rattle.bufmoves.proofs.BackLaws.{back-clean, back-dirty}
use Rattle.bufmoves.proofs.back.write_back.Goals as goal

pub returns-then-not-is_dirty : goal.returns-then-not-is_dirty
returns-then-not-is_dirty c =
    let a = c.args in
    back-clean a.control a.states.now a.names.now a.pool.now a.rows.now a.store.now a.buffer.0
    c.state_of-w.ensures
    (sym c.is_dirty.ensures ∙ c.if-not-is_dirty.true)

pub returns : goal.returns
returns c =
    let a = c.args in
    back-dirty a.control a.states.now a.names.now a.pool.now a.rows.now a.store.now a.buffer.0
    c.state_of-w.ensures
    (sym c.is_dirty.ensures ∙ c.if-not-is_dirty.false)
    c.page_position.ensures
    c.flushed_to-c.ensures
    c.put_page.ensures
    c.make_clean.ensures
    c.put_state.ensures
