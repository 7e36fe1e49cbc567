use mathlib.Core.Path.{refl, ap, ◌∙◌}
use Rattle.std.proofs.lemmas.Result.{err_from_is_err_and}
use Rattle.bufmodel.specs.Memory.{memory, with_counts}
use Rattle.bufmodel.specs.Word.{make_dirty}
use Rattle.bufmodel.proofs.RefusalLaws.{refusal-not0}
use Rattle.bufcalls.proofs.BufferLaws.{buffer_held, held-page, held-pool, write-early, write-later, write-range, write-refused, write_done}
use Rattle.bufcalls.proofs.buffer.write_buffer.Goals as goal

pub returns-in_err-buffer_refusal : goal.returns-in_err-buffer_refusal
returns-in_err-buffer_refusal c =
    let p = err_from_is_err_and c.from_residual.result c.from_residual.ensures.1 in
    rw (p.1, p.2) (let t = write-refused _ _ _ _ _ _ _
    (write-early _ _ _ _ _ _ c.in_err-buffer_refusal.ensures (refusal-not0 _)) in
    record { value = t.0; number = t.1; words = t.2; store_after = t.3 })

pub write_refusal-requires : goal.write_refusal-requires
write_refusal-requires c =
    let h = buffer_held _ _ _ c.in_ok-buffer_refusal.ensures refl in
    (held-page _ _ _ h, held-pool _ _ _ h)

pub returns-in_err-write_refusal : goal.returns-in_err-write_refusal
returns-in_err-write_refusal c =
    let p = err_from_is_err_and c.from_residual-in_err-write_refusal.result c.from_residual-in_err-write_refusal.ensures.1 in
    rw (p.1, p.2) (let t = write-refused _ _ _ _ _ _ _
    (write-later _ _ _ _ _ _ (buffer_held _ _ _ c.in_ok-buffer_refusal.ensures refl) c.in_err-write_refusal.ensures) in
    record { value = t.0; number = t.1; words = t.2; store_after = t.3 })

pub write_page-requires : goal.write_page-requires
write_page-requires c =
    let h = buffer_held _ _ _ c.in_ok-buffer_refusal.ensures refl in
    let a = c.args in
    let m =
    with_counts a.counts.now
    (memory a.control a.states.now a.names.now a.pool.now a.free.now a.heads.now a.chain.now a.rows.now a.store.now) in
    (held-page _ _ _ h, held-pool _ _ _ h, write-range m a.holder.0 a.buffer.0 a.from a.bytes.now a.position c.in_ok-write_refusal.ensures refl)

pub state_of-requires : goal.state_of-requires
state_of-requires c = (buffer_held _ _ _ c.in_ok-buffer_refusal.ensures refl).within

pub put_state-requires : goal.put_state-requires
put_state-requires c = (buffer_held _ _ _ c.in_ok-buffer_refusal.ensures refl).within

pub returns : goal.returns
returns c =
    let t = write_done _ _ _ _ _ _
    (write-later _ _ _ _ _ _ (buffer_held _ _ _ c.in_ok-buffer_refusal.ensures refl) c.in_ok-write_refusal.ensures)
    c.write_page.ensures (c.make_dirty-word.ensures ∙ ap make_dirty c.state_of.ensures) c.put_state.ensures in
    record { value = t.0; number = t.1; words = t.2; store_after = t.3 }
