use mathlib.Core.Path.{refl, ap, ◌∙◌}
use Rattle.std.proofs.lemmas.Result.{err_from_is_err_and}
use Rattle.laws.specs.Sum.{ind}
use Rattle.bufmodel.specs.Word.{dirty}
use Rattle.bufmoves.proofs.WholeLaws.{good-backed}
use Rattle.bufcalls.proofs.BufferLaws.{buffer_held}
use Rattle.bufcalls.proofs.FlushLaws.{flush-refused, flush-done}
use Rattle.bufcalls.proofs.flush.flush_buffer.Goals as goal

pub returns-in_err-buffer_refusal : goal.returns-in_err-buffer_refusal
returns-in_err-buffer_refusal c =
    let p = err_from_is_err_and c.from_residual.result c.from_residual.ensures.1 in
    rw (p.1, p.2) (let t = flush-refused _ _ _ _ c.in_err-buffer_refusal.ensures in
    record { value = t.0; number = t.1; words = t.2; store_after = t.3 })

pub state_of-requires : goal.state_of-requires
state_of-requires c = (buffer_held _ _ _ c.in_ok-buffer_refusal.ensures refl).within

pub write_back-control-requires : goal.write_back-control-requires
write_back-control-requires c =
    let h = buffer_held _ _ _ c.in_ok-buffer_refusal.ensures refl in
    (good-backed _ h.good _ h.within, h.within)

pub returns : goal.returns
returns c =
    let t = flush-done _ _ _ (buffer_held _ _ _ c.in_ok-buffer_refusal.ensures refl)
    (c.one_if-answer.ensures ∙ ap ind (c.is_dirty.ensures ∙ ap dirty c.state_of.ensures)) c.write_back-control.ensures in
    record { value = t.0; number = t.1; words = t.2; store_after = t.3 }
