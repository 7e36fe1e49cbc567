use native.Mathlib.Omega.{arith}
use mathlib.Core.Logic.{◌≢◌}
use mathlib.Core.Path.{refl, sym, ap, ◌∙◌}
use Rattle.std.proofs.lemmas.Result.{err_from_is_err_and}
use Rattle.bufmodel.specs.Word.{pinned}
use Rattle.bufmodel.specs.Calls.{less_word}
use Rattle.bufcalls.proofs.BufferLaws.{buffer_held, held_in_is, held-count, held-pinned, unpin-refused, unpin-done}
use Rattle.bufcalls.proofs.buffer.unpin_buffer.Goals as goal

pub returns-in_err-buffer_refusal : goal.returns-in_err-buffer_refusal
returns-in_err-buffer_refusal c =
    let p = err_from_is_err_and c.from_residual.result c.from_residual.ensures.1 in
    rw (p.1, p.2) (let t = unpin-refused _ _ _ _ c.in_err-buffer_refusal.ensures in
    record { value = t.0; number = t.1; words = t.2; store_after = t.3 })

pub count_of-count-requires : goal.count_of-count-requires
count_of-count-requires c = held_in_is _ _ _ (buffer_held _ _ _ c.in_ok-buffer_refusal.ensures refl)

pub state_of-requires : goal.state_of-requires
state_of-requires c = (buffer_held _ _ _ c.in_ok-buffer_refusal.ensures refl).within

pub less_word-word-requires : goal.less_word-word-requires
less_word-word-requires c = ap pinned c.state_of.ensures ∙ held-pinned _ _ _ (buffer_held _ _ _ c.in_ok-buffer_refusal.ensures refl)

pub put_state-requires : goal.put_state-requires
put_state-requires c = (buffer_held _ _ _ c.in_ok-buffer_refusal.ensures refl).within

-- the holder has a pin
pub overflow_sub-count : goal.overflow_sub-count
overflow_sub-count c =
    let h = held-count _ _ _ (buffer_held _ _ _ c.in_ok-buffer_refusal.ensures refl) in
    let some : c.count_of-count.result ≢ 0 = λ z. h (sym c.count_of-count.ensures ∙ z) in
    omega arith

pub put_count-requires : goal.put_count-requires
put_count-requires c = held_in_is _ _ _ (buffer_held _ _ _ c.in_ok-buffer_refusal.ensures refl)

pub returns : goal.returns
returns c =
    let t = unpin-done _ _ _ (buffer_held _ _ _ c.in_ok-buffer_refusal.ensures refl) c.count_of-count.ensures
    (c.less_word-word.ensures ∙ ap (less_word c.count_of-count.result) c.state_of.ensures) c.put_state.ensures c.put_count.ensures in
    record { value = t.0; number = t.1; words = t.2; store_after = t.3 }
