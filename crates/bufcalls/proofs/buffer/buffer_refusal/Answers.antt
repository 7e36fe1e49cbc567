use borrow.Author.Tests.{ltb-true, ltb-false}
use mathlib.Core.Path.{refl, sym, ◌∙◌}
use Rattle.std.proofs.lemmas.Result.{err_from_is_err_and}
use Rattle.bufmodel.proofs.RefusalLaws.{refusal-not0}
use Rattle.bufmodel.proofs.GoodLaws.{checked-early, passed-good}
use Rattle.bufcalls.proofs.BufferLaws.{count-in, buffer-nobody, buffer-outside, buffer-unpinned, buffer-pinned}
use Rattle.bufcalls.proofs.buffer.buffer_refusal.Goals as goal

pub returns-in_err-refusal : goal.returns-in_err-refusal
returns-in_err-refusal c =
    let p = err_from_is_err_and c.from_residual.result c.from_residual.ensures.1 in
    rw (p.1, p.2) (checked-early _ _ c.in_err-refusal.ensures (refusal-not0 _))

pub returns-then-not-is_holder : goal.returns-then-not-is_holder
returns-then-not-is_holder c =
    buffer-nobody _ _ _ (passed-good _ c.in_ok-refusal.ensures refl) (ltb-false _ _ (sym c.is_holder.ensures ∙ c.if-not-is_holder.true))

pub returns-then-not-is_buffer : goal.returns-then-not-is_buffer
returns-then-not-is_buffer c =
    buffer-outside _ _ _ (passed-good _ c.in_ok-refusal.ensures refl)
    (ltb-true _ _ (sym c.is_holder.ensures ∙ c.if-not-is_holder.false))
    (ltb-false _ _ (sym c.is_buffer.ensures ∙ c.if-not-is_buffer.true))

pub count_of-requires : goal.count_of-requires
count_of-requires c =
    count-in _ _ _ (passed-good _ c.in_ok-refusal.ensures refl)
    (ltb-true _ _ (sym c.is_holder.ensures ∙ c.if-not-is_holder.false))
    (ltb-true _ _ (sym c.is_buffer.ensures ∙ c.if-not-is_buffer.false))

pub returns-then-count_of-eq0 : goal.returns-then-count_of-eq0
returns-then-count_of-eq0 c =
    buffer-unpinned _ _ _ (passed-good _ c.in_ok-refusal.ensures refl)
    (ltb-true _ _ (sym c.is_holder.ensures ∙ c.if-not-is_holder.false))
    (ltb-true _ _ (sym c.is_buffer.ensures ∙ c.if-not-is_buffer.false))
    (sym c.count_of.ensures ∙ c.if-count_of-eq0.true)

pub returns : goal.returns
returns c =
    buffer-pinned _ _ _ (passed-good _ c.in_ok-refusal.ensures refl)
    (ltb-true _ _ (sym c.is_holder.ensures ∙ c.if-not-is_holder.false))
    (ltb-true _ _ (sym c.is_buffer.ensures ∙ c.if-not-is_buffer.false))
    (λ z. c.if-count_of-eq0.false (c.count_of.ensures ∙ z))
