use borrow.Author.Tests.{leb-true, leb-false}
use mathlib.Core.Path.{refl, sym, ◌∙◌}
use Rattle.std.proofs.lemmas.Result.{err_from_is_err_and}
use Rattle.bufmodel.specs.declared.refusal.Refusal.TheVariants.{Range}
use Rattle.bufmodel.proofs.RefusalLaws.{refusal-not0}
use Rattle.bufcalls.proofs.BufferLaws.{buffer_held, buffer-early, held-pool, read-refused, read-outside, read_done}
use Rattle.bufcalls.proofs.buffer.read_buffer.Goals as goal

pub returns-in_err-buffer_refusal : goal.returns-in_err-buffer_refusal
returns-in_err-buffer_refusal c =
    let p = err_from_is_err_and c.from_residual.result c.from_residual.ensures.1 in
    rw (p.1, p.2) (let t = read-refused _ _ _ _ _ _
    (buffer-early _ _ _ _ c.in_err-buffer_refusal.ensures (refusal-not0 _)) in
    record { value = t.0.0; number = t.0.1; words = t.0.2; out_after = t.1 })

pub returns-then-not-range_ok : goal.returns-then-not-range_ok
returns-then-not-range_ok c =
    let t = read-refused _ _ _ _ _ Range
    (read-outside _ _ _ _ _ (buffer_held _ _ _ c.in_ok-buffer_refusal.ensures refl)
    (leb-false _ _ (sym c.range_ok.ensures ∙ c.if-not-range_ok.true))) in
    record { value = t.0.0; number = t.0.1; words = t.0.2; out_after = t.1 }

pub read_page-requires : goal.read_page-requires
read_page-requires c = (
  held-pool _ _ _ (buffer_held _ _ _ c.in_ok-buffer_refusal.ensures refl),
  leb-true _ _ (sym c.range_ok.ensures ∙ c.if-not-range_ok.false),
)

pub returns : goal.returns
returns c =
    let t = read_done _ _ _ _ _ (buffer_held _ _ _ c.in_ok-buffer_refusal.ensures refl)
    (leb-true _ _ (sym c.range_ok.ensures ∙ c.if-not-range_ok.false)) c.read_page.ensures in
    record { value = t.0.0; number = t.0.1; words = t.0.2; out_after = t.1 }
