use borrow.Author.Tests.{lt-ltb, le-ltb}
use mathlib.Core.List.{[]}
use mathlib.Core.Path.{◌∙◌, refl, ap}
use Rattle.std.proofs.lemmas.Result.{err_from_is_err_and}
use Rattle.bufmodel.specs.declared.refusal.Refusal.TheVariants.{FlushedBeyond}
use Rattle.bufmodel.specs.Memory.{with_control}
use Rattle.bufmodel.specs.View.{memory_of}
use Rattle.bufmodel.specs.Calls.{log_flushed}
use Rattle.bufmodel.proofs.OutcomeLaws.{refusal-at, refusal-past, refusal-none}
use Rattle.bufmodel.proofs.GoodLaws.{passed-good}
use Rattle.bufmodel.proofs.AnswerLaws.{refused-first, refused-own, end-done, accepted-refused, accepted-done}
use Rattle.bufcalls.proofs.log.log_flushed.Goals as goal

pub returns-in_err-refusal : goal.returns-in_err-refusal
unfolding log_flushed
returns-in_err-refusal c =
    let p = err_from_is_err_and c.from_residual.result c.from_residual.ensures.1 in
    rw (p.1, p.2)
    (let t = accepted-refused _ (refused-first _ _ _ _ _ c.in_err-refusal.ensures) in
    record { value = t.0; number = t.1; words = t.2; after = t.3 })

pub returns-then-position-lent : goal.returns-then-position-lent
unfolding log_flushed
returns-then-position-lent c =
    let t = accepted-refused FlushedBeyond
    (refused-own _ _ _ _ FlushedBeyond (passed-good _ c.in_ok-refusal.ensures refl) (refusal-at 16 [] (lt-ltb _ _ c.if-position-lent.true))) in
    record { value = t.0; number = t.1; words = t.2; after = t.3 }

pub returns : goal.returns
unfolding log_flushed
returns c =
    let t = accepted-done
    (end-done _ _ _ _ (passed-good _ c.in_ok-refusal.ensures refl) (refusal-past 16 [] (le-ltb _ _ c.if-position-lent.false) ∙ refusal-none)) in
    record { value = t.0; number = t.1; words = t.2; after = ap (λ x. with_control x (memory_of c.args.lent.now)) c.flushed_to.ensures ∙ t.3 }
