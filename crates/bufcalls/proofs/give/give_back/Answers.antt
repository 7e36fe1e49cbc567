use borrow.Author.Tests.{ltb-true, ltb-false}
use mathlib.Core.Path.{refl, sym, ◌∙◌}
use Rattle.std.proofs.lemmas.Result.{err_from_is_err_and}
use Rattle.bufmodel.proofs.GoodLaws.{passed-good}
use Rattle.bufcalls.proofs.GiveLaws.{good-counted, give-early, give-nobody, give-done}
use Rattle.bufcalls.proofs.give.give_back.Goals as goal

pub returns-in_err-refusal : goal.returns-in_err-refusal
returns-in_err-refusal c =
    let p = err_from_is_err_and c.from_residual.result c.from_residual.ensures.1 in
    rw (p.1, p.2) (let t = give-early _ _ _ c.in_err-refusal.ensures in
    record { value = t.0; number = t.1; words = t.2; store_after = t.3 })

pub returns-then-not-is_holder : goal.returns-then-not-is_holder
returns-then-not-is_holder c =
    let t = give-nobody _ _ (passed-good _ c.in_ok-refusal.ensures refl)
    (ltb-false _ _ (sym c.is_holder.ensures ∙ c.if-not-is_holder.true)) in
    record { value = t.0; number = t.1; words = t.2; store_after = t.3 }

pub give_all-requires : goal.give_all-requires
give_all-requires c =
    good-counted _ _ (passed-good _ c.in_ok-refusal.ensures refl) (ltb-true _ _ (sym c.is_holder.ensures ∙ c.if-not-is_holder.false))

pub returns : goal.returns
returns c =
    let t = give-done _ _ (passed-good _ c.in_ok-refusal.ensures refl)
    (ltb-true _ _ (sym c.is_holder.ensures ∙ c.if-not-is_holder.false)) c.give_all.ensures in
    record { value = t.0; number = t.1; words = t.2; store_after = t.3 }
