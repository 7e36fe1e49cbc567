use borrow.Author.Tests.{ltb-true}
use mathlib.Core.Path.{sym, ◌∙◌, refl}
use Rattle.std.proofs.lemmas.Result.{err_from_is_err_and}
use Rattle.bufmodel.specs.Counts.{max_holders}
use Rattle.bufmodel.proofs.SizesLaws.{rows-say}
use Rattle.bufmodel.proofs.GoodLaws.{good-sized, good-sound, passed-good}
use Rattle.bufmodel.proofs.AnsweredLaws.{promised, pin-answers}
use Rattle.bufpin.proofs.PinLaws.{pin-early, pin-stranger, pin-nameless}
use Rattle.bufpin.proofs.SeenLaws.{good-seen, seen-checked, same-loans}
use Rattle.bufpin.proofs.pin.pin_page.Goals as goal

pub returns-in_err-refusal : goal.returns-in_err-refusal
returns-in_err-refusal c =
    let p = err_from_is_err_and c.from_residual.result c.from_residual.ensures.1 in
    let early = c.in_err-refusal.ensures ∙ seen-checked c.view.ensures in
    let t = promised (pin-answers _ _ _) (pin-early _ c.args.holder.0 c.args.name _ early) in
    rw (p.1, p.2) (record { value = t.0; number = t.1.0; words = t.1.1.0; store_after = t.1.1.1; same_loans = same-loans c.args.lent.now })

pub returns-then-not-is_holder : goal.returns-then-not-is_holder
returns-then-not-is_holder c =
    let good = good-seen c.view.ensures (passed-good _ c.in_ok-refusal.ensures refl) in
    let stranger = sym c.is_holder.ensures ∙ c.if-not-is_holder.true in
    let t = promised (pin-answers _ _ _) (pin-stranger _ c.args.holder.0 c.args.name good stranger) in
    record { value = t.0; number = t.1.0; words = t.1.1.0; store_after = t.1.1.1; same_loans = same-loans c.args.lent.now }

pub seek-requires : goal.seek-requires
seek-requires c =
    let good = good-seen c.view.ensures (passed-good _ c.in_ok-refusal.ensures refl) in
    (rows-say c.args.lent.now.rows.now).shown good.sizes.rows

pub pin_at-requires : goal.pin_at-requires
pin_at-requires c =
    let good = good-seen c.view.ensures (passed-good _ c.in_ok-refusal.ensures refl) in
    (good-sized _ good, good-sound _ good, sym c.in_ok-place.ensures)

pub invariant_of-pin_at : goal.invariant_of-pin_at
invariant_of-pin_at c = record { few = ltb-true c.args.holder.0 max_holders (sym c.is_holder.ensures ∙ c.if-not-is_holder.false) }

pub returns-in_err-place : goal.returns-in_err-place
returns-in_err-place c =
    let p = err_from_is_err_and c.from_residual-in_err-place.result c.from_residual-in_err-place.ensures.1 in
    let good = good-seen c.view.ensures (passed-good _ c.in_ok-refusal.ensures refl) in
    let few = ltb-true c.args.holder.0 max_holders (sym c.is_holder.ensures ∙ c.if-not-is_holder.false) in
    let t = promised (pin-answers _ _ _) (pin-nameless _ c.args.holder.0 c.args.name good few _ (sym c.in_err-place.ensures)) in
    rw (p.1, p.2) (record { value = t.0; number = t.1.0; words = t.1.1.0; store_after = t.1.1.1; same_loans = same-loans c.args.lent.now })

pub returns : goal.returns
returns c =
    let t = promised (pin-answers _ _ _) (c.pin_at.ensures.value, c.pin_at.ensures.store_after) in
    record { value = t.0; number = t.1.0; words = t.1.1.0; store_after = t.1.1.1; same_loans = c.pin_at.ensures.same_loans }
