use Rattle.std.proofs.Common.{◌≡◌, sym, ◌∙◌, pos, arith}
use Rattle.buftag.proofs.BudgetLaws.{spend-end, spend-stops, spend-none, spend-past, spend-goes}
use Rattle.buftag.proofs.SignedLaws.{link-back}
use Rattle.buftag.proofs.budget.list_walk.Goals as goal

pub returns-in-End : goal.returns-in-End
returns-in-End c = sym (spend-end _ _) ∙ (rw c.in-End.is at c.loop-left.invariant)

pub returns-in_default : goal.returns-in_default
returns-in_default c = sym (spend-stops _ _ c.loop-left.at c.in_default.not-End c.in_default.not-To) ∙ c.loop-left.invariant

pub returns-in_err-get-in-To : goal.returns-in_err-get-in-To
returns-in_err-get-in-To c =
    c.from_residual.ensures ∙ sym (spend-past _ _ _ c.in_err-get-in-To.ensures.lookup.3) ∙ (rw c.in-To.is at c.loop-left.invariant)

pub loop-left-preserved : goal.loop-left-preserved
loop-left-preserved c =
    let got = c.in_ok-get-in-To.ensures.lookup.3 in
    rw (link-back c.args.links.now c.in-To.i c.from-at.ensures (record { sfits = omega arith }) (got.1 (pos 0)))
    (sym (spend-goes _ _ _ (omega arith) got.0) ∙ (rw c.in-To.is at c.loop-left.invariant))

pub returns-in_ok-get-in-To : goal.returns-in_ok-get-in-To
returns-in_ok-get-in-To c =
    let none_left : c.loop-left.left ≡ 0 = omega arith in
    sym (spend-none _ c.in-To.i) ∙ (rw (c.in-To.is, none_left) at c.loop-left.invariant)
