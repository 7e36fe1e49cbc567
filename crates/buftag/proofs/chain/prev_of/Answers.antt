use Rattle.std.proofs.Common.{◌≡◌, ◌-◌, pos, sym, ◌∙◌, ap, length, arith}
use Rattle.buftag.specs.Link.{is_to, link_at}
use Rattle.buftag.proofs.LeaveSteps.{prev-none, prev-other, prev-past, prev-hit, prev-on}
use Rattle.buftag.proofs.SignedLaws.{link-back}
use Rattle.buftag.proofs.chain.prev_of.Goals as goal
use Rattle.buftag.proofs.chain.prev_of.Goals.{After-from-at}

-- what the link of the place says
next : (c : After-from-at) → c.from-at.result ≡ link_at c.args.chain.now c.in-To.p
next c =
    link-back c.args.chain.now c.in-To.p c.from-at.ensures (record { sfits = omega arith }) (c.in_ok-get.ensures.lookup.3.1 (pos 0))

pub returns-in_default-clause-value : goal.returns-in_default-clause-value
returns-in_default-clause-value c = sym (prev-other _ _ _ c.loop.at c.in_default.not-To) ∙ c.loop.invariant

pub returns-in_err-get-clause-value : goal.returns-in_err-get-clause-value
returns-in_err-get-clause-value c =
    c.from_residual.ensures ∙ sym (prev-past _ _ _ _ c.in_err-get.ensures.lookup.3) ∙ (rw c.in-To.is at c.loop.invariant)

pub returns-then-leads_to-clause-value : goal.returns-then-leads_to-clause-value
returns-then-leads_to-clause-value c =
    let e = next (goal.at.returns-then-leads_to-clause-value c).After-from-at in
    sym
    (prev-hit _ _ _ _ (omega arith) c.in_ok-get.ensures.lookup.3.0
    (sym (c.leads_to.ensures ∙ ap (is_to c.args.i) e) ∙ c.if-leads_to.true))
    ∙ (rw c.in-To.is at c.loop.invariant)

pub loop-preserved : goal.loop-preserved
loop-preserved c =
    let e = next (goal.at.loop-preserved c).After-from-at in
    rw e
    (sym
    (prev-on _ _ _ _ (omega arith) c.in_ok-get.ensures.lookup.3.0
    (sym (c.leads_to.ensures ∙ ap (is_to c.args.i) e) ∙ c.if-leads_to.false))
    ∙ (rw c.in-To.is at c.loop.invariant))

pub returns-clause-value : goal.returns-clause-value
returns-clause-value c =
    let none_left : length c.args.chain.now - c.loop.counter ≡ 0 = omega arith in
    sym (prev-none _ _ c.loop.at) ∙ (rw none_left at c.loop.invariant)
