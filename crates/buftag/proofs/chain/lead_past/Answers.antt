use Rattle.std.proofs.Common.{◌≡◌, false, sym, ◌∙◌, ap, length, arith}
use Rattle.buftag.specs.Chain.{prev}
use Rattle.buftag.specs.Link.{link_at, is_to}
use Rattle.buftag.proofs.LeaveSteps.{led-head, led-none, led-prev}
use Rattle.buftag.proofs.SignedLaws.{element-back}
use Rattle.buftag.proofs.chain.lead_past.Goals as goal
use Rattle.buftag.proofs.chain.lead_past.Goals.{After-prev_of}

pub returns-then-leads_to : goal.returns-then-leads_to
returns-then-leads_to c =
    let a = c.args in
    let t = led-head a.heads.now a.chain.now a.b a.i _ (element-back a.chain.now a.i (omega arith))
    (sym (c.leads_to.ensures ∙ ap (is_to a.i) c.link_at-first.ensures) ∙ c.if-leads_to.true) in
    record { heads_after = t.0; chain_after = t.1 }

-- what the search answered
found : (c : After-prev_of)
    → c.prev_of.result ≡ prev c.args.chain.now c.args.i (length c.args.chain.now) (link_at c.args.heads.now c.args.b)
found c = c.prev_of.ensures.value ∙ ap (prev c.args.chain.now c.args.i (length c.args.chain.now)) c.link_at-first.ensures

-- the head does not lead to the buffer
not-head : (c : After-prev_of) → is_to c.args.i (link_at c.args.heads.now c.args.b) ≡ false
not-head c = sym (c.leads_to.ensures ∙ ap (is_to c.args.i) c.link_at-first.ensures) ∙ c.if-leads_to.false

pub returns-in_default : goal.returns-in_default
returns-in_default c =
    let s = (goal.at.returns-in_default c).After-prev_of in
    let a = c.args in
    let t = led-none a.heads.now a.chain.now a.b a.i (sym (found s) ∙ c.in_default.is) (not-head s) in
    record { heads_after = t.0; chain_after = t.1 }

pub returns-in-Some : goal.returns-in-Some
returns-in-Some c =
    let s = (goal.at.returns-in-Some c).After-prev_of in
    let a = c.args in
    let t = led-prev a.heads.now a.chain.now a.b a.i _ c.in-Some.p (element-back a.chain.now a.i (omega arith))
    (sym (found s) ∙ c.in-Some.is) (not-head s) in
    record { heads_after = t.0; chain_after = t.1 }
