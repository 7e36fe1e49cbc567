use Rattle.std.proofs.Common.{◌≡◌, ◌-◌, sym, ◌∙◌, length, arith}
use Rattle.buftag.proofs.WalkLaws.{walk_none, walk-other, walk-past, walk-found, walk-next}
use Rattle.buftag.proofs.lookup.find_from.Goals as goal

pub returns-in_default : goal.returns-in_default
returns-in_default c = sym (walk-other _ _ _ _ c.loop.at c.in_default.not-To) ∙ c.loop.invariant

pub returns-then-i-chain : goal.returns-then-i-chain
returns-then-i-chain c = sym (walk-past _ _ _ _ _ c.if-i-chain.true) ∙ (rw c.in-To.is at c.loop.invariant)

pub returns-then-holds : goal.returns-then-holds
returns-then-holds c =
    sym (walk-found _ _ _ _ _ (omega arith) c.if-i-chain.false (sym c.holds.ensures ∙ c.if-holds.true))
    ∙ (rw c.in-To.is at c.loop.invariant)

pub loop-preserved : goal.loop-preserved
loop-preserved c =
    rw c.link_at-at.ensures
    (sym (walk-next _ _ _ _ _ (omega arith) c.if-i-chain.false (sym c.holds.ensures ∙ c.if-holds.false))
    ∙ (rw c.in-To.is at c.loop.invariant))

pub returns : goal.returns
returns c =
    let none_left : length c.args.chain.now - c.loop.counter ≡ 0 = omega arith in
    sym (walk_none _ _ _ c.loop.at) ∙ (rw none_left at c.loop.invariant)
