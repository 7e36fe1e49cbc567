use Rattle.buftrace.proofs.ReadLaws.{fed-none, fed_then, fed-broken}
use Rattle.bufcost.proofs.read_all.Goals as goal

pub loop-init : goal.loop-init
loop-init c = record { ready = c.requires; fed = fed-none _ }

pub loop-preserved : goal.loop-preserved
loop-preserved c =
    let p = c.read_piece-piece.ensures in
    record { ready = p.ready; fed = fed_then c.loop.invariant.fed p.fed }

pub returns-then-not-piece-clause-fed : goal.returns-then-not-piece-clause-fed
returns-then-not-piece-clause-fed c = fed_then c.loop.invariant.fed c.read_piece-piece.ensures.fed

pub returns : goal.returns
returns c =
    let b = c.break_off.ensures.becomes.each _ _ _ c.loop.invariant.ready in
    record { ready = b.1; fed = fed_then c.loop.invariant.fed (fed-broken b.0) }
