use Rattle.buftrace.proofs.ReadLaws.{fed-broken}
use Rattle.bufcost.proofs.read_piece.Goals as goal

pub returns-in_default : goal.returns-in_default
returns-in_default c =
    let b = c.break_off.ensures.becomes.each _ _ _ c.requires in
    record { ready = b.1; fed = fed-broken b.0 }
