use native.Mathlib.Omega.{arith}
use mathlib.Core.List.{[]}
use lib.ListN.{length}
use Rattle.buftag.specs.Name.{bucket_of}
use Rattle.buftag.specs.Names.{set_name}
use Rattle.buftag.specs.Chain.{past_heads, leave_chain}
use mathlib.Core.Path.{◌∙◌, ap}
use Rattle.buftag.proofs.LeaveLaws.{leave-is}
use Rattle.bufmoves.proofs.ExchangeLaws.{released}
use Rattle.bufmoves.proofs.exchange.release_buffer.Goals as goal

pub returns : goal.returns
returns c =
    let a = c.args in
    let i = a.buffer.0 in
    let h = a.heads.now in
    let l = a.chain.now in
    let m = c.requires.within in
    let leaves =
    leave-is a.states.now a.names.now h l i (omega (arith, m.one, m.chain)) m.buckets c.requires.sound c.requires.used in
    released a.control a.states.now a.names.now [] a.free.now h l [] i
    c.push_free.ensures.value
    c.put_state.ensures
    (c.put_name.ensures ∙ ap (set_name a.names.now i) c.no_name.ensures)
    c.push_free.ensures.free_after
    (c.remove.ensures.heads_after ∙ ap (λ x. past_heads h l (bucket_of x (length h)) i) c.stored-name.ensures ∙ leaves.0)
    (c.remove.ensures.chain_after ∙ ap (λ x. leave_chain h l (bucket_of x (length h)) i) c.stored-name.ensures ∙ leaves.1)
