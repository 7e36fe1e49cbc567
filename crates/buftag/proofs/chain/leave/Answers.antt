use Rattle.buftag.specs.Chain.{leave_chain}
use Rattle.buftag.specs.Link.{none}
use lib.ListN.{set}
use mathlib.Core.Path.{ap}
use Rattle.buftag.proofs.chain.leave.Goals as goal

pub returns : goal.returns
unfolding leave_chain
returns c =
    let e = c.lead_past.ensures in record {
      heads_after = e.heads_after;
      chain_after = ap (λ l. set l c.args.i none) e.chain_after;
    }
