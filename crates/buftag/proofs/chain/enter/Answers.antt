use Rattle.buftag.proofs.SignedLaws.{element-back, index_back}
use Rattle.buftag.specs.Chain.{enter_heads, enter_chain}
use Rattle.std.proofs.Common.{ap, set, arith}
use Rattle.buftag.proofs.chain.enter.Goals as goal

pub returns : goal.returns
unfolding enter_heads enter_chain
returns c =
    let a = c.args in record {
      heads_after = ap (set a.heads.now a.b) (index_back a.i c.requires.2);
      chain_after = ap (set a.chain.now a.i) (element-back a.heads.now a.b (omega arith));
    }
