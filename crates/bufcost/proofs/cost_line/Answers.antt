use Rattle.buftrace.proofs.ReadLaws.{ready-as, new-ready, fed-from}
use Rattle.buftrace.proofs.ReportLaws.{wrote}
use Rattle.bufcost.proofs.cost_line.Goals as goal

pub read_all-t-requires : goal.read_all-t-requires
read_all-t-requires c = ready-as c.new_reader.ensures new-ready

pub returns : goal.returns
returns c =
    let u = c.sum_up in record {
      prefix_len = u.ensures.prefix_len;
      wrote = wrote (fed-from _ _ _ c.new_reader.ensures c.read_all-t.ensures.fed) u.ensures.out_after;
    }
