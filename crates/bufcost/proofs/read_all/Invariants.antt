use Rattle.buftrace.specs.Scan.{Ready, Fed, scan_of}
use Rattle.bufcost.proofs.read_all.Given as goal

abbrev pub invariant-loop : goal.invariant-loop
invariant-loop l = record {
  ready : Ready l.t l.states l.held l.place;
  fed : Fed (scan_of l.initial.t l.initial.states l.initial.held) (scan_of l.t l.states l.held);
}
