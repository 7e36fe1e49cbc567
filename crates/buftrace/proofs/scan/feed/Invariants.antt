use mathlib.Core.Path.{◌≡◌}
use lib.ListN.{drop}
use Rattle.buftrace.specs.Scan.{Ready, scan_of, feds}
use Rattle.buftrace.proofs.scan.feed.Given as goal

abbrev pub invariant-loop-b : goal.invariant-loop-b
invariant-loop-b l = record {
  fed : feds (scan_of l.t l.states l.held) (drop l.b-index l.bytes) ≡ feds (scan_of l.initial.t l.initial.states l.initial.held) l.bytes;
  ready : Ready l.t l.states l.held l.place;
}
