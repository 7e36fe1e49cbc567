use lib.IntN.{pos}
use lib.ListN.{length}
use mathlib.Core.Path.{◌≡◌}
use Rattle.bufmodel.specs.Calls.{free_links}
use Rattle.laws.proofs.Fill.{Filled}
use Rattle.bufcalls.proofs.set_up.link_all.Given as goal

abbrev pub invariant-loop-i : goal.invariant-loop-i
invariant-loop-i l =
    (length l.links ≡ length l.initial.links) × Filled (pos 0) l.i l.links (free_links 0 (length l.initial.links))
