use mathlib.Core.Path.{◌≡◌}
use mathlib.Core.Bool.{true, not, ◌&&◌}
use lib.ListN.{get_or}
use Rattle.laws.specs.Every.{all}
use Rattle.bufmodel.specs.Word.{pinned}
use Rattle.bufcalls.specs.File.{held_of}
use Rattle.bufcalls.proofs.file.any_pinned.Given as goal

abbrev pub invariant-loop-i : goal.invariant-loop-i
invariant-loop-i l = all l.i (λ k. not (held_of l.states l.names l.file k && pinned (get_or l.states k 0))) ≡ true
