use lib.ListN.{length}
use mathlib.Core.Path.{◌≡◌}
use Prim.Native.Nat.{◌*◌, ◌+◌, ◌<◌, ◌-◌}
use Rattle.bufmodel.specs.Sweep.{sweep, sweep_all}
use Rattle.bufmoves.proofs.sweep.sweep.Given as goal

abbrev pub invariant-loop-passed : goal.invariant-loop-passed
invariant-loop-passed l = record {
  within : l.at < l.n;
  run : l.run < l.n;
  words : length l.states ≡ length l.initial.states;
  left : sweep ((l.cap + 1) * l.n - l.passed) l.n l.run l.passed l.at l.states ≡ sweep_all l.cap l.initial.states l.hand;
}
