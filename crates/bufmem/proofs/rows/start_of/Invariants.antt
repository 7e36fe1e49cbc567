use Rattle.bufmodel.specs.Rows.{start_of}
use mathlib.Core.Path.{◌≡◌}
use Prim.Native.Nat.{◌≤◌, ◌*◌}
use Rattle.bufmem.proofs.rows.start_of.Given as goal

abbrev pub invariant-loop-i : goal.invariant-loop-i
invariant-loop-i l = (l.start ≡ start_of l.rows l.i) × (l.start ≤ l.i * 4294967295)
