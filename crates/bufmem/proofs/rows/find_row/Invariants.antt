use Rattle.bufmodel.specs.Rows.{file_at}
use Rattle.buftag.specs.Name.{same_file}
use mathlib.Core.Bool.{false}
use mathlib.Core.Path.{◌≡◌}
use Prim.Native.Nat.{ℕ, ◌*◌, ◌<◌}
use Rattle.bufmem.proofs.rows.find_row.Given as goal

abbrev pub invariant-loop-pair : goal.invariant-loop-pair
invariant-loop-pair l = (k : ℕ) → k < 2 * l.pair → same_file (file_at l.rows k) l.file ≡ false
