use Rattle.bufmodel.specs.Sizes.{sound_row}
use Rattle.laws.specs.Every.{all}
use Rattle.bufbooks.proofs.RowsLaws.{Marked}
use lib.ListN.{length}
use mathlib.Core.Bool.{true}
use mathlib.Core.Path.{◌≡◌}
use Rattle.bufbooks.proofs.sound_rows.each_ok.Given as goal

abbrev pub invariant-loop-row : goal.invariant-loop-row
invariant-loop-row l = (length l.marks ≡ 256) × Marked l.rows l.marks l.row × (all l.row (sound_row l.rows) ≡ true)
