use Rattle.bufmodel.specs.Rows.{file_at}
use Rattle.buftag.specs.Name.{same_file}
use Rattle.laws.specs.Every.{all}
use mathlib.Core.Bool.{true, not}
use mathlib.Core.Path.{◌≡◌}
use Rattle.bufbooks.proofs.sound_rows.is_new.Given as goal

abbrev pub invariant-loop-i : goal.invariant-loop-i
invariant-loop-i l = all l.i (λ s. not (same_file (file_at l.rows s) (file_at l.rows l.row))) ≡ true
