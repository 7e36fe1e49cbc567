use lib.ListN.{length}
use mathlib.Core.Path.{◌≡◌}
use Rattle.bufbooks.specs.Guesses.{guesses_of}
use Rattle.bufbooks.proofs.guesses.guess_rows.Given as goal

abbrev pub invariant-loop-row : goal.invariant-loop-row
invariant-loop-row l = (length l.all ≡ 256) × (l.all ≡ guesses_of l.rows l.row l.initial.all)
