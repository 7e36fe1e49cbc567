-- The table of guesses, one row further.
use Prim.Native.Nat.{ℕ, ◌+◌}
use native.Mathlib.Numerals.{add-one}
use mathlib.Core.Path.{◌≡◌}
use mathlib.Core.List.{List}
use lib.ListN.{set}
use Rattle.bufmodel.specs.Rows.{file_at}
use Rattle.bufbooks.specs.Guesses.{slot_of, guesses_of}

pub guesses_more : (rows table : List ℕ) (n : ℕ)
    → guesses_of rows (n + 1) table ≡ set (guesses_of rows n table) (slot_of (file_at rows n)) n
unfolding guesses_of
guesses_more rows table n = rw add-one
