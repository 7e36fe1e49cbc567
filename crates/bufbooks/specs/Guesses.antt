-- The table of guesses: a file's slot in it, and the table when rows have been entered.
use Rattle.std.specs.Prelude.{ℕ, zero, suc, ◌+◌, ◌*◌, ◌/◌, ◌%◌, ◌^◌, List, set}
use Rattle.buftag.specs.declared.name.FileName.{FileName}
use Rattle.bufmodel.specs.Rows.{file_at}

abbrev pub slot_of : FileName → ℕ
slot_of f = (f.relation * 4 + f.fork) % 2 ^ 32 * 2654435761 % 2 ^ 32 / 2 ^ 24

-- the table with each of the first rows, rising, in its file's slot
unfoldable pub guesses_of : List ℕ → ℕ → List ℕ → List ℕ
guesses_of rows zero table = table
guesses_of rows (suc n) table = set (guesses_of rows n table) (slot_of (file_at rows n)) n
