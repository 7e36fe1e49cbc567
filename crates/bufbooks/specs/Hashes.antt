-- The hashes of the rows' files: what the hash of each of their pages' names begins with.
use Rattle.std.specs.Prelude.{◌≡◌, List, ℕ, ◌<◌, get_or}
use Rattle.bufhash.specs.Fnv.{fnv, fnv_start}
use Rattle.buftag.specs.Name.{file_bytes}
use Rattle.bufmodel.specs.Rows.{files, file_at}

-- a list that has the hash of each row's file at the row's number
abbrev pub Hashed : List ℕ → List ℕ → Type 0
Hashed rows hashes = (r : ℕ) → r < files rows → get_or hashes r 0 ≡ fnv (file_bytes (file_at rows r)) fnv_start
