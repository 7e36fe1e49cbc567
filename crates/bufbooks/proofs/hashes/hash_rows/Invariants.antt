use lib.ListN.{length, get_or}
use Rattle.bufmodel.specs.Rows.{file_at}
use Rattle.bufhash.specs.Bytes.{word_bytes}
use Rattle.bufhash.specs.Fnv.{fnv, fnv_start}
use Rattle.buftag.specs.Name.{file_bytes}
use mathlib.Core.List.{◌++◌}
use mathlib.Core.Path.{◌≡◌}
use Prim.Native.Nat.{ℕ, ◌<◌}
use Rattle.bufbooks.proofs.hashes.hash_rows.Given as goal

-- the hash of a database's eight bytes
abbrev pub begun : ℕ → ℕ → ℕ
begun tablespace database = fnv (word_bytes tablespace ++ word_bytes database) fnv_start

abbrev pub invariant-loop-row : goal.invariant-loop-row
invariant-loop-row l = (length l.all ≡ 64) × (l.start ≡ begun l.tablespace l.database)
    × ((r : ℕ) → r < l.row → get_or l.all r 0 ≡ fnv (file_bytes (file_at l.rows r)) fnv_start)
