-- What write-back asks of the sizes.
use Rattle.std.specs.Prelude.{◌≡◌, true, ℕ, ◌+◌, ◌*◌, ◌≤◌, length}
use Rattle.buftag.specs.Names.{name_words}
use Rattle.bufmodel.specs.Rows.{store_blocks}
use Rattle.bufmodel.specs.Memory.{Memory, size}
use Rattle.bufmodel.specs.Sizes.{sound_rows}

-- buffer i has a name and a page, and the store is that of the rows
pub record Backed (m : Memory) (i : ℕ) : Type 0 where
  pub page : 128 ≤ size m
  pub name : name_words * i + name_words ≤ length m.names
  pub pool : i * size m + size m ≤ length m.pool
  pub rows : sound_rows m.rows ≡ true
  pub store : length m.store ≡ store_blocks m.rows * size m
