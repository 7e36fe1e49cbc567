-- What a checkpoint asks of the sizes.
use Rattle.std.specs.Prelude.{◌≡◌, true, ◌*◌, ◌≤◌, length}
use Rattle.buftag.specs.Names.{name_words}
use Rattle.bufmodel.specs.Rows.{store_blocks}
use Rattle.bufmodel.specs.Memory.{Memory, buffers, size}
use Rattle.bufmodel.specs.Sizes.{sound_rows}

-- every buffer has a name and a page, and the store is that of the rows
pub record Stored (m : Memory) : Type 0 where
  pub page : 128 ≤ size m
  pub names : length m.names ≡ name_words * buffers m
  pub pool : length m.pool ≡ buffers m * size m
  pub rows : sound_rows m.rows ≡ true
  pub store : length m.store ≡ store_blocks m.rows * size m
