-- What release and load ask of the memory.
use Rattle.std.specs.Prelude.{◌≡◌, true, ℕ, ◌+◌, ◌*◌, ◌≤◌, ◌<◌, length}
use Rattle.buftag.specs.Names.{name_words}
use Rattle.buftag.specs.Lookup.{used}
use Rattle.buftag.specs.Chain.{ChainsSound}
use Rattle.bufmodel.specs.Memory.{Memory, buffers, size}
use Rattle.bufmodel.specs.Sizes.{max_buffers}

-- buffer i is one of the buffers, and every slice has its part
pub record Within (m : Memory) (i : ℕ) : Type 0 where
  pub few : buffers m ≤ max_buffers
  pub one : i < buffers m
  pub names : length m.names ≡ name_words * buffers m
  pub free : length m.free ≡ buffers m
  pub chain : length m.chain ≡ buffers m
  pub buckets : 0 < length m.heads

-- buffer i is in use and in its chain
pub record Chained (m : Memory) (i : ℕ) : Type 0 where
  pub within : Within m i
  pub used : used m.states i ≡ true
  pub sound : ChainsSound m.states m.names m.heads m.chain

-- there is a page of the pool for buffer i, and a block of the store at place g
pub record Lodged (m : Memory) (i g : ℕ) : Type 0 where
  pub within : Within m i
  pub page : i * size m + size m ≤ length m.pool
  pub block : g * size m + size m ≤ length m.store
