-- Sizes and rows, refusal 1: the test, and the same as a statement.
use Rattle.std.specs.Prelude.{ℕ, ◌*◌, ◌%◌, ◌≤◌, ◌<◌, ◌≡◌, Bool, not, ◌&&◌, List, [], ◌∷◌, length, eqb, leb, ltb}
use Rattle.laws.specs.Every.{all}
use Rattle.laws.specs.Times.{times}
use Rattle.buftag.specs.Name.{same_file, is_fork}
use Rattle.buftag.specs.Names.{name_words}
use Rattle.bufmodel.specs.Rows.{row_words, files, file_at, blocks_at, capacity_at, store_blocks}
use Rattle.bufmodel.specs.Memory.{Memory, buffers, size}
use Rattle.bufmodel.specs.Counts.{max_holders}

-- the permitted block sizes
abbrev pub block_sizes : List ℕ
block_sizes = 1024 ∷ 2048 ∷ 4096 ∷ 8192 ∷ 16384 ∷ 32768 ∷ []

unfoldable pub permitted : ℕ → Bool
permitted p = ltb 0 (times p block_sizes)

abbrev pub max_buffers : ℕ
max_buffers = 1024

abbrev pub max_buckets : ℕ
max_buckets = 4096

abbrev pub max_files : ℕ
max_files = 64

abbrev pub max_blocks : ℕ
max_blocks = 65536

-- ---- rows
-- no row before it has equal first four numbers
unfoldable pub new_file : List ℕ → ℕ → Bool
new_file rows r = all r (λ s. not (same_file (file_at rows s) (file_at rows r)))

-- fork ≤ 2; blocks ≤ capacity; a file of its own
unfoldable pub sound_row : List ℕ → ℕ → Bool
sound_row rows r = is_fork (file_at rows r).fork && leb (blocks_at rows r) (capacity_at rows r) && new_file rows r

unfoldable pub sound_rows : List ℕ → Bool
sound_rows rows =
    eqb (length rows % row_words) 0 && leb (files rows) max_files && leb (store_blocks rows) max_blocks && all (files rows) (sound_row rows)

pub record RowsSound (rows : List ℕ) : Type 0 where
  -- F rows of six words, F from 0 to 64
  pub whole : length rows % row_words ≡ 0
  pub few : files rows ≤ max_files
  -- capacities sum to at most 65,536
  pub room : store_blocks rows ≤ max_blocks
  pub fork : (r : ℕ) → r < files rows → (file_at rows r).fork ≤ 2
  pub fill : (r : ℕ) → r < files rows → blocks_at rows r ≤ capacity_at rows r
  pub differ : (r s : ℕ) → r < files rows → s < r → file_at rows s ≡ file_at rows r → ⊥

-- ---- sizes, for blocks of p bytes
unfoldable pub sized_for : ℕ → Memory → Bool
sized_for p m =
    permitted p && leb 1 (buffers m) && leb (buffers m) max_buffers && leb (buffers m) (length m.heads)
    && leb (length m.heads) max_buckets
    && eqb (length m.names) (name_words * buffers m)
    && eqb (length m.pool) (buffers m * p)
    && eqb (length m.free) (buffers m)
    && eqb (length m.chain) (buffers m)
    && sound_rows m.rows
    && eqb (length m.store) (store_blocks m.rows * p)
    && eqb (length m.counts) (buffers m * max_holders)

-- in every call but set up, P is the control record's
unfoldable pub sized : Memory → Bool
sized m = sized_for (size m) m

pub record SizedFor (p : ℕ) (m : Memory) : Type 0 where
  pub permitted : 0 < times p block_sizes
  -- N from 1 to 1,024, B from N to 4,096
  pub least : 1 ≤ buffers m
  pub most : buffers m ≤ max_buffers
  pub wide : buffers m ≤ length m.heads
  pub heads : length m.heads ≤ max_buckets
  -- N names of five words, N × P pool bytes, N free links, N chain links
  pub names : length m.names ≡ name_words * buffers m
  pub pool : length m.pool ≡ buffers m * p
  pub free : length m.free ≡ buffers m
  pub chain : length m.chain ≡ buffers m
  pub rows : RowsSound m.rows
  -- P × (sum of capacities) bytes
  pub store : length m.store ≡ store_blocks m.rows * p
  -- N × 64 private counts
  pub counts : length m.counts ≡ buffers m * max_holders
