-- The pass over the buffers: what is looked at in each one's page and name.
use Rattle.std.specs.Prelude.{◌≡◌, Bool, true, not, ◌&&◌, ◌||◌, cond, List, ℕ, ◌*◌, ◌≤◌, ◌<◌, leb, ℤ, length}
use Rattle.laws.specs.Block.{block}
use Rattle.buftag.specs.Name.{same_name}
use Rattle.buftag.specs.Names.{name_words, name_at, no_name}
use Rattle.buftag.specs.Check.{finds_itself}
use Rattle.bufmodel.specs.declared.control.Control.{Control}
use Rattle.bufmodel.specs.Word.{dirty}
use Rattle.bufmodel.specs.Position.{position}
use Rattle.bufmodel.specs.Rows.{place_of}
use Rattle.bufmodel.specs.Memory.{Memory, buffers, size, word_of}
use Rattle.bufmodel.specs.Sizes.{max_buffers, max_buckets, sound_rows}
use Rattle.bufmodel.specs.Books.{is_found, empty_at}

-- what the check of the books asks of the sizes: the store is not looked at
pub record Fitting (m : Memory) : Type 0 where
  pub page : 8 ≤ size m
  pub buckets : 0 < length m.heads
  pub few : buffers m ≤ max_buffers
  pub narrow : length m.heads ≤ max_buckets
  pub names : length m.names ≡ name_words * buffers m
  pub pool : length m.pool ≡ buffers m * size m
  pub free : length m.free ≡ buffers m
  pub chain : length m.chain ≡ buffers m
  pub rows : sound_rows m.rows ≡ true

-- a buffer in use with word w: if it is dirty, a log position of at most inserted
unfoldable pub low_test : Control → List ℕ → ℕ → ℕ → Bool
low_test c pool w i = not (dirty w) || leb (position (block c.size i pool)) c.inserted

-- its name names a block below its file's block count, and a look-up of it finds the buffer
unfoldable pub held_test : List ℕ → List ℤ → List ℤ → List ℕ → ℕ → Bool
held_test names heads chain rows i = is_found (place_of rows (name_at names i)) && finds_itself names heads chain i

-- an empty buffer has a name of zeros
unfoldable pub buffer_test : Memory → ℕ → Bool
buffer_test m i =
    cond (empty_at m i) (same_name (name_at m.names i) no_name)
    (low_test m.control m.pool (word_of m i) i && held_test m.names m.heads m.chain m.rows i)
