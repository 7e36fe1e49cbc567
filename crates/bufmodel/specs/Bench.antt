-- Document 01's bench, memories like it, and calls on them.
use Rattle.std.specs.Prelude.{ℕ, ◌*◌, ◌/◌, ◌%◌, List, [], ◌∷◌, ◌++◌, replicate, pos}
use Rattle.buftag.specs.declared.name.FileName.{FileName}
use Rattle.buftag.specs.Name.{file_of, name_of}
use Rattle.buftag.specs.Names.{name_words}
use Rattle.buftag.specs.Link.{none}
use Rattle.bufmodel.specs.Memory.{Memory, with_rows, with_store}
use Rattle.bufmodel.specs.Step.{Call, Pin, Peek}

-- ---- the bench: N = 3, B = 3, P = 1024, log 100, cap 5; one file with 4 blocks of zeros, capacity 5. What stands in the books before set
-- up does not matter
unfoldable pub bench : Memory
bench =
    record {
      control = record { size = 0; hand = 9; top = pos 9; inserted = 7; flushed = 8; cap = 9 };
      states = replicate 3 7;
      names = replicate (name_words * 3) 7;
      pool = replicate 3072 7;
      free = replicate 3 none;
      heads = replicate 3 none;
      chain = replicate 3 none;
      rows = 1663 ∷ 5 ∷ 16384 ∷ 0 ∷ 4 ∷ 5 ∷ [];
      store = replicate 5120 0;
      counts = replicate 192 7;
    }

abbrev pub file : FileName
file = file_of 1663 5 16384 0

-- block b pinned by holder h, and by holder 0
abbrev pub block_by : ℕ → ℕ → Call
block_by h b = Pin h (name_of 1663 5 16384 0 b)

abbrev pub block : ℕ → Call
block = block_by 0

-- The same with two files, a table and its free space map, of capacities 2 and 3. Blocks 0 and 1 of the store are the table's, which has
-- one block yet; 2, 3 and 4 are the map's, which has two. Two bytes behind a page's checksum, here the first argument, tell the block.
-- Those at or above the count have checksums of nothing
abbrev pub page : ℕ → ℕ → List ℕ
page s k = replicate 8 0 ++ (s % 256 ∷ s / 256 ∷ k ∷ k ∷ replicate 1012 0)

unfoldable pub two_files : Memory
two_files =
    with_rows (1663 ∷ 5 ∷ 16384 ∷ 0 ∷ 1 ∷ 2 ∷ 1663 ∷ 5 ∷ 16384 ∷ 1 ∷ 2 ∷ 3 ∷ [])
    (with_store (page 0 0 ++ (page 11 11 ++ (page 30775 12 ++ (page 51162 13 ++ page 14 14)))) bench)

-- The bench with one byte turned in blocks 3 and 4, the latter above the count; neither has a checksum
unfoldable pub damaged : Memory
damaged = with_store (replicate 3084 0 ++ (1 ∷ (replicate 1023 0 ++ (1 ∷ replicate 1011 0)))) bench

abbrev pub map_file : FileName
map_file = file_of 1663 5 16384 1

abbrev pub map_block : ℕ → Call
map_block b = Pin 0 (name_of 1663 5 16384 1 b)

abbrev pub map_peek : ℕ → Call
map_peek b = Peek (name_of 1663 5 16384 1 b)

abbrev pub peek : ℕ → Call
peek b = Peek (name_of 1663 5 16384 0 b)
