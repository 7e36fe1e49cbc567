-- The file rows: six words each, tablespace, database, relation, fork, blocks, capacity.
use Rattle.std.specs.Prelude.{ℕ, ◌+◌, ◌*◌, ◌/◌, cond, List, length, get_or, set, ltb}
use Rattle.laws.specs.Sum.{sum}
use Rattle.laws.specs.First.{Found, found, missing, first}
use Rattle.buftag.specs.declared.name.FileName.{FileName}
use Rattle.buftag.specs.declared.name.PageName.{PageName}
use Rattle.buftag.specs.Name.{file_of, same_file}

-- the number of words of a row, and where its block count and capacity stand
abbrev pub row_words : ℕ
row_words = 6

abbrev pub blocks_word : ℕ
blocks_word = 4

abbrev pub capacity_word : ℕ
capacity_word = 5

unfoldable pub files : List ℕ → ℕ
files rows = length rows / row_words

unfoldable pub file_at : List ℕ → ℕ → FileName
file_at rows r =
    let at = r * row_words in
    file_of (get_or rows at 0) (get_or rows (at + 1) 0) (get_or rows (at + 2) 0) (get_or rows (at + 3) 0)

unfoldable pub blocks_at : List ℕ → ℕ → ℕ
blocks_at rows r = get_or rows (r * row_words + blocks_word) 0

unfoldable pub capacity_at : List ℕ → ℕ → ℕ
capacity_at rows r = get_or rows (r * row_words + capacity_word) 0

-- the rows with another block count in row r
unfoldable pub set_blocks : List ℕ → ℕ → ℕ → List ℕ
set_blocks rows r blocks = set rows (r * row_words + blocks_word) blocks

-- the row with these four numbers, or that there is none
unfoldable pub row_of : List ℕ → FileName → Found
row_of rows f = first (files rows) (λ r. same_file (file_at rows r) f)

-- ---- the store: files in row order, each with its full capacity. A page's place is the index of its block in the store
-- where the file of row r begins; of the row behind the last one, where the store ends
unfoldable pub start_of : List ℕ → ℕ → ℕ
start_of rows r = sum r (capacity_at rows)

unfoldable pub store_blocks : List ℕ → ℕ
store_blocks rows = start_of rows (files rows)

-- the place of block b of the file in row r, if the file has such a block
unfoldable pub place_in : List ℕ → ℕ → Found → Found
place_in rows b (found r) = cond (ltb b (blocks_at rows r)) (found (start_of rows r + b)) missing
place_in rows b missing = missing

-- the place of the page with this name, if there is such a page
unfoldable pub place_of : List ℕ → PageName → Found
place_of rows n = place_in rows n.block.0 (row_of rows n.file)
