-- The log position of a page: its first 8 bytes, the high 32 bits as a word, then the low 32 bits as a word.
use Rattle.std.specs.Prelude.{ℕ, ◌+◌, ◌*◌, ◌/◌, ◌%◌, ◌^◌, List, ◌++◌, length, take, drop}
use Rattle.bufhash.specs.Bytes.{word_bytes, word_at}

unfoldable pub position : List ℕ → ℕ
position page = word_at page 0 * 2 ^ 32 + word_at page 4

unfoldable pub position_bytes : ℕ → List ℕ
position_bytes p = word_bytes (p / 2 ^ 32) ++ word_bytes (p % 2 ^ 32)

-- bytes with some of them replaced, from a place on
unfoldable pub paste : ℕ → List ℕ → List ℕ → List ℕ
paste from new bytes = take from bytes ++ (new ++ drop (length new) (drop from bytes))

-- a page with some bytes copied into it and its log position set
unfoldable pub written : ℕ → ℕ → List ℕ → List ℕ → List ℕ
written p from new page = paste 0 (position_bytes p) (paste from new page)
