-- What the rounds over rows leave of the sums, sum by sum.
use Rattle.std.specs.Prelude.{ℕ, zero, suc, ◌+◌, ◌*◌, ◌<◌, ◌≡◌, List, get_or}
use Rattle.std.specs.Int.Bits.{bit_xor}
use Rattle.bufhash.specs.Bytes.{word_at}
use Rattle.bufmodel.specs.Checksum.{mix_sum, sum_to, sums, words_in}

-- a row of words, from a byte on, is on top of the sums
pub record Mixed (bytes : List ℕ) (at : ℕ) (before after : List ℕ) : Type 0 where
  pub each : (j : ℕ) → j < sums → get_or after j 0 ≡ mix_sum (word_at bytes (at + j * 4)) (get_or before j 0)

-- the sums are those of the first i rows
pub record Summed (page : List ℕ) (i : ℕ) (all : List ℕ) : Type 0 where
  pub each : (j : ℕ) → j < sums → get_or all j 0 ≡ sum_to (words_in page) j i

-- the first n sums of a list, after two rounds of zeros, exclusive-ored together
unfoldable pub fold_all : List ℕ → ℕ → ℕ
fold_all all zero = 0
fold_all all (suc j) = bit_xor (fold_all all j) (mix_sum 0 (mix_sum 0 (get_or all j 0)))
