-- The checksum as the public checksum_impl.h goes: row by row, with all 32 sums at hand. `Checksum.checksum` goes sum by sum.
use Rattle.std.specs.Prelude.{ℕ, zero, suc, ◌+◌, ◌/◌, ◌%◌, List, [], ◌∷◌, length, get_or, drop}
use Rattle.std.specs.Int.Bits.{bit_xor}
use Rattle.bufmodel.specs.Checksum.{bare, words_in, sum_starts, mix_sum}

-- each sum with its word on top; where there are no words left, a round of zeros
unfoldable pub mix_row : List ℕ → List ℕ → List ℕ
mix_row [] words = []
mix_row (s ∷ all) words = mix_sum (get_or words 0 0) s ∷ mix_row all (drop 1 words)

-- n rows of 32 words
unfoldable pub mix_rows : ℕ → List ℕ → List ℕ → List ℕ
mix_rows zero all words = all
mix_rows (suc n) all words = mix_rows n (mix_row all words) (drop 32 words)

unfoldable pub xor_on : ℕ → List ℕ → ℕ
xor_on r [] = r
xor_on r (s ∷ all) = xor_on (bit_xor r s) all

-- the page's own two bytes count as zeros; all rows, two rounds of zeros, all sums exclusive-ored together, and the block's number
unfoldable pub header_sum : ℕ → List ℕ → ℕ
header_sum b page =
    let words = words_in (bare page) in
    let all = mix_rows (length words / 32) sum_starts words in
    bit_xor (xor_on 0 (mix_row (mix_row all []) [])) b % 65535 + 1
