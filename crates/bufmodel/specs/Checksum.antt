-- The checksum of a page, as PostgreSQL's checksum_impl.h computes it, over as many bytes as the page has; in the store it stands in the
-- page's bytes 8 and 9.
use Rattle.std.specs.Prelude.{ℕ, zero, suc, ◌+◌, ◌*◌, ◌/◌, ◌%◌, ◌^◌, Bool, true, ◌&&◌, ◌||◌, cond, List, [], ◌∷◌, length, get_or, eqb}
use Rattle.std.specs.Int.Bits.{bit_xor}
use Rattle.bufhash.specs.Bytes.{word_at}
use Rattle.bufhash.specs.Fnv.{fnv_prime}
use Rattle.bufmodel.specs.Position.{paste}

-- ---- bytes 8 and 9
-- bytes that stand from byte k of a page on, with those of the page's bytes 8 and 9 as zeros
unfoldable pub bare_from : ℕ → List ℕ → List ℕ
bare_from k [] = []
bare_from k (b ∷ bs) = cond (eqb k 8 || eqb k 9) 0 b ∷ bare_from (suc k) bs

abbrev pub bare : List ℕ → List ℕ
bare page = bare_from 0 page

-- what stands there
unfoldable pub sum_in : List ℕ → ℕ
sum_in page = get_or page 8 0 + get_or page 9 0 * 256

abbrev pub sum_bytes : ℕ → List ℕ
sum_bytes s = s % 256 ∷ s / 256 ∷ []

-- ---- the 32 sums
-- the words that they start from
abbrev pub sum_starts : List ℕ
sum_starts =
    0x5B1F36E9 ∷ 0xB8525960 ∷ 0x02AB50AA ∷ 0x1DE66D2A
    ∷ 0x79FF467A ∷ 0x9BB9F8A3 ∷ 0x217E7CD2 ∷ 0x83E13D2C
    ∷ 0xF8D4474F ∷ 0xE39EB970 ∷ 0x42C6AE16 ∷ 0x993216FA
    ∷ 0x7B093B5D ∷ 0x98DAFF3C ∷ 0xF718902A ∷ 0x0B1C9CDB
    ∷ 0xE58F764B ∷ 0x187636BC ∷ 0x5D7B3BB1 ∷ 0xE73DE7DE
    ∷ 0x92BEC979 ∷ 0xCCA6C0B2 ∷ 0x304A0979 ∷ 0x85AA43D4
    ∷ 0x783125BB ∷ 0x6CA8EAA2 ∷ 0xE407EAC6 ∷ 0x4B5CFC3E
    ∷ 0x9FBF8C76 ∷ 0x15CA20BE ∷ 0xF2CA9FD3 ∷ 0x959BD756
    ∷ []

abbrev pub sums : ℕ
sums = 32

-- one round: a word on top of a sum
unfoldable pub mix_sum : ℕ → ℕ → ℕ
mix_sum v s = let t = bit_xor v s in bit_xor (t * fnv_prime % 2 ^ 32) (t / 2 ^ 17)

-- the words of a page, each of four bytes, the lowest first
unfoldable pub words_in : List ℕ → List ℕ
words_in (a ∷ b ∷ c ∷ d ∷ bytes) = word_at (a ∷ b ∷ c ∷ d ∷ []) 0 ∷ words_in bytes
words_in (a ∷ b ∷ c ∷ []) = []
words_in (a ∷ b ∷ []) = []
words_in (a ∷ []) = []
words_in [] = []

-- a row has a word for each sum: sum j over its words in the first i rows
unfoldable pub sum_to : List ℕ → ℕ → ℕ → ℕ
sum_to words j zero = get_or sum_starts j 0
sum_to words j (suc i) = mix_sum (get_or words (i * sums + j) 0) (sum_to words j i)

-- over all rows, and two rounds of zeros
unfoldable pub sum_of : List ℕ → ℕ → ℕ
sum_of words j = mix_sum 0 (mix_sum 0 (sum_to words j (length words / sums)))

-- the first n sums, exclusive-ored together
unfoldable pub fold_to : List ℕ → ℕ → ℕ
fold_to words zero = 0
fold_to words (suc j) = bit_xor (fold_to words j) (sum_of words j)

-- the checksum of block b: its own two bytes count as zeros
unfoldable pub checksum : ℕ → List ℕ → ℕ
checksum b page = let words = words_in (bare page) in bit_xor (fold_to words sums) b % 65535 + 1

-- ---- set at write-back, verified where a block comes from the store
unfoldable pub all_zero : List ℕ → Bool
all_zero [] = true
all_zero (b ∷ bs) = let later = all_zero bs in eqb b 0 && later

-- the page of block b as it goes to the store
unfoldable pub sealed : ℕ → List ℕ → List ℕ
sealed b page = let summed = paste 8 (sum_bytes (checksum b page)) page in cond (all_zero page) page summed

-- a block of the store that passes as block b
unfoldable pub passes : ℕ → List ℕ → Bool
passes b page = let equal = eqb (sum_in page) (checksum b page) in all_zero page || equal
