-- The checksum is the public header's, which goes row by row; so its values are computed for pages of each size.
use Prim.Native.Nat.{ℕ, zero, suc, ◌+◌, ◌*◌, ◌/◌, ◌%◌, ◌<◌}
use mathlib.Core.Path.{◌≡◌, refl, sym, ap, ap₂, ◌∙◌}
use mathlib.Core.List.{List, [], ◌∷◌}
use native.Mathlib.Omega.{arith}
use lib.ListN.{length, get_or, drop}
use lib.Seq.{get_or-drop}
use lib.Bits.{bit_xor}
use Rattle.bufmodel.specs.Checksum.{bare, words_in, sum_starts, sums, mix_sum, sum_to, sum_of, fold_to, checksum}
use Rattle.shelf.specs.HeaderSum.{mix_row, mix_rows, xor_on, header_sum}
use Rattle.shelf.specs.Vectors.{ramp}

-- ---- a row on top of all sums, sum by sum
length-row : (all words : List ℕ) → length (mix_row all words) ≡ length all
unfolding mix_row
length-row [] words = refl
length-row (s ∷ all) words = ap suc (length-row all (drop 1 words))

row_at : (all words : List ℕ) (j : ℕ) → j < length all → get_or (mix_row all words) j 0 ≡ mix_sum (get_or words j 0) (get_or all j 0)
unfolding mix_row
row_at [] words j h = absurd (omega arith)
row_at (s ∷ all) words zero h = refl
row_at (s ∷ all) words (suc j) h =
    let e : 1 + j ≡ suc j = omega arith in
    row_at all (drop 1 words) j (omega arith)
    ∙ ap (λ (w : ℕ). mix_sum w (get_or all j 0)) (get_or-drop 1 words j 0 ∙ ap (λ (k : ℕ). get_or words k 0) e)

-- ---- rows from a sum on, the last on top
unfoldable sum_from : ℕ → List ℕ → ℕ → ℕ → ℕ
sum_from s words j zero = s
sum_from s words j (suc i) = mix_sum (get_or words (i * 32 + j) 0) (sum_from s words j i)

sum-from : (words : List ℕ) (j i : ℕ) → sum_from (get_or sum_starts j 0) words j i ≡ sum_to words j i
unfolding sum_from sum_to
sum-from words j zero = refl
sum-from words j (suc i) = ap (mix_sum (get_or words (i * 32 + j) 0)) (sum-from words j i)

-- the first of them below the others
sum_first : (s : ℕ) (words : List ℕ) (j i : ℕ)
    → sum_from (mix_sum (get_or words j 0) s) (drop 32 words) j i ≡ sum_from s words j (suc i)
unfolding sum_from
sum_first s words j zero =
    let e : j ≡ 0 * 32 + j = omega arith in ap (λ (k : ℕ). mix_sum (get_or words k 0) s) e
sum_first s words j (suc i) =
    let e : 32 + (i * 32 + j) ≡ suc i * 32 + j = omega arith in
    ap₂ mix_sum (get_or-drop 32 words (i * 32 + j) 0 ∙ ap (λ (k : ℕ). get_or words k 0) e) (sum_first s words j i)

length-rows : (n : ℕ) (all words : List ℕ) → length (mix_rows n all words) ≡ length all
unfolding mix_rows
length-rows zero all words = refl
length-rows (suc n) all words = length-rows n (mix_row all words) (drop 32 words) ∙ length-row all words

rows_at : (n : ℕ) (all words : List ℕ) (j : ℕ) → j < length all → get_or (mix_rows n all words) j 0 ≡ sum_from (get_or all j 0) words j n
unfolding mix_rows sum_from
rows_at zero all words j h = refl
rows_at (suc n) all words j h =
    rows_at n (mix_row all words) (drop 32 words) j (omega (arith, length-row all words))
    ∙ ap (λ (s : ℕ). sum_from s (drop 32 words) j n) (row_at all words j h)
    ∙ sum_first (get_or all j 0) words j n

-- ---- all exclusive-ored together
xor-from : (words all : List ℕ) (k : ℕ) → ((j : ℕ) → j < length all → get_or all j 0 ≡ sum_of words (k + j))
    → xor_on (fold_to words k) all ≡ fold_to words (k + length all)
unfolding xor_on fold_to
xor-from words [] k h = let e : k ≡ k + 0 = omega arith in ap (fold_to words) e
xor-from words (s ∷ all) k h =
    let first : k + 0 ≡ k = omega arith in
    let rest : suc k + length all ≡ k + suc (length all) = omega arith in
    ap (λ (x : ℕ). xor_on (bit_xor (fold_to words k) x) all) (h 0 (omega arith) ∙ ap (sum_of words) first)
    ∙ xor-from words all (suc k) (λ j l. let e : k + suc j ≡ suc k + j = omega arith in h (suc j) (omega arith) ∙ ap (sum_of words) e)
    ∙ ap (fold_to words) rest

-- two rounds of zeros
zeros-at : (all : List ℕ) (j : ℕ) → j < length all
    → get_or (mix_row (mix_row all []) []) j 0 ≡ mix_sum 0 (mix_sum 0 (get_or all j 0))
zeros-at all j h =
    row_at (mix_row all []) [] j (omega (arith, length-row all [])) ∙ ap (mix_sum 0) (row_at all [] j h)

sums_at : (words : List ℕ) (j : ℕ) → j < 32
    → get_or (mix_row (mix_row (mix_rows (length words / 32) sum_starts words) []) []) j 0 ≡ sum_of words j
unfolding sum_of
sums_at words j h =
    let n = length words / 32 in
    let long : length (mix_rows n sum_starts words) ≡ 32 = length-rows n sum_starts words in
    zeros-at (mix_rows n sum_starts words) j (omega (arith, long, h))
    ∙ ap (λ (s : ℕ). mix_sum 0 (mix_sum 0 s)) (rows_at n sum_starts words j h ∙ sum-from words j n)

xor_all : (words : List ℕ) → xor_on 0 (mix_row (mix_row (mix_rows (length words / 32) sum_starts words) []) []) ≡ fold_to words sums
unfolding fold_to
xor_all words =
    let all = mix_rows (length words / 32) sum_starts words in
    let twice = mix_row (mix_row all []) [] in
    let long : length twice ≡ 32 = length-row (mix_row all []) [] ∙ length-row all [] ∙ length-rows (length words / 32) sum_starts words in
    let count : 0 + length twice ≡ sums = omega (arith, long) in
    xor-from words twice 0 (λ j l. let e : j ≡ 0 + j = omega arith in sums_at words j (omega (arith, long, l)) ∙ ap (sum_of words) e)
    ∙ ap (fold_to words) count

-- the checksum is the public header's
pub header-sum : (b : ℕ) (page : List ℕ) → checksum b page ≡ header_sum b page
unfolding header_sum checksum
header-sum b page = ap (λ (x : ℕ). bit_xor x b % 65535 + 1) (sym (xor_all (words_in (bare page))))

-- ---- its values for pages of more than 2,048 bytes: sum by sum the work grows with the square of the size
header-values :
    (header_sum 0 (ramp 4096 0 7 3) ≡ 3770)
    × (header_sum 0 (ramp 8192 0 7 3) ≡ 19518)
    × (header_sum 0 (ramp 16384 0 7 3) ≡ 10796)
    × (header_sum 0 (ramp 32768 0 7 3) ≡ 7654)
unfolding header_sum mix_row mix_rows xor_on ramp words_in mix_sum Rattle.bufmodel.specs.Checksum.bare_from
header-values = (refl, refl, refl, refl)

pub sum-4096 : checksum 0 (ramp 4096 0 7 3) ≡ 3770
sum-4096 = header-sum 0 (ramp 4096 0 7 3) ∙ header-values.0

pub sum-8192 : checksum 0 (ramp 8192 0 7 3) ≡ 19518
sum-8192 = header-sum 0 (ramp 8192 0 7 3) ∙ header-values.1

pub sum-16384 : checksum 0 (ramp 16384 0 7 3) ≡ 10796
sum-16384 = header-sum 0 (ramp 16384 0 7 3) ∙ header-values.2

pub sum-32768 : checksum 0 (ramp 32768 0 7 3) ≡ 7654
sum-32768 = header-sum 0 (ramp 32768 0 7 3) ∙ header-values.3
