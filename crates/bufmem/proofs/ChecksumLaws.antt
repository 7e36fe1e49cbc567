-- Laws of the rounds over the sums.
use Prim.Native.Nat.{ℕ, zero, suc, ◌+◌, ◌*◌, ◌/◌, ◌≤◌, ◌<◌}
use mathlib.Core.Path.{◌≡◌, refl, sym, ap, ap₂, ◌∙◌}
use mathlib.Core.Logic.{⊎_elim}
use mathlib.Core.List.{List}
use native.Mathlib.Numerals.{add-one}
use native.Mathlib.Omega.{arith}
use lib.ListN.{get_or, length, set, length-set}
use lib.Seq.{get_or-set_same, get_or-set_other}
use lib.Bits.{bit_xor}
use Rattle.laws.proofs.Tests.{eq-or-ne}
use Rattle.bufhash.specs.Bytes.{word_at}
use Rattle.bufmodel.specs.Checksum.{mix_sum, words_in, sum_to, sum_of, fold_to, sums, sum_starts, bare}
use Rattle.bufmodel.proofs.ChecksumLaws.{bare-other}
use Rattle.bufmodel.proofs.WordsLaws.{word_in, length-words, word_same, bare-8, bare-9}
use Rattle.bufmem.specs.Checksum.{Mixed, Summed, fold_all}

pub fold_more : (all : List ℕ) (j : ℕ) → bit_xor (fold_all all j) (mix_sum 0 (mix_sum 0 (get_or all j 0))) ≡ fold_all all (j + 1)
unfolding fold_all
fold_more all j = rw add-one

sum_more : (words : List ℕ) (j i : ℕ) → sum_to words j (i + 1) ≡ mix_sum (get_or words (i * sums + j) 0) (sum_to words j i)
unfolding sum_to
sum_more words j i = rw add-one

-- word j of row i
row_word : (page : List ℕ) (i j : ℕ) → i * 128 + 128 ≤ length page → j < sums
    → word_at page (i * 128 + j * 4) ≡ get_or (words_in page) (i * sums + j) 0
row_word page i j l h =
    let e : i * 128 + j * 4 ≡ 4 * (i * sums + j) = omega arith in ap (word_at page) e ∙ sym (word_in page (i * sums + j) (omega arith))

-- a row more
pub summed-more : (page all next : List ℕ) (i : ℕ) → i * 128 + 128 ≤ length page → Summed page i all → Mixed page (i * 128) all next
    → Summed page (i + 1) next
summed-more page all next i l s m =
    record { each = λ j h. m.each j h ∙ ap₂ mix_sum (row_word page i j l h) (s.each j h) ∙ sym (sum_more (words_in page) j i) }

-- the first row on top of the starting words
none-summed : (page : List ℕ) → Summed page 0 sum_starts
unfolding sum_to
none-summed page = record { each = λ j h. refl }

pub summed-start : (page after : List ℕ) → 128 ≤ length page → Mixed page 0 sum_starts after → Summed page 1 after
summed-start page after l m = summed-more page sum_starts after 0 l (none-summed page) m

-- the sums of all rows folded
sum-all : (page all : List ℕ) (j : ℕ) → j < sums → Summed page (length page / 128) all
    → mix_sum 0 (mix_sum 0 (get_or all j 0)) ≡ sum_of (words_in page) j
unfolding sum_of
sum-all page all j h s =
    let rows : length page / 128 ≡ length (words_in page) / sums = omega (arith, length-words page) in
    ap (λ (x : ℕ). mix_sum 0 (mix_sum 0 x)) (s.each j h ∙ ap (sum_to (words_in page) j) rows)

pub fold_same : (page all : List ℕ) (n : ℕ) → n ≤ sums → Summed page (length page / 128) all → fold_all all n ≡ fold_to (words_in page) n
unfolding fold_all fold_to
fold_same page all zero l s = refl
fold_same page all (suc n) l s = ap₂ bit_xor (fold_same page all n (omega arith) s) (sum-all page all n (omega arith) s)

-- ---- bytes 8 and 9
-- a row of equal bytes
mixed-same : (xs ys before after : List ℕ) (at : ℕ) → ((k : ℕ) → at ≤ k → k < at + 128 → get_or xs k 0 ≡ get_or ys k 0)
    → Mixed xs at before after → Mixed ys at before after
mixed-same xs ys before after at e m =
    record {
      each = λ j h.
          m.each j h
          ∙ ap (λ (w : ℕ). mix_sum w (get_or before j 0)) (word_same xs ys (at + j * 4) (λ k a b. e k (omega arith) (omega arith)));
    }

-- a row behind the first is mixed as it stands
pub mixed-behind : (page before after : List ℕ) (at : ℕ) → 128 ≤ at → Mixed page at before after → Mixed (bare page) at before after
mixed-behind page before after at l =
    mixed-same page (bare page) before after at (λ k a b. sym (bare-other page k (omega arith) (omega arith)))

-- the first row, copied, and then its bytes 8 and 9 cleared
row-byte : (row page : List ℕ) (k : ℕ) → length row ≡ 128 → get_or row k 0 ≡ get_or page k 0
    → get_or (set (set row 8 0) 9 0) k 0 ≡ get_or (bare page) k 0
row-byte row page k l e =
    ⊎_elim (λ nine. rw nine (get_or-set_same (set row 8 0) 9 0 0 (omega (arith, l, length-set row 8 0)) ∙ sym (bare-9 page)))
    (λ m.
    get_or-set_other (set row 8 0) 9 k 0 0 m
    ∙ ⊎_elim (λ eight. rw eight (get_or-set_same row 8 0 0 (omega (arith, l)) ∙ sym (bare-8 page)))
    (λ n. get_or-set_other row 8 k 0 0 n ∙ e ∙ sym (bare-other page k n m)) (eq-or-ne k 8))
    (eq-or-ne k 9)

pub mixed-first : (row page before after : List ℕ) → length row ≡ 128 → ((k : ℕ) → k < 128 → get_or row k 0 ≡ get_or page k 0)
    → Mixed (set (set row 8 0) 9 0) 0 before after → Mixed (bare page) 0 before after
mixed-first row page before after l e =
    mixed-same (set (set row 8 0) 9 0) (bare page) before after 0 (λ k a b. row-byte row page k l (e k b))
