-- Lists that are equal: by their blocks, by the names that their words make, and by buffers and holders.
use Prim.Native.Nat.{ℕ, zero, suc, ◌+◌, ◌*◌, ◌/◌, ◌%◌, ◌<◌}
use native.Mathlib.Omega.{arith}
use native.Mathlib.Nat.{add-zero, zero-mul}
use mathlib.Core.Path.{◌≡◌, sym, ap, ◌∙◌}
use mathlib.Core.List.{List}
use lib.ListN.{length, get_or, take}
use lib.Seq.{take-add, take_all, ext_get_or}
use Rattle.laws.specs.Block.{block}
use Rattle.buftag.specs.declared.name.PageName.{PageName}
use Rattle.buftag.specs.Names.{name_words, name_at}

-- ---- a list of n blocks of p elements is decided by its blocks
module _ (p : ℕ) (xs ys : List ℕ) where
  take-blocks : (n : ℕ) → ((i : ℕ) → i < n → block p i xs ≡ block p i ys) → take (n * p) xs ≡ take (n * p) ys
  unfolding block
  take-blocks zero same = rw zero-mul
  take-blocks (suc n) same =
      let e : suc n * p ≡ n * p + p = omega arith in
      rw (e, take-add (n * p) p xs, take-add (n * p) p ys, take-blocks n (λ i l. same i (omega arith)), same n (omega arith))

  pub ext-blocks : (n : ℕ) → length xs ≡ n * p → length ys ≡ n * p → ((i : ℕ) → i < n → block p i xs ≡ block p i ys) → xs ≡ ys
  ext-blocks n e f same =
      sym (take_all (n * p) xs (omega arith)) ∙ take-blocks n same ∙ take_all (n * p) ys (omega arith)

-- ---- names of five words each are decided by the names
-- the words of equal names
same-words : (xs ys : List ℕ) (i k : ℕ) → name_at xs i ≡ name_at ys i → k < name_words
    → get_or xs (name_words * i + k) 0 ≡ get_or ys (name_words * i + k) 0
same-words xs ys i zero e l = rw add-zero (ap (λ (n : PageName). n.file.tablespace) e)
same-words xs ys i (suc zero) e l = ap (λ (n : PageName). n.file.database) e
same-words xs ys i (suc (suc zero)) e l = ap (λ (n : PageName). n.file.relation) e
same-words xs ys i (suc (suc (suc zero))) e l = ap (λ (n : PageName). n.file.fork) e
same-words xs ys i (suc (suc (suc (suc zero)))) e l = ap (λ (n : PageName). n.block.0) e
same-words xs ys i (suc (suc (suc (suc (suc k))))) e l = absurd (omega arith)

pub ext-names : (n : ℕ) (xs ys : List ℕ) → length xs ≡ name_words * n → length ys ≡ name_words * n
    → ((i : ℕ) → i < n → name_at xs i ≡ name_at ys i) → xs ≡ ys
ext-names n xs ys e f same = ext_get_or 0 xs ys (e ∙ sym f) at
  where
    at : (i : ℕ) → i < length xs → get_or xs i 0 ≡ get_or ys i 0
    at i l =
        let q : i ≡ name_words * (i / name_words) + i % name_words = omega arith in
        rw q (same-words xs ys (i / name_words) (i % name_words) (same (i / name_words) (omega arith)) (omega arith))

-- ---- n times 64 numbers are decided by the 64 of each
pub ext-counts : (n : ℕ) (xs ys : List ℕ) → length xs ≡ n * 64 → length ys ≡ n * 64
    → ((i h : ℕ) → i < n → h < 64 → get_or xs (i * 64 + h) 0 ≡ get_or ys (i * 64 + h) 0)
    → xs ≡ ys
ext-counts n xs ys e f same = ext_get_or 0 xs ys (e ∙ sym f) at
  where
    at : (k : ℕ) → k < length xs → get_or xs k 0 ≡ get_or ys k 0
    at k l =
        let q : k ≡ k / 64 * 64 + k % 64 = omega arith in
        rw q (same (k / 64) (k % 64) (omega arith) (omega arith))
