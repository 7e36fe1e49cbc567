-- Laws of a page's words, and of its bytes 8 and 9 among them.
use Prim.Native.Nat.{ℕ, zero, suc, ◌+◌, ◌*◌, ◌/◌, ◌≤◌, ◌<◌}
use mathlib.Core.Path.{◌≡◌, refl, ap, ◌∙◌}
use mathlib.Core.List.{List, [], ◌∷◌}
use native.Mathlib.Nat.{add_assoc}
use native.Mathlib.Omega.{arith}
use lib.ListN.{get_or, length, drop}
use lib.Seq.{get_or-drop}
use Rattle.bufhash.specs.Bytes.{word_at}
use Rattle.bufmodel.specs.Checksum.{words_in, bare}
use Rattle.bufmodel.proofs.ChecksumLaws.{bare-at}

-- ---- the words of a page
word-drop : (n : ℕ) (bytes : List ℕ) (at : ℕ) → word_at (drop n bytes) at ≡ word_at bytes (n + at)
word-drop n bytes at = simp (get_or-drop, add_assoc)

pub word_in : (page : List ℕ) (k : ℕ) → 4 * k + 4 ≤ length page → get_or (words_in page) k 0 ≡ word_at page (4 * k)
unfolding words_in
word_in (a ∷ b ∷ c ∷ d ∷ bytes) zero h = refl
word_in (a ∷ b ∷ c ∷ d ∷ bytes) (suc k) h =
    let page = a ∷ b ∷ c ∷ d ∷ bytes in
    let e : 4 + 4 * k ≡ 4 * suc k = omega arith in
    word_in bytes k (omega arith) ∙ word-drop 4 page (4 * k) ∙ ap (word_at page) e
word_in (a ∷ b ∷ c ∷ []) k h = absurd (omega arith)
word_in (a ∷ b ∷ []) k h = absurd (omega arith)
word_in (a ∷ []) k h = absurd (omega arith)
word_in [] k h = absurd (omega arith)

pub length-words : (page : List ℕ) → length (words_in page) ≡ length page / 4
unfolding words_in
length-words (a ∷ b ∷ c ∷ d ∷ bytes) =
    let e : suc (length bytes / 4) ≡ suc (suc (suc (suc (length bytes)))) / 4 = omega arith in ap suc (length-words bytes) ∙ e
length-words (a ∷ b ∷ c ∷ []) = refl
length-words (a ∷ b ∷ []) = refl
length-words (a ∷ []) = refl
length-words [] = refl

-- words of equal bytes
pub word_same : (xs ys : List ℕ) (at : ℕ) → ((k : ℕ) → at ≤ k → k < at + 4 → get_or xs k 0 ≡ get_or ys k 0) → word_at xs at ≡ word_at ys at
word_same xs ys at h =
    rw (
      h at (omega arith) (omega arith),
      h (at + 1) (omega arith) (omega arith),
      h (at + 2) (omega arith) (omega arith),
      h (at + 3) (omega arith) (omega arith),
    ) refl

-- ---- bytes 8 and 9 are zeros among them
pub bare-8 : (page : List ℕ) → get_or (bare page) 8 0 ≡ 0
bare-8 page = bare-at 0 page 8

pub bare-9 : (page : List ℕ) → get_or (bare page) 9 0 ≡ 0
bare-9 page = bare-at 0 page 9
