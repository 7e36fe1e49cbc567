-- Laws of bytes 8 and 9 and of the checksum.
use Prim.Native.Nat.{ℕ, zero, suc, ◌+◌, ◌*◌, ◌/◌, ◌%◌, ◌≤◌, ◌<◌}
use mathlib.Core.Path.{◌≡◌, refl, sym, ap, ap₂, ◌∙◌, subst}
use mathlib.Core.Bool.{Bool, true, false, cond, ◌||◌, or-false}
use mathlib.Core.Logic.{◌≢◌, ⊎_elim}
use mathlib.Core.List.{List, [], ◌∷◌, ◌++◌}
use lib.ListN.{get_or, length, take, drop, replicate, take-append-drop, length-take}
use lib.Seq.{length-take-le, get_or-take}
use lib.Dec.{eqb, ltb}
use lib.Bits.{bit_xor}
use native.Mathlib.Omega.{arith}
use borrow.Author.Tests.{ne_eqb, eq-eqb, eqb-true, ltb-true}
use Rattle.laws.specs.Every.{all}
use Rattle.laws.proofs.Tests.{and-true, and_left, and_right, same_tests, true-or-false, never}
use Rattle.laws.proofs.Every.{all-at, all_of}
use Rattle.laws.proofs.Lists.{listed, take-listed, get_d-replicate-all}
use Rattle.bufmodel.specs.Position.{position, position_bytes, paste, written}
use Rattle.bufmodel.specs.Checksum.{bare, bare_from, sum_in, sum_bytes, words_in, fold_to, sums, checksum, all_zero, sealed, passes}

-- ---- bytes 8 and 9 left out
pub length-bare : (s : ℕ) (bytes : List ℕ) → length (bare_from s bytes) ≡ length bytes
unfolding bare_from
length-bare s [] = refl
length-bare s (b ∷ bs) = ap suc (length-bare (suc s) bs)

blank-nothing : (b : Bool) → ◌≡◌ {A = ℕ} (cond b 0 0) 0
blank-nothing true = refl
blank-nothing false = refl

pub bare-at : (s : ℕ) (bytes : List ℕ) (k : ℕ)
    → get_or (bare_from s bytes) k 0 ≡ cond (eqb (s + k) 8 || eqb (s + k) 9) 0 (get_or bytes k 0)
unfolding bare_from
bare-at s [] k = sym (blank-nothing (eqb (s + k) 8 || eqb (s + k) 9))
bare-at s (b ∷ bs) zero =
    let e : s ≡ s + 0 = omega arith in ap (λ (x : ℕ). cond (eqb x 8 || eqb x 9) 0 b) e
bare-at s (b ∷ bs) (suc k) =
    let e : suc s + k ≡ s + suc k = omega arith in
    bare-at (suc s) bs k ∙ ap (λ (x : ℕ). cond (eqb x 8 || eqb x 9) 0 (get_or bs k 0)) e

pub bare-other : (page : List ℕ) (k : ℕ) → k ≢ 8 → k ≢ 9 → get_or (bare page) k 0 ≡ get_or page k 0
bare-other page k a b =
    bare-at 0 page k
    ∙ ap₂ (λ (x y : Bool). cond (x || y) 0 (get_or page k 0)) (ne_eqb (0 + k) 8 (λ e. a (omega arith)))
    (ne_eqb (0 + k) 9 (λ e. b (omega arith)))

-- parts
pub bare-take : (s n : ℕ) (bytes : List ℕ) → bare_from s (take n bytes) ≡ take n (bare_from s bytes)
unfolding bare_from
bare-take s zero bytes = refl
bare-take s (suc n) [] = refl
bare-take s (suc n) (b ∷ bs) = ap (λ (r : List ℕ). cond (eqb s 8 || eqb s 9) 0 b ∷ r) (bare-take (suc s) n bs)

pub bare-drop : (s n : ℕ) (bytes : List ℕ) → bare_from (s + n) (drop n bytes) ≡ drop n (bare_from s bytes)
unfolding bare_from
bare-drop s zero bytes = let e : s + 0 ≡ s = omega arith in ap (λ (x : ℕ). bare_from x bytes) e
bare-drop s (suc n) [] = refl
bare-drop s (suc n) (b ∷ bs) =
    let e : s + suc n ≡ suc s + n = omega arith in ap (λ (x : ℕ). bare_from x (drop n bs)) e ∙ bare-drop (suc s) n bs

pub bare-append : (s : ℕ) (xs ys : List ℕ) → bare_from s (xs ++ ys) ≡ bare_from s xs ++ bare_from (s + length xs) ys
unfolding bare_from
bare-append s [] ys = let e : s ≡ s + 0 = omega arith in ap (λ (x : ℕ). bare_from x ys) e
bare-append s (x ∷ xs) ys =
    let e : suc s + length xs ≡ s + suc (length xs) = omega arith in
    ap (λ (r : List ℕ). cond (eqb s 8 || eqb s 9) 0 x ∷ r)
    (bare-append (suc s) xs ys ∙ ap (λ (k : ℕ). bare_from (suc s) xs ++ bare_from k ys) e)

bare-from : (from : ℕ) (page : List ℕ) → bare_from from (drop from page) ≡ drop from (bare page)
bare-from from page =
    let e : from ≡ 0 + from = omega arith in ap (λ (x : ℕ). bare_from x (drop from page)) e ∙ bare-drop 0 from page

-- what a read fills
pub bare-part : (from n : ℕ) (page : List ℕ) → bare_from from (take n (drop from page)) ≡ take n (drop from (bare page))
bare-part from n page = bare-take from n (drop from page) ∙ ap (take n) (bare-from from page)

-- bytes replaced
pub bare-paste : (from : ℕ) (new page : List ℕ) → from ≤ length page
    → bare (paste from new page) ≡ paste from (bare_from from new) (bare page)
unfolding paste
bare-paste from new page h =
    let front : 0 + length (take from page) ≡ from = omega (arith, length-take-le from page h) in
    let rest = drop (length new) (drop from page) in
    bare-append 0 (take from page) (new ++ rest)
    ∙ ap₂ ◌++◌ (bare-take 0 from page)
    (ap (λ (k : ℕ). bare_from k (new ++ rest)) front ∙ bare-append from new rest
    ∙ ap (λ (r : List ℕ). bare_from from new ++ r)
    (bare-drop from (length new) (drop from page)
    ∙ ap₂ (λ (k : ℕ) (l : List ℕ). drop k l) (sym (length-bare from new)) (bare-from from page)))

-- ---- pages that are equal but for bytes 8 and 9
-- are still so where both are written alike
pub written-alike : (p from : ℕ) (new xs ys : List ℕ) → from ≤ length xs → length ys ≡ length xs → bare xs ≡ bare ys
    → bare (written p from new xs) ≡ bare (written p from new ys)
unfolding written
written-alike p from new xs ys h l e =
    let f = bare_from from new in
    bare-paste 0 (position_bytes p) (paste from new xs) (omega arith)
    ∙ ap (paste 0 (bare_from 0 (position_bytes p)))
    (bare-paste from new xs h ∙ ap (paste from f) e ∙ sym (bare-paste from new ys (omega (arith, l))))
    ∙ sym (bare-paste 0 (position_bytes p) (paste from new ys) (omega arith))

-- and are at one position, which lies in bytes 0 to 7
pub position-bare : (page : List ℕ) → position (bare page) ≡ position page
unfolding position
position-bare page =
    let o : (k : ℕ) → ltb k 8 ≡ true → get_or (bare page) k 0 ≡ get_or page k 0 =
    λ k t. let h : k < 8 = ltb-true k 8 t in bare-other page k (λ e. omega arith) (λ e. omega arith) in
    rw (o 0 refl, o 1 refl, o 2 refl, o 3 refl, o 4 refl, o 5 refl, o 6 refl, o 7 refl) refl

pub alike-position : (xs ys : List ℕ) → bare xs ≡ bare ys → position xs ≡ position ys
alike-position xs ys e = sym (position-bare xs) ∙ ap position e ∙ position-bare ys

-- ---- the checksum
pub checksum-least : (b : ℕ) (page : List ℕ) → 1 ≤ checksum b page
unfolding checksum
checksum-least b page = omega arith

pub checksum-most : (b : ℕ) (page : List ℕ) → checksum b page < 65536
unfolding checksum
checksum-most b page = omega arith

-- it is the same of pages that are equal but for bytes 8 and 9
pub checksum-alike : (b : ℕ) (xs ys : List ℕ) → bare xs ≡ bare ys → checksum b xs ≡ checksum b ys
unfolding checksum
checksum-alike b xs ys e = ap (λ (p : List ℕ). bit_xor (fold_to (words_in p) sums) b % 65535 + 1) e

-- a page of ten bytes or more with its first ten written out, so that what goes by them computes
by_ten : (P : List ℕ → Type 0) (page : List ℕ) → 10 ≤ length page → P (listed 10 (λ k. get_or page k 0) ++ drop 10 page) → P page
by_ten P page h = subst P (ap (λ (l : List ℕ). l ++ drop 10 page) (sym (take-listed 10 page 0 h)) ∙ take-append-drop 10 page)

-- bytes 8 and 9 replaced
pub bare-summed : (a b : ℕ) (page : List ℕ) → 10 ≤ length page → bare (paste 8 (a ∷ b ∷ []) page) ≡ bare page
unfolding paste bare_from
bare-summed a b page h = by_ten (λ l. bare (paste 8 (a ∷ b ∷ []) l) ≡ bare l) page h refl

-- ---- a page of zeros
-- byte by byte
pub zero-at : (page : List ℕ) → all_zero page ≡ true → (k : ℕ) → get_or page k 0 ≡ 0
unfolding all_zero
zero-at [] h k = refl
zero-at (b ∷ bs) h zero = eqb-true b 0 (and_left (eqb b 0) (all_zero bs) h)
zero-at (b ∷ bs) h (suc k) = zero-at bs (and_right (eqb b 0) (all_zero bs) h) k

zero_of : (page : List ℕ) → ((k : ℕ) → k < length page → get_or page k 0 ≡ 0) → all_zero page ≡ true
unfolding all_zero
zero_of [] h = refl
zero_of (b ∷ bs) h = and-true (eq-eqb b 0 (h 0 (omega arith))) (zero_of bs (λ k l. h (suc k) (omega arith)))

pub zero-every : (page : List ℕ) → all_zero page ≡ all (length page) (λ k. eqb (get_or page k 0) 0)
zero-every page =
    let here : ℕ → Bool = λ k. eqb (get_or page k 0) 0 in
    same_tests (all_zero page) (all (length page) here)
    (λ t. all_of here (length page) (λ k l. eq-eqb (get_or page k 0) 0 (zero-at page t k)))
    (λ t. zero_of page (λ k l. eqb-true (get_or page k 0) 0 (all-at here (length page) t k l)))

-- a page whose first bytes are not all zeros is not
zero-first : (n : ℕ) (page : List ℕ) → all_zero page ≡ true → all_zero (take n page) ≡ true
zero-first n page h = zero_of (take n page) (λ k l. get_or-take n page k 0 (omega (arith, length-take n page)) ∙ zero-at page h k)

pub zero-not : (n : ℕ) (page : List ℕ) → all_zero (take n page) ≡ false → all_zero page ≡ false
zero-not n page h = ⊎_elim (λ t. never (zero-first n page t) h) (λ f. f) (true-or-false (all_zero page))

-- ---- a page as it goes to the store, and as it passes
module _ (b : ℕ) (page : List ℕ) where
  -- zeros go out as they are, any other page with its checksum
  pub sealed-zero : all_zero page ≡ true → page ≡ sealed b page
  unfolding sealed
  sealed-zero e = ap (λ (t : Bool). cond t page (paste 8 (sum_bytes (checksum b page)) page)) (sym e)

  pub sealed-summed : all_zero page ≡ false → paste 8 (sum_bytes (checksum b page)) page ≡ sealed b page
  unfolding sealed
  sealed-summed e = ap (λ (t : Bool). cond t page (paste 8 (sum_bytes (checksum b page)) page)) (sym e)

  pub zero-passes : all_zero page ≡ true → passes b page ≡ true
  unfolding passes
  zero-passes e = ap (λ (t : Bool). t || eqb (sum_in page) (checksum b page)) e

  -- a checksum is never 0: without one only zeros pass, with one it decides
  pub passes-unsummed : sum_in page ≡ 0 → all_zero page ≡ passes b page
  unfolding passes
  passes-unsummed e =
      let wrong = ne_eqb (sum_in page) (checksum b page) (λ f. omega (arith, checksum-least b page)) in
      sym (ap (λ (t : Bool). all_zero page || t) wrong ∙ or-false (all_zero page))

  pub passes-summed : sum_in page ≢ 0 → eqb (sum_in page) (checksum b page) ≡ passes b page
  unfolding passes sum_in
  passes-summed ne =
      ⊎_elim (λ t. absurd (ne (omega (arith, zero-at page t 8, zero-at page t 9))))
      (λ f. ap (λ (t : Bool). t || eqb (sum_in page) (checksum b page)) (sym f)) (true-or-false (all_zero page))

-- a block of zeros passes
pub zeros-pass : (b n : ℕ) → passes b (replicate n 0) ≡ true
zeros-pass b n = zero-passes b (replicate n 0) (zero_of (replicate n 0) (λ k l. get_d-replicate-all n k 0))

-- a page with its checksum has it
sum-put : (a b : ℕ) (page : List ℕ) → 10 ≤ length page → sum_in (paste 8 (a ∷ b ∷ []) page) ≡ a + b * 256
unfolding paste sum_in
sum-put a b page h = by_ten (λ l. sum_in (paste 8 (a ∷ b ∷ []) l) ≡ a + b * 256) page h refl

module _ (b : ℕ) (page : List ℕ) (long : 10 ≤ length page) where
  -- and passes
  summed-passes : passes b (paste 8 (sum_bytes (checksum b page)) page) ≡ true
  summed-passes =
      let s = checksum b page in
      let new = paste 8 (sum_bytes s) page in
      let same = checksum-alike b page new (sym (bare-summed _ _ page long)) in
      let stands : sum_in new ≡ s = sum-put (s % 256) (s / 256) page long ∙ omega (arith, checksum-most b page) in
      sym (passes-summed b new (λ z. omega (arith, stands, checksum-least b page)))
      ∙ eq-eqb (sum_in new) (checksum b new) (stands ∙ same)

  -- so what goes out passes
  pub sealed-passes : passes b (sealed b page) ≡ true
  sealed-passes =
      ⊎_elim (λ t. ap (passes b) (sym (sealed-zero b page t)) ∙ zero-passes b page t)
      (λ f. ap (passes b) (sym (sealed-summed b page f)) ∙ summed-passes) (true-or-false (all_zero page))

  -- and is the page but for bytes 8 and 9
  pub bare-sealed : bare (sealed b page) ≡ bare page
  bare-sealed =
      ⊎_elim (λ t. ap (bare_from 0) (sym (sealed-zero b page t)))
      (λ f. ap (bare_from 0) (sym (sealed-summed b page f)) ∙ bare-summed _ _ page long) (true-or-false (all_zero page))

  pub length-sealed : length (sealed b page) ≡ length page
  length-sealed = sym (length-bare 0 (sealed b page)) ∙ ap length bare-sealed ∙ length-bare 0 page
