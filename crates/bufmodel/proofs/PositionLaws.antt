-- Laws of log positions: to bytes and back, and the position of a page that was written.
use Prim.Native.Nat.{ℕ, ◌+◌, ◌/◌, ◌%◌, ◌^◌, ◌≤◌, ◌<◌}
use mathlib.Core.Path.{◌≡◌, refl, sym, ap₂, ◌∙◌}
use mathlib.Core.Bool.{true}
use mathlib.Core.List.{List, ◌++◌}
use native.Mathlib.Omega.{arith}
use lib.Dec.{ltb}
use lib.ListN.{length, get_or, take, replicate, length-append, length-take, length-drop}
use borrow.Author.Tests.{ltb-true}
use Rattle.laws.proofs.Lists.{take-listed, get_d-replicate-all}
use Rattle.bufhash.specs.Bytes.{word_bytes, word_at}
use Rattle.bufhash.proofs.BytesLaws.{word-of-bytes, word_lt, bytes-of-word}
use Rattle.bufmodel.specs.Position.{position, position_bytes, paste, written}

-- ---- the bytes of a position, and back
pub position-of-bytes : (p : ℕ) (rest : List ℕ) → p < 2 ^ 64 → position (position_bytes p ++ rest) ≡ p
unfolding position position_bytes
position-of-bytes p rest h =
    rw (word-of-bytes (p / 2 ^ 32) (omega arith), word-of-bytes (p % 2 ^ 32) (omega arith)) (omega arith)

pub bytes-of-position : (page : List ℕ) → 8 ≤ length page → ((i : ℕ) → i < 8 → get_or page i 0 < 256)
    → position_bytes (position page) ≡ take 8 page
unfolding position position_bytes
bytes-of-position page long bytes =
    let byte : (i : ℕ) → ltb i 8 ≡ true → get_or page i 0 < 256 = λ i h. bytes i (ltb-true i 8 h) in
    let high = bytes-of-word (byte 0 refl) (byte 1 refl) (byte 2 refl) (byte 3 refl) in
    let low = bytes-of-word (byte 4 refl) (byte 5 refl) (byte 6 refl) (byte 7 refl) in
    let h : word_at page 4 < 2 ^ 32 = word_lt (byte 4 refl) (byte 5 refl) (byte 6 refl) (byte 7 refl) in
    let e : position page / 2 ^ 32 ≡ word_at page 0 = omega arith in
    let f : position page % 2 ^ 32 ≡ word_at page 4 = omega arith in
    ap₂ (λ (x y : ℕ). word_bytes x ++ word_bytes y) e f ∙ ap₂ ◌++◌ high low ∙ sym (take-listed 8 page 0 long)

-- ---- a written page
pub length-written : (p from : ℕ) (new page : List ℕ) → from + length new ≤ length page → 8 ≤ length page
    → length (written p from new page) ≡ length page
unfolding written paste position_bytes
length-written p from new page h long = simp (length-append, length-take, length-drop) (omega arith)

-- it bears the position that it was written with
pub position-written : (p from : ℕ) (new page : List ℕ) → p < 2 ^ 64 → position (written p from new page) ≡ p
unfolding written paste
position-written p from new page h = position-of-bytes p _ h

-- a page of zeros is at 0
pub position-zeros : (n : ℕ) → position (replicate n 0) ≡ 0
unfolding position
position-zeros n = simp get_d-replicate-all
