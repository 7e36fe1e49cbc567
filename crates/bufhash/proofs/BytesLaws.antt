-- Laws of a word's bytes: there and back.
use mathlib.Core.Path.{◌≡◌}
use mathlib.Core.List.{[], ◌∷◌}
use Prim.Native.Nat.{ℕ, ◌+◌, ◌*◌, ◌/◌, ◌%◌, ◌^◌, ◌<◌}
use native.Mathlib.Nat.{mod-eq_of_lt, div-add-mod, div-div-eq-div-mul}
use native.Mathlib.Omega.{arith}
use Rattle.bufhash.specs.Bytes.{word_bytes, word_at}

-- a word is the word of its bytes
pub word-of-bytes : (w : ℕ) → w < 2 ^ 32 → word_at (word_bytes w) 0 ≡ w
word-of-bytes w h =
    let e : w / 256 / 256 ≡ w / 65536 = div-div-eq-div-mul w 256 256 in
    let f : w / 65536 / 256 ≡ w / 16777216 = div-div-eq-div-mul w 65536 256 in
    let a : 256 * (w / 256) + w % 256 ≡ w = div-add-mod w 256 in
    let b : 256 * (w / 65536) + w / 256 % 256 ≡ w / 256 = rw e at (div-add-mod (w / 256) 256) in
    let c : 256 * (w / 16777216) + w / 65536 % 256 ≡ w / 65536 = rw f at (div-add-mod (w / 65536) 256) in
    let d : w / 16777216 % 256 ≡ w / 16777216 = mod-eq_of_lt (omega arith) in
    omega arith

module _ {a b c d : ℕ} (ha : a < 256) (hb : b < 256) (hc : c < 256) (hd : d < 256) where
  pub word_lt : a + b * 256 + c * 65536 + d * 16777216 < 2 ^ 32
  word_lt = omega arith

  -- four bytes are the bytes of their word
  pub bytes-of-word : word_bytes (a + b * 256 + c * 65536 + d * 16777216) ≡ a ∷ b ∷ c ∷ d ∷ []
  bytes-of-word =
      let w = a + b * 256 + c * 65536 + d * 16777216 in
      let e : w / 256 ≡ b + c * 256 + d * 65536 = omega arith in
      let f : w / 65536 ≡ c + d * 256 = omega arith in
      let g : w / 16777216 ≡ d = omega arith in
      let first : w % 256 ≡ a = omega arith in
      let second : w / 256 % 256 ≡ b = rw e (omega arith) in
      let third : w / 65536 % 256 ≡ c = rw f (omega arith) in
      let fourth : w / 16777216 % 256 ≡ d = rw g (omega arith) in
      rw (first, second, third, fourth)
