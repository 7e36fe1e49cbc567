-- Laws of FNV-1a.
use mathlib.Core.Path.{◌≡◌, refl, sym, ap, ◌∙◌}
use mathlib.Core.List.{List, [], ◌∷◌, ◌++◌}
use Prim.Native.Nat.{ℕ, suc, ◌*◌, ◌/◌, ◌%◌, ◌^◌, ◌<◌}
use lib.Bits.{bit_xor}
use native.Mathlib.Nat.{mul_assoc, pow-suc}
use native.Mathlib.Omega.{arith}
use Rattle.laws.proofs.Numbers.{mod-mul-left, mod-mul-right}
use Rattle.bufhash.specs.Bytes.{word_bytes}
use Rattle.bufhash.specs.Fnv.{fnv, fnv_step, fnv_prime}

-- the hash of bytes that follow others goes on from the hash of those
pub fnv-append : (xs ys : List ℕ) (h : ℕ) → fnv (xs ++ ys) h ≡ fnv ys (fnv xs h)
fnv-append [] ys h = refl
fnv-append (x ∷ xs) ys h = fnv-append xs ys (fnv_step x h)

-- ---- zero bytes multiply only
-- the low 32 bits of the prime's power
abbrev pub prime_power : ℕ → ℕ
prime_power k = fnv_prime ^ k % 2 ^ 32

-- a zero byte after a product with a power of the prime makes it the next power
fnv-zero : (a k : ℕ) → fnv_step 0 (a * prime_power k % 2 ^ 32) ≡ a * prime_power (suc k) % 2 ^ 32
unfolding fnv_step
fnv-zero a k =
    mod-mul-left (a * prime_power k) fnv_prime (2 ^ 32)
    ∙ ap (λ x. x % 2 ^ 32) (mul_assoc a (prime_power k) fnv_prime)
    ∙ sym (mod-mul-right a (prime_power k * fnv_prime) (2 ^ 32))
    ∙ ap (λ x. a * x % 2 ^ 32) (mod-mul-left (fnv_prime ^ k) fnv_prime (2 ^ 32) ∙ ap (λ x. x % 2 ^ 32) (sym (pow-suc fnv_prime k)))

-- any byte makes a product with the first power
fnv-byte : (b h : ℕ) → fnv_step b h ≡ bit_xor b h * prime_power 1 % 2 ^ 32
unfolding fnv_step
fnv-byte b h = refl

-- a word whose upper two bytes are zeros, and one whose upper three are
pub fnv-short : (w h : ℕ) → w < 2 ^ 16 → bit_xor (w / 256) (fnv_step (w % 256) h) * prime_power 3 % 2 ^ 32 ≡ fnv (word_bytes w) h
fnv-short w h l =
    let second : w / 256 % 256 ≡ w / 256 = omega arith in
    let third : w / 65536 % 256 ≡ 0 = omega arith in
    let fourth : w / 16777216 % 256 ≡ 0 = omega arith in
    let h1 = fnv_step (w % 256) h in
    let x = bit_xor (w / 256) h1 in
    rw (second, third, fourth)
    (sym (ap (λ y. fnv_step 0 (fnv_step 0 y)) (fnv-byte (w / 256) h1) ∙ ap (fnv_step 0) (fnv-zero x 1) ∙ fnv-zero x 2))

pub fnv-small : (w h : ℕ) → w < 2 ^ 8 → bit_xor w h * prime_power 4 % 2 ^ 32 ≡ fnv (word_bytes w) h
fnv-small w h l =
    let first : w % 256 ≡ w = omega arith in
    let second : w / 256 % 256 ≡ 0 = omega arith in
    let third : w / 65536 % 256 ≡ 0 = omega arith in
    let fourth : w / 16777216 % 256 ≡ 0 = omega arith in
    let x = bit_xor w h in
    rw (first, second, third, fourth)
    (sym
    (ap (λ y. fnv_step 0 (fnv_step 0 (fnv_step 0 y))) (fnv-byte w h)
    ∙ ap (λ y. fnv_step 0 (fnv_step 0 y)) (fnv-zero x 1)
    ∙ ap (fnv_step 0) (fnv-zero x 2)
    ∙ fnv-zero x 3))
