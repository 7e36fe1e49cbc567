-- Laws of a bucket's mask.
use mathlib.Core.Path.{◌≡◌}
use mathlib.Core.Bool.{true}
use mathlib.Core.Logic.{⊎_elim}
use Prim.Native.Nat.{ℕ, zero, suc, ◌/◌, ◌-◌, ◌%◌, ◌^◌, ◌≤◌, ◌<◌}
use native.Mathlib.Nat.{pow-suc}
use native.Mathlib.Omega.{arith}
use borrow.Author.Tests.{eqb-true}
use lib.Bits.{and_mask}
use lib.Count.{ones_step}
use lib.Dec.{eqb}
use lib.Pow.{pow_pos}
use Rattle.std.specs.Prelude.{Some, count_ones}
use Rattle.std.proofs.lemmas.Nat.{zero_from_ones, ones_le_self}
use Rattle.laws.proofs.Tests.{lt-or-le}
use Rattle.buftag.specs.Bucket.{Masks}

-- a number with one set digit, of so many digits, is a power of two
one_digit : (d n : ℕ) → n ≤ d → count_ones n ≡ 1 → (k : ℕ) × (n ≡ 2 ^ k)
one_digit zero n h e = absurd (omega (arith, ones_le_self n))
one_digit (suc d) n h e =
    let s = ones_step n in
    ⊎_elim
    (λ low.
    let half = one_digit d (n / 2) (omega arith) (omega arith) in
    (suc half.0, omega (arith, half.1, pow-suc 2 half.0)))
    (λ high. let none : n / 2 ≡ 0 = zero_from_ones (n / 2) (omega arith) in (0, omega arith))
    (lt-or-le (n % 2) 1)

-- a power of two is above 0, and one less is its mask
power-mask : (k : ℕ) {b : ℕ} → b ≡ 2 ^ k → (0 < b) × Masks b (Some (b - 1))
power-mask k e = rw e (pow_pos k, record { each = λ bits s h. let t : 2 ^ k - 1 ≡ bits = cc in rw (← t) (and_mask h k) })

pub power-masks : (b : ℕ) → eqb (count_ones b) 1 ≡ true → (0 < b) × Masks b (Some (b - 1))
power-masks b e = let p = one_digit b b (omega arith) (eqb-true _ _ e) in power-mask p.0 p.1
