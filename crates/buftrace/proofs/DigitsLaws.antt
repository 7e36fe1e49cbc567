-- A number's decimal digits, as io has them and as the printed line does.
use Prim.Native.Nat.{ℕ, zero, suc, ◌+◌, ◌-◌, ◌/◌, ◌%◌, ◌^◌, ◌≤◌, ◌<◌}
use native.Mathlib.Nat.{not-suc-le-zero, mod-lt, mod-eq_of_lt, one-le-pow, pow-le-pow_right, le_trans}
use native.Mathlib.Omega.{arith}
use mathlib.Core.Path.{◌≡◌, sym, ap, ◌∙◌}
use mathlib.Core.List.{List, [], ◌∷◌, ◌++◌}
use mathlib.Core.Logic.{⊎_elim}
use borrow.Author.Tests.{lt-ltb, le-ltb}
use Rattle.laws.proofs.Tests.{lt-or-le}
use Rattle.io.specs.Digits.{last_digits, hex_digit_ascii, IsDigitCount}
use Rattle.buftrace.specs.Report.{spelled, decimal}

glyph-digit : (n : ℕ) → hex_digit_ascii (n % 10) ≡ 48 + n % 10
glyph-digit n = rw (lt-ltb (n % 10) 10 (mod-lt n (omega arith)))

-- one digit, and one more
spelled-one : (fuel n : ℕ) → n < 10 → spelled (suc fuel) n ≡ (48 + n) ∷ []
unfolding spelled
spelled-one fuel n h = rw (lt-ltb n 10 h)

spelled-more : (fuel n : ℕ) → 10 ≤ n → spelled (suc fuel) n ≡ spelled fuel (n / 10) ++ ((48 + n % 10) ∷ [])
unfolding spelled
spelled-more fuel n h = rw (le-ltb n 10 h)

-- k + 1 digits, the first of them not 0 unless it is the only one
digits-spelled : (k fuel n : ℕ) → n < 10 ^ suc k → (0 < k → 10 ^ k ≤ n) → n < fuel → last_digits 10 (suc k) n ≡ spelled fuel n
digits-spelled zero zero n h l f = absurd (not-suc-le-zero f)
digits-spelled zero (suc fuel) n h l f =
    let e : n % 10 ≡ n = mod-eq_of_lt (omega arith) in
    ap (λ (d : ℕ). d ∷ []) (glyph-digit n ∙ ap (λ (d : ℕ). 48 + d) e) ∙ sym (spelled-one fuel n (omega arith))
digits-spelled (suc k) zero n h l f = absurd (not-suc-le-zero f)
digits-spelled (suc k) (suc fuel) n h l f =
    let high : 10 ^ suc k ≤ n = l (omega arith) in
    let low : 1 ≤ 10 ^ k = one-le-pow k 10 (omega arith) in
    rw (glyph-digit n, spelled-more fuel n (omega arith))
    (ap (λ (t : List ℕ). t ++ ((48 + n % 10) ∷ []))
    (digits-spelled k fuel (n / 10) (omega arith) (λ z. omega arith) (omega arith)))

pub fewest-decimal : (n k : ℕ) → IsDigitCount 10 1 n k → last_digits 10 k n ≡ decimal n
unfolding decimal
fewest-decimal n zero f = absurd (not-suc-le-zero f.0)
fewest-decimal n (suc k) f =
    let e : suc k - 1 ≡ k = omega arith in
    digits-spelled k (suc n) n f.1 (λ z. rw e at (f.2 (omega arith))) (omega arith)

-- a number of 64 bits has 20 digits at most
pub fewest-few : (n k : ℕ) → n < 2 ^ 64 → IsDigitCount 10 1 n k → k ≤ 20
fewest-few n k h f =
    ⊎_elim (λ l. omega arith)
    (λ l.
    let big : 10 ^ 20 ≤ 10 ^ (k - 1) = pow-le-pow_right {n = 10} (omega arith) {i = 20} {j = k - 1} (omega arith) in
    let all : 10 ^ 20 ≤ n = le_trans big (f.2 (omega arith)) in
    omega arith)
    (lt-or-le k 21)
