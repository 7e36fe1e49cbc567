-- The statement's words on checksums say what the pool's definitions do.
use Prim.Native.Nat.{ℕ, zero, suc, ◌+◌, ◌*◌, ◌/◌, ◌%◌}
use mathlib.Core.Path.{◌≡◌, refl, sym, ap, ap₂, ◌∙◌}
use mathlib.Core.Bool.{Bool, true, false, not, ◌&&◌, ◌||◌, cond}
use mathlib.Core.List.{List, [], ◌∷◌, ◌++◌}
use lib.ListN.{get_or, take, drop}
use lib.Dec.{eqb}
use native.Mathlib.Omega.{arith}
use borrow.Author.Tests.{ne_eqb}
use Rattle.bufmodel.specs.Position.{paste}
use Rattle.bufmodel.specs.Checksum.{checksum, sum_in, all_zero, sealed, passes}
use Rattle.shelf.specs.Sums.{blank, fails, goes_out}

pub blank-zero : (page : List ℕ) → blank page ≡ all_zero page
unfolding blank all_zero
blank-zero [] = refl
blank-zero (zero ∷ bytes) = blank-zero bytes
blank-zero (suc k ∷ bytes) = sym (ap (λ (t : Bool). t && all_zero bytes) (ne_eqb (suc k) 0 (λ e. omega arith)))

neither : (t u : Bool) → (not t && not u) ≡ not (t || u)
neither true u = refl
neither false u = refl

-- a block fails where it does not pass
pub fails-not : (b : ℕ) (page : List ℕ) → fails b page ≡ not (passes b page)
unfolding fails passes sum_in
fails-not b page =
    let low = get_or page 8 0 in
    let high = get_or page 9 0 in
    let same : low + 256 * high ≡ low + high * 256 = omega arith in
    ap₂ (λ (t : Bool) (s : ℕ). not t && not (eqb s (checksum b page))) (blank-zero page) same
    ∙ neither (all_zero page) (eqb (low + high * 256) (checksum b page))

drop-ten : (page : List ℕ) → drop 2 (drop 8 page) ≡ drop 10 page
drop-ten (a ∷ b ∷ c ∷ d ∷ e ∷ f ∷ g ∷ h ∷ i ∷ j ∷ rest) = refl
drop-ten [] = refl
drop-ten (a ∷ []) = refl
drop-ten (a ∷ b ∷ []) = refl
drop-ten (a ∷ b ∷ c ∷ []) = refl
drop-ten (a ∷ b ∷ c ∷ d ∷ []) = refl
drop-ten (a ∷ b ∷ c ∷ d ∷ e ∷ []) = refl
drop-ten (a ∷ b ∷ c ∷ d ∷ e ∷ f ∷ []) = refl
drop-ten (a ∷ b ∷ c ∷ d ∷ e ∷ f ∷ g ∷ []) = refl
drop-ten (a ∷ b ∷ c ∷ d ∷ e ∷ f ∷ g ∷ h ∷ []) = refl
drop-ten (a ∷ b ∷ c ∷ d ∷ e ∷ f ∷ g ∷ h ∷ i ∷ []) = refl

-- a page goes out sealed
pub goes-out : (b : ℕ) (page : List ℕ) → goes_out b page ≡ sealed b page
unfolding goes_out sealed paste
goes-out b page =
    let s = checksum b page in
    ap₂ (λ (t : Bool) (rest : List ℕ). cond t page (take 8 page ++ (s % 256 ∷ s / 256 ∷ rest))) (blank-zero page)
    (sym (drop-ten page))
