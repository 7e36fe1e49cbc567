-- Laws of the buckets' lists: which buffers stand in them.
use mathlib.Core.Path.{◌≡◌, sym, ◌∙◌, ap}
use mathlib.Core.Bool.{true, false, not}
use mathlib.Core.Logic.{◌≢◌, ⊎_elim}
use mathlib.Core.List.{List}
use Prim.Native.Nat.{ℕ, ◌≤◌, ◌<◌}
use native.Mathlib.Omega.{arith}
use lib.Dec.{eqb}
use lib.IntN.{ℤ}
use lib.ListN.{length, get_or-eq_default}
use borrow.Author.Tests.{eqb-true, eq-eqb}
use Rattle.laws.specs.Sum.{ind}
use Rattle.laws.specs.Times.{times}
use Rattle.laws.proofs.Tests.{and-true, and_left, and_right, lt-or-le, never}
use Rattle.laws.proofs.Sum.{ind-one, ind-some}
use Rattle.buftag.specs.Link.{link_at, Links}
use Rattle.buftag.specs.Lookup.{used}
use Rattle.buftag.specs.Chain.{in_bucket_by, ChainsBy}
use Rattle.buftag.proofs.LinkLaws.{links-same, links-in}

-- past the last buffer none is in use
pub used-out : (words : List ℕ) (i : ℕ) → length words ≤ i → used words i ≡ false
used-out words i h = ap (λ (w : ℕ). not (eqb w 0)) (get_or-eq_default words 0 h)

-- a buffer in use is one of the buffers
pub used-in : (words : List ℕ) (i : ℕ) → used words i ≡ true → i < length words
used-in words i u = ⊎_elim (λ h. h) (λ h. never u (used-out words i h)) (lt-or-le i (length words))

module _ {words : List ℕ} {home : ℕ → ℕ} {heads chain : List ℤ} (sound : ChainsBy words home heads chain) where
  module _ {b : ℕ} {xs : List ℕ} (h : b < length heads) (r : Links chain (link_at heads b) xs) (k : ℕ) where
    -- how often a buffer stands in a bucket's list
    pub times-in : k < length chain → times k xs ≡ ind (in_bucket_by words home b k)
    times-in w = ap (times k) (links-same r (sound.each b h).linked) ∙ (sound.each b h).once k w

    -- what stands there is in use, and its home is there
    in-bucket : 0 < times k xs → in_bucket_by words home b k ≡ true
    in-bucket m = ind-some _ (omega (arith, times-in (links-in r k m)))

    pub in-used : 0 < times k xs → used words k ≡ true
    in-used m = and_left _ (eqb (home k) b) (in-bucket m)

    pub in-its-bucket : 0 < times k xs → home k ≡ b
    in-its-bucket m = eqb-true _ _ (and_right (used words k) _ (in-bucket m))

    -- and what is in use, with its home there, stands there
    pub stands-in : k < length chain → used words k ≡ true → home k ≡ b → 0 < times k xs
    stands-in w u e = omega (arith, times-in w, ind-one (and-true u (eq-eqb _ _ e)))

    -- an empty buffer stands nowhere, another bucket's buffer not here
    pub empty-out : used words k ≡ false → times k xs ≡ 0
    empty-out u = ⊎_elim (λ m. never (in-used m) u) (λ m. omega arith) (lt-or-le 0 (times k xs))

    pub other-out : b ≢ home k → times k xs ≡ 0
    other-out ne = ⊎_elim (λ m. absurd (ne (sym (in-its-bucket m)))) (λ m. omega arith) (lt-or-le 0 (times k xs))
