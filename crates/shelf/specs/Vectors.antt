-- The published checksum's values, as checksum_impl.h gives them, and blocks that pass and fail by them.
use Rattle.std.specs.Prelude.{ℕ, zero, suc, ◌+◌, ◌*◌, ◌%◌, ◌≡◌, refl, Bool, true, false, List, [], ◌∷◌, ◌++◌, replicate}
use Rattle.bufmodel.specs.Checksum.{checksum, sealed, passes}
use Rattle.shelf.specs.Sums.{fails, goes_out}

-- byte i is (a i + c) modulo 251
unfoldable pub ramp : ℕ → ℕ → ℕ → ℕ → List ℕ
ramp zero i a c = []
ramp (suc n) i a c = (i * a + c) % 251 ∷ ramp n (suc i) a c

-- pages of 1,024 bytes
unfoldable pub sums : List ℕ
unfolding Rattle.bufmodel.specs.Checksum.bare_from Rattle.bufmodel.specs.Checksum.mix_sum Rattle.bufmodel.specs.Checksum.words_in
    Rattle.bufmodel.specs.Checksum.sum_to Rattle.bufmodel.specs.Checksum.sum_of Rattle.bufmodel.specs.Checksum.fold_to checksum ramp
sums =
    checksum 0 (replicate 1024 0)
    ∷ checksum 65535 (replicate 1024 255)
    ∷ checksum 0 (ramp 1024 0 7 3)
    ∷ checksum 1 (ramp 1024 0 7 3)
    ∷ checksum 4294967295 (ramp 1024 0 13 1)
    ∷ []

pub sums-hold : sums ≡ 35928 ∷ 16265 ∷ 6928 ∷ 6927 ∷ 24463 ∷ []
unfolding sums
sums-hold = refl

-- a larger one; those of every size: `proofs/HeaderSum`
pub sum-2048 : checksum 0 (ramp 2048 0 7 3) ≡ 27551
unfolding sums
sum-2048 = refl

-- ---- which pass, by the pool's test and by the statement's
-- without a checksum; zeros but for byte 8; the checksum of block 9 read as block 9 and as block 8; zeros
abbrev pub tried : List (List ℕ)
tried =
    ramp 1024 0 7 3
    ∷ (replicate 8 0 ++ (1 ∷ replicate 1015 0))
    ∷ goes_out 9 (ramp 1024 0 7 3)
    ∷ replicate 1024 0
    ∷ []

abbrev pub judged : (List ℕ → Bool) → List (List ℕ) → List Bool
judged test [] = []
judged test (page ∷ pages) = test page ∷ judged test pages

pub pass-hold :
    (judged (passes 9) tried ≡ false ∷ false ∷ true ∷ true ∷ [])
    × (judged (fails 9) tried ≡ true ∷ true ∷ false ∷ false ∷ [])
    × (passes 8 (goes_out 9 (ramp 1024 0 7 3)) ≡ false)
    × (sealed 9 (replicate 1024 0) ≡ replicate 1024 0)
    × (goes_out 0 (replicate 8 0 ++ (1 ∷ replicate 1015 0)) ≡ replicate 8 0 ++ (88 ∷ 140 ∷ replicate 1014 0))
unfolding sums sealed passes fails goes_out Rattle.bufmodel.specs.Checksum.sum_in Rattle.bufmodel.specs.Checksum.all_zero
    Rattle.bufmodel.specs.Position.paste Rattle.shelf.specs.Sums.blank
pass-hold = (refl, refl, refl, refl, refl)
