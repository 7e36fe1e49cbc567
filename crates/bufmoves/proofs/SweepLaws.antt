-- Turns of the sweep's loop, as the code counts them.
use Prim.Native.Nat.{ℕ, zero, suc, ◌+◌, ◌-◌, ◌*◌, ◌≤◌, ◌<◌}
use native.Mathlib.Nat.{mul-le-mul_right}
use native.Mathlib.Numerals.{add-one, sub-one}
use native.Mathlib.Omega.{arith}
use mathlib.Core.Path.{◌≡◌, refl, sym}
use mathlib.Core.Bool.{true, false}
use mathlib.Core.List.{List}
use lib.ListN.{get_or, set}
use Rattle.laws.specs.First.{found, missing}
use Rattle.bufmodel.specs.Word.{max_cap, pinned, usage, use_less}
use Rattle.bufmodel.specs.Sizes.{max_buffers}
use Rattle.bufmodel.specs.Sweep.{swept, next, sweep}
use Rattle.bufmodel.proofs.SweepLaws.{step-passes, step-stops, step-lowers, step-takes}

-- a cap and buffers so few that the probes of a sweep are few
pub probes-few : (cap n : ℕ) → cap ≤ max_cap → n ≤ max_buffers → (cap + 1) * n ≤ (max_cap + 1) * max_buffers
probes-few cap n c h =
    let l : cap + 1 ≤ max_cap + 1 = omega arith in
    omega (arith, mul-le-mul_right n l)

module _ (n run probes hand : ℕ) (words : List ℕ) where
  -- no probe is left
  pub sweep-end : (k : ℕ) → k ≡ 0 → sweep k n run probes hand words ≡ swept missing words hand probes
  unfolding sweep
  sweep-end zero e = refl
  sweep-end (suc k) e = absurd (omega arith)

  -- with probes left, the number of them is a successor, and what is left after this one is as the code has it
  module _ (most : ℕ) (some : probes < most) (on : ℕ) (moved : on ≡ next n hand) where
    one_less : most - (probes + 1) ≡ most - probes - 1
    one_less = omega arith

    -- all were pinned
    pub sweep-stop : pinned (get_or words hand 0) ≡ true → run + 1 ≡ n
        → sweep (most - probes) n run probes hand words ≡ swept missing words on (probes + 1)
    sweep-stop h e = rw moved (go (most - probes) (omega arith))
      where
        go : (k : ℕ) → 0 < k → sweep k n run probes hand words ≡ swept missing words (next n hand) (probes + 1)
        go zero l = absurd (omega arith)
        go (suc k) l = rw add-one (step-stops k n run probes hand words h (omega arith))

    -- unpinned with usage 0 is taken
    pub sweep-take : pinned (get_or words hand 0) ≡ false → usage (get_or words hand 0) ≡ 0
        → sweep (most - probes) n run probes hand words ≡ swept (found hand) words on (probes + 1)
    sweep-take h e = rw moved (go (most - probes) (omega arith))
      where
        go : (k : ℕ) → 0 < k → sweep k n run probes hand words ≡ swept (found hand) words (next n hand) (probes + 1)
        go zero l = absurd (omega arith)
        go (suc k) l = rw add-one (step-takes k n run probes hand words h e)

    -- pinned is passed
    pub sweep-pass : pinned (get_or words hand 0) ≡ true → run + 1 < n
        → sweep (most - (probes + 1)) n (run + 1) (probes + 1) on words ≡ sweep (most - probes) n run probes hand words
    sweep-pass h e = rw (moved, one_less) (go (most - probes) (omega arith))
      where
        go : (k : ℕ) → 0 < k → sweep (k - 1) n (run + 1) (probes + 1) (next n hand) words ≡ sweep k n run probes hand words
        go zero l = absurd (omega arith)
        go (suc k) l = rw (add-one, add-one, sub-one) (sym (step-passes k n run probes hand words h (omega arith)))

    -- unpinned with usage above 0 loses one
    pub sweep-lower : (w : ℕ) → w ≡ use_less (get_or words hand 0) → pinned (get_or words hand 0) ≡ false → 0 < usage (get_or words hand 0)
        → sweep (most - (probes + 1)) n 0 (probes + 1) on (set words hand w) ≡ sweep (most - probes) n run probes hand words
    sweep-lower w q h e = rw (moved, one_less, q) (go (most - probes) (omega arith))
      where
        go : (k : ℕ) → 0 < k
            → sweep (k - 1) n 0 (probes + 1) (next n hand) (set words hand (use_less (get_or words hand 0)))
            ≡ sweep k n run probes hand words
        go zero l = absurd (omega arith)
        go (suc k) l = rw (add-one, sub-one) (sym (step-lowers k n run probes hand words h e))
