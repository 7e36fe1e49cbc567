-- Laws of the places of checking and of outcomes.
use Prim.Native.Nat.{ℕ, zero, suc, ◌<◌}
use mathlib.Core.Path.{◌≡◌, refl}
use mathlib.Core.Logic.{◌≢◌}
use mathlib.Core.Bool.{Bool, true, false, cond}
use mathlib.Core.List.{List, [], ◌∷◌, ◌++◌}
use native.Mathlib.Omega.{arith}
use Rattle.bufmodel.specs.Memory.{Memory}
use Rattle.bufmodel.specs.Outcome.{Outcome, Place, place, refusal_of, refused, outcome}

-- a place that does not refuse hands on to the later ones
pub refusal-past : (k : ℕ) {t : Bool} (later : List Place) → t ≡ false → refusal_of (place k t ∷ later) ≡ refusal_of later
unfolding refusal_of
refusal-past k later e = rw e

-- one that refuses gives its number
pub refusal-at : (k : ℕ) {t : Bool} (later : List Place) → t ≡ true → refusal_of (place k t ∷ later) ≡ k
unfolding refusal_of
refusal-at k later e = rw e

pub refusal-none : refusal_of [] ≡ 0
unfolding refusal_of
refusal-none = refl

-- where no place refused, this one did not, and no later one did
pub refusal-passed : (k : ℕ) (t : Bool) (later : List Place) → 0 < k → refusal_of (place k t ∷ later) ≡ 0
    → (t ≡ false) × (refusal_of later ≡ 0)
unfolding refusal_of
refusal-passed k true later h e = absurd (omega arith)
refusal-passed k false later h e = (refl, e)

-- the first places that refuse do so whatever comes later
cond-first : (k : ℕ) (t : Bool) (a b : ℕ) → (b ≢ 0 → a ≡ b) → cond t k b ≢ 0 → cond t k a ≡ cond t k b
cond-first k true a b f h = refl
cond-first k false a b f h = f h

pub refusal-first : (ps later : List Place) → refusal_of ps ≢ 0 → refusal_of (ps ++ later) ≡ refusal_of ps
unfolding refusal_of
refusal-first [] later h = absurd (h refl)
refusal-first (p ∷ ps) later h = cond-first p.number p.refuses (refusal_of (ps ++ later)) (refusal_of ps) (refusal-first ps later) h

-- places with equal conditions give one number
pub refusal-same : (k : ℕ) {t u : Bool} (ps qs : List Place) → t ≡ u → refusal_of ps ≡ refusal_of qs
    → refusal_of (place k t ∷ ps) ≡ refusal_of (place k u ∷ qs)
unfolding refusal_of
refusal-same k ps qs e f = rw (e, f)

module _ (bytes : List ℕ) (m : Memory) (o : Outcome) where
  pub outcome-done : {k : ℕ} → k ≡ 0 → outcome k bytes m o ≡ o
  unfolding outcome
  outcome-done e = rw e

  pub outcome-refused : (k : ℕ) → k ≢ 0 → outcome k bytes m o ≡ refused k bytes m
  unfolding outcome
  outcome-refused zero h = absurd (h refl)
  outcome-refused (suc k) h = refl

  -- an outcome's number is that of the places
  pub outcome-number : (k : ℕ) → o.refusal ≡ 0 → (outcome k bytes m o).refusal ≡ k
  unfolding outcome
  outcome-number zero h = h
  outcome-number (suc k) h = refl
