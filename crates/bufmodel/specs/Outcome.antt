-- What a call leaves, and the places of checking: a list of numbers and conditions, checked downwards.
use Rattle.std.specs.Prelude.{ℕ, zero, suc, Bool, not, cond, List, [], ◌∷◌}
use Rattle.bufmodel.specs.Memory.{Memory}
use Rattle.bufmodel.specs.Sizes.{sized}
use Rattle.bufmodel.specs.Books.{sound}

-- the refusal number (0 if accepted), the four words of the answer, the caller's own bytes and the memory afterwards
pub record Outcome : Type 0 where
  pub refusal : ℕ
  pub answer : List ℕ
  pub bytes : List ℕ
  pub after : Memory

-- one place of checking: its number, and whether it refuses
pub record Place : Type 0 where
  pub number : ℕ
  pub refuses : Bool

abbrev pub place : ℕ → Bool → Place
place k t = record { number = k; refuses = t }

-- the first that refuses gives its number
unfoldable pub refusal_of : List Place → ℕ
refusal_of [] = 0
refusal_of (p ∷ ps) = let later = refusal_of ps in cond p.refuses p.number later

-- the places of all calls but set up, and then a call's own
unfoldable pub checked : Memory → List Place → ℕ
checked m own = refusal_of (place 1 (not (sized m)) ∷ place 2 (not (sound m)) ∷ own)

-- ---- the four words of an answer: unused ones are 0
abbrev pub zeros : List ℕ
zeros = 0 ∷ 0 ∷ 0 ∷ 0 ∷ []

abbrev pub one : ℕ → List ℕ
one a = a ∷ 0 ∷ 0 ∷ 0 ∷ []

abbrev pub two : ℕ → ℕ → List ℕ
two a b = a ∷ b ∷ 0 ∷ 0 ∷ []

-- ---- outcomes
abbrev pub done : List ℕ → List ℕ → Memory → Outcome
done answer bytes m = record { refusal = 0; answer = answer; bytes = bytes; after = m }

-- a refusal gives its number, zeros, and changes nothing
abbrev pub refused : ℕ → List ℕ → Memory → Outcome
refused k bytes m = record { refusal = k; answer = zeros; bytes = bytes; after = m }

-- the outcome of a call whose places gave this number, and which does this where it is accepted
unfoldable pub outcome : ℕ → List ℕ → Memory → Outcome → Outcome
outcome zero bytes m o = o
outcome (suc k) bytes m o = refused (suc k) bytes m
