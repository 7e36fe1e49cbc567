-- Memory that passes the places 1 and 2.
use Prim.Native.Nat.{ℕ}
use native.Mathlib.Omega.{arith}
use mathlib.Core.Path.{◌≡◌, sym, ◌∙◌, ap}
use mathlib.Core.Bool.{true, not}
use mathlib.Core.Logic.{◌≢◌}
use mathlib.Core.List.{List, [], ◌∷◌}
use borrow.Author.Tests.{not-false}
use Rattle.bufmodel.specs.Memory.{Memory, size}
use Rattle.bufmodel.specs.Sizes.{SizedFor, sized}
use Rattle.bufmodel.specs.Books.{BooksSound, sound}
use Rattle.bufmodel.specs.Outcome.{Place, place, refusal_of, checked}
use Rattle.bufmodel.proofs.SizesLaws.{sizes-say}
use Rattle.bufmodel.proofs.BooksLaws.{books-say}
use Rattle.bufmodel.proofs.OutcomeLaws.{refusal-past, refusal-passed, refusal-first}

-- its sizes fit and its books are sound
pub record Good (m : Memory) : Type 0 where
  pub sizes : SizedFor (size m) m
  pub books : BooksSound m

-- so the two tests say
pub good-sized : (m : Memory) → Good m → sized m ≡ true
unfolding sized
good-sized m g = (sizes-say (size m) m).shown g.sizes

pub good-sound : (m : Memory) → Good m → sound m ≡ true
good-sound m g = (books-say m).shown g.books

pub good_of : (m : Memory) → sized m ≡ true → sound m ≡ true → Good m
unfolding sized
good_of m s b = record { sizes = (sizes-say (size m) m).holds s; books = (books-say m).holds b }

-- only a call's own places are left
pub checked-good : (m : Memory) → Good m → (own : List Place) → checked m own ≡ refusal_of own
unfolding checked
checked-good m g own =
    refusal-past 1 (place 2 (not (sound m)) ∷ own) (ap not (good-sized m g)) ∙ refusal-past 2 own (ap not (good-sound m g))

-- ---- what the check of the places 1 and 2 gave
module _ (m : Memory) where
  -- where one of them refuses, the later places do not matter
  pub checked-early : (own : List Place) {k : ℕ} → k ≡ checked m [] → k ≢ 0 → k ≡ checked m own
  unfolding checked
  checked-early own e h = e ∙ sym (refusal-first (place 1 (not (sized m)) ∷ place 2 (not (sound m)) ∷ []) own (λ z. h (e ∙ z)))

  -- where none refuses, the memory is good
  pub checked-passed : (own : List Place) {k : ℕ} → k ≡ checked m own → k ≡ 0 → Good m × (refusal_of own ≡ 0)
  unfolding checked
  checked-passed own e z =
      let a = refusal-passed 1 (not (sized m)) (place 2 (not (sound m)) ∷ own) (omega arith) (sym e ∙ z) in
      let b = refusal-passed 2 (not (sound m)) own (omega arith) a.1 in
      (good_of m (not-false (sized m) a.0) (not-false (sound m) b.0), b.1)

  pub passed-good : {k : ℕ} → k ≡ checked m [] → k ≡ 0 → Good m
  passed-good e z = (checked-passed [] e z).0
