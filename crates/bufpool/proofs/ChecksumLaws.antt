-- The export of the checksum: where it is taken, and where not.
use Prim.Native.Nat.{ℕ}
use mathlib.Core.Path.{◌≡◌, refl}
use mathlib.Core.Bool.{true, false}
use mathlib.Core.Logic.{◌≢◌}
use mathlib.Core.List.{List}
use lib.ListN.{length}
use borrow.Author.Tests.{eq-eqb, ne_eqb}
use Rattle.bufmodel.specs.Checksum.{checksum}
use Rattle.bufmodel.specs.Sizes.{permitted}
use Rattle.bufmodel.specs.Outcome.{zeros, one}
use Rattle.bufmodel.specs.Lent.{answer_words}
use Rattle.bufpool.specs.Checksum.{sum_result, sum_words, sum_answer}

module _ (page answer : List ℕ) (block : ℕ) where
  pub sum-slice : length answer ≢ answer_words → (1 ≡ sum_result page answer) × (answer ≡ sum_answer page block answer)
  unfolding sum_result sum_answer
  sum-slice h = rw (ne_eqb _ _ h) (refl, refl)

  module _ (four : length answer ≡ answer_words) where
    pub sum-size : permitted (length page) ≡ false → (1 ≡ sum_result page answer) × (zeros ≡ sum_answer page block answer)
    unfolding sum_result sum_words sum_answer
    sum-size h = rw (eq-eqb _ _ four, h) (refl, refl)

    pub sum_done : permitted (length page) ≡ true
        → (0 ≡ sum_result page answer) × (one (checksum block page) ≡ sum_answer page block answer)
    unfolding sum_result sum_words sum_answer
    sum_done h = rw (eq-eqb _ _ four, h) (refl, refl)
