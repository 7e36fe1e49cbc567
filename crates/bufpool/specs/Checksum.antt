-- What the export of the checksum answers, for a page of any length and an answer slice of any.
use Rattle.std.specs.Prelude.{ℕ, ◌&&◌, cond, List, length, eqb}
use Rattle.bufmodel.specs.Checksum.{checksum}
use Rattle.bufmodel.specs.Sizes.{permitted}
use Rattle.bufmodel.specs.Outcome.{zeros, one}
use Rattle.bufmodel.specs.Lent.{answer_words}

-- an answer slice of four words, and as many bytes as a block may have; else 1
unfoldable pub sum_result : List ℕ → List ℕ → ℕ
sum_result page answer = cond (eqb (length answer) answer_words && permitted (length page)) 0 1

-- a refusal's words are zeros, which no checksum is
unfoldable pub sum_words : List ℕ → ℕ → List ℕ
sum_words page block = cond (permitted (length page)) (one (checksum block page)) zeros

-- an answer slice of another length stays untouched
unfoldable pub sum_answer : List ℕ → ℕ → List ℕ → List ℕ
sum_answer page block answer = cond (eqb (length answer) answer_words) (sum_words page block) answer
