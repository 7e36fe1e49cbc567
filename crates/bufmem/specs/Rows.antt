-- What a search among the rows answers.
use Rattle.std.specs.Prelude.{ℕ, Option, Some, None}
use Rattle.laws.specs.First.{Found, found, missing}

abbrev pub found_row : Option ℕ → Found
found_row (Some r) = found r
found_row None = missing
