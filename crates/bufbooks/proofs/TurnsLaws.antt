-- A loop's turns: the laws of the tests and counts that its invariant keeps, and of tests as facts.
use borrow.Author.Tests.{eq-eqb, ne_eqb, le-leb, lt-leb, lt-ltb, le-ltb}
use Rattle.laws.proofs.Every.{all_none, all_more, all-fails}
use Rattle.laws.proofs.Sum.{count_none, count-hit, count-miss, count-le}

pub ruleset turns_all = (all_none, all_more, all-fails, eq-eqb, ne_eqb)

pub ruleset turns_count = (count_none, count-hit, count-miss, count-le, eq-eqb, ne_eqb)

-- what a comparison says of its test
pub ruleset tests = (eq-eqb, ne_eqb, le-leb, lt-leb, lt-ltb, le-ltb)
