-- The check as a call that changes nothing.
use Rattle.std.specs.Prelude.{[]}
use Rattle.bufmodel.specs.Memory.{Memory}
use Rattle.bufmodel.specs.Outcome.{Outcome, checked, outcome, done, zeros}

-- refused with 1 or 2, else accepted
unfoldable pub check : Memory → Outcome
check m = outcome (checked m []) [] m (done zeros [] m)
