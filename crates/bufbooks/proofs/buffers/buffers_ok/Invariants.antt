use Rattle.bufbooks.specs.Buffers.{buffer_test}
use Rattle.bufmodel.specs.Memory.{memory}
use Rattle.laws.specs.Every.{all}
use mathlib.Core.Bool.{true}
use mathlib.Core.List.{[]}
use mathlib.Core.Path.{◌≡◌}
use Rattle.bufbooks.proofs.buffers.buffers_ok.Given as goal

abbrev pub invariant-loop-i : goal.invariant-loop-i
invariant-loop-i l =
    all l.i (buffer_test (memory l.control l.states l.names l.pool [] l.heads l.chain l.tables.rows.words.now [])) ≡ true
