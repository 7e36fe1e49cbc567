use borrow.Author.Rules.{rules}
use native.Mathlib.Omega.{arith}
use mathlib.Core.Bool.{false}
use mathlib.Core.List.{[]}
use mathlib.Core.Path.{◌≡◌}
use Rattle.std.proofs.lemmas.Grind.{common_steps}
use Rattle.laws.proofs.Every.{all-fails}
use Rattle.bufmodel.specs.Books.{empty_at}
use Rattle.bufmodel.specs.Memory.{memory}
use Rattle.bufbooks.specs.Buffers.{buffer_test}
use Rattle.bufbooks.proofs.buffers.buffers_ok.Goals as goal

pub returns-then-not-sound : goal.returns-then-not-sound
unfolding buffer_test empty_at
returns-then-not-sound c =
    let a = c.args in
    let m = memory a.control a.states.now a.names.now a.pool.now [] a.heads.now a.chain.now a.tables.now.rows.words.now [] in
    let fails : buffer_test m c.loop-i.i ≡ false = grind (arith, common_steps) in
    all-fails _ _ c.loop-i.i (search rules) fails
