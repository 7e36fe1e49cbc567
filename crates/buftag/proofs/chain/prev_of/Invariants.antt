use Rattle.buftag.specs.Chain.{prev}
use Rattle.std.proofs.Common.{◌≡◌, ◌-◌, length}
use Rattle.buftag.proofs.chain.prev_of.Given as goal

abbrev pub invariant-loop : goal.invariant-loop
invariant-loop l = prev l.chain l.i (l.end - l.counter) l.at ≡ prev l.chain l.i (length l.chain) l.initial.at
