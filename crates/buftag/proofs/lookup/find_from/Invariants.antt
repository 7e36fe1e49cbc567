use Rattle.buftag.specs.Lookup.{walk}
use Rattle.std.proofs.Common.{◌≡◌, ◌-◌, length}
use Rattle.buftag.proofs.lookup.find_from.Given as goal

abbrev pub invariant-loop : goal.invariant-loop
invariant-loop l = walk l.chain l.names l.name (l.end - l.counter) l.at ≡ walk l.chain l.names l.name (length l.chain) l.initial.at
