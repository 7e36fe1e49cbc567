use mathlib.Core.Path.{◌≡◌}
use Rattle.laws.specs.Sum.{count}
use Rattle.bufbooks.specs.Words.{fine_at}
use Rattle.bufbooks.proofs.WordsLaws.{idle}
use Rattle.bufbooks.proofs.words.count_words.Given as goal

abbrev pub invariant-loop-i : goal.invariant-loop-i
invariant-loop-i l = (l.fine ≡ count l.i (fine_at l.cap l.states l.free l.chain)) × (l.empty ≡ count l.i (idle l.states))
