use mathlib.Core.Path.{◌≡◌}
use Prim.Native.Nat.{ℕ, ◌+◌, ◌*◌, ◌≤◌, ◌<◌}
use lib.ListN.{get_or}
use Rattle.bufhash.specs.Bytes.{word_at}
use Rattle.bufmodel.specs.Checksum.{mix_sum}
use Rattle.bufmem.proofs.checksum.mix_row.Given as goal

abbrev pub invariant-loop-j : goal.invariant-loop-j
invariant-loop-j l = ((k : ℕ) → k < l.j → get_or l.sums k 0 ≡ mix_sum (word_at l.bytes (l.at + k * 4)) (get_or l.initial.sums k 0))
    × ((k : ℕ) → l.j ≤ k → get_or l.sums k 0 ≡ get_or l.initial.sums k 0)
