-- The words and the lists: what the tests of the code show, put together.
use Prim.Native.Nat.{ℕ, ◌≤◌}
use mathlib.Core.List.{List}
use lib.IntN.{ℤ}
use lib.ListN.{length}
use Rattle.laws.proofs.Sum.{count-le}
use Rattle.buftag.specs.Check.{leading}
use Rattle.bufbooks.specs.Words.{counts_of}

-- no more links lead on than there are, and no more buffers are empty
pub leading_le : (ls : List ℤ) → leading ls ≤ length ls
unfolding leading
leading_le ls = count-le _ (length ls)

pub empty-le : (cap : ℕ) (states : List ℕ) (free chain : List ℤ) → (counts_of cap states free chain).empty ≤ length states
unfolding counts_of
empty-le cap states free chain = count-le _ (length states)

pub ruleset few = (leading_le, empty-le)
