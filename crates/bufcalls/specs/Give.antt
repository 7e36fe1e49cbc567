-- What a give back works on, and what it asks of it.
use Rattle.std.specs.Prelude.{◌≡◌, true, List, [], ◌≢◌, ℕ, ◌*◌, ◌≤◌, ◌<◌, pos, length}
use Rattle.bufmodel.specs.Word.{pinned}
use Rattle.bufmodel.specs.Memory.{Memory, memory, buffers, word_of, with_counts}
use Rattle.bufmodel.specs.Counts.{max_holders, count_at}

-- the words and the counts, as a memory of these alone
abbrev pub pins_part : List ℕ → List ℕ → Memory
pins_part states counts =
    with_counts counts
    (memory (record { size = 0; hand = 0; top = pos 0; inserted = 0; flushed = 0; cap = 0 }) states [] [] [] [] [] [] [])

-- holder h: every buffer has its counts, and is pinned where it has a pin on it
pub record Counted (m : Memory) (h : ℕ) : Type 0 where
  pub holder : h < max_holders
  pub counts : buffers m * max_holders ≤ length m.counts
  pub word : (i : ℕ) → i < buffers m → count_at m.counts i h ≢ 0 → pinned (word_of m i) ≡ true
