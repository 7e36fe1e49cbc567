-- What a pin of a page that is held answers, and what it leaves of the words and the counts.
use Rattle.std.specs.Prelude.{ℕ, ◌+◌, true, false, cond, List, eqb, get_or, set, Result, Ok, Err}
use Rattle.bufmodel.specs.declared.answer.Pinned.{Pinned}
use Rattle.bufmodel.specs.declared.refusal.Refusal.{Refusal}
use Rattle.bufmodel.specs.declared.refusal.Refusal.TheVariants.{PinCount}
use Rattle.bufmodel.specs.Counts.{max_count, count_at, set_count}
use Rattle.bufmodel.specs.Pin.{held_word}

-- held in buffer i, on which the holder has c pins
unfoldable pub held_at : ℕ → ℕ → Result Pinned Refusal
held_at i c =
    cond (eqb c max_count) (Err PinCount) (Ok (record { buffer = record { 0 = i }; hit = true; wrote = false; probes = 0 }))

unfoldable pub held_words : ℕ → List ℕ → ℕ → ℕ → List ℕ
held_words cap words i c = cond (eqb c max_count) words (set words i (held_word cap c (get_or words i 0)))

unfoldable pub held_counts : List ℕ → ℕ → ℕ → List ℕ
held_counts counts i h = let c = count_at counts i h in cond (eqb c max_count) counts (set_count counts i h (c + 1))
