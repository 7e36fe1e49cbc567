-- The words, the free links and the links of empty buffers: what is looked at, and what is counted.
use Rattle.std.specs.Prelude.{Bool, ◌&&◌, cond, List, ℕ, ℤ, length, get_or}
use Rattle.laws.specs.Sum.{count}
use Rattle.buftag.specs.Link.{link_of, number_at, is_end}
use Rattle.bufmodel.specs.Word.{empty, sound_word}
use Rattle.bufmodel.specs.Books.{is_off}
use Rattle.bufbooks.specs.declared.words.Counts.{Counts}

-- a buffer's word with its links: of an empty buffer, chain link −1; of one in use, a sound word and free link −2
unfoldable pub fine : ℕ → ℕ → ℤ → ℤ → Bool
fine cap w free chain = cond (empty w) (is_end (link_of chain)) (sound_word cap w && is_off (link_of free))

unfoldable pub fine_at : ℕ → List ℕ → List ℤ → List ℤ → ℕ → Bool
fine_at cap states free chain i = fine cap (get_or states i 0) (number_at free i) (number_at chain i)

-- how many buffers' words fit their links, and how many are empty
unfoldable pub counts_of : ℕ → List ℕ → List ℤ → List ℤ → Counts
counts_of cap states free chain =
    record {
      fine = count (length states) (fine_at cap states free chain);
      empty = count (length states) (λ i. empty (get_or states i 0));
    }
