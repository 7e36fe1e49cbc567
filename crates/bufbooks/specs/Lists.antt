-- The words and the lists: what is counted of them.
use Rattle.std.specs.Prelude.{Bool, ◌&&◌, List, ℕ, ◌+◌, eqb, ℤ, length}
use Rattle.buftag.specs.Link.{link_of}
use Rattle.buftag.specs.Budget.{spend, spent}
use Rattle.buftag.specs.Check.{leading}
use Rattle.bufbooks.specs.Words.{counts_of}

-- each word fits its links; as many links of the chains lead on as there are buffers in use; the free list has as many places as there are
-- empty buffers
unfoldable pub lists_test : ℕ → ℤ → List ℕ → List ℤ → List ℤ → List ℤ → Bool
lists_test cap top states free heads chain =
    let w = counts_of cap states free chain in
    eqb w.fine (length states) && eqb (leading heads + leading chain + w.empty) w.fine && spent (spend free w.empty (link_of top))
