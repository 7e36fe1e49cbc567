-- Which buffers hold pages of a file, and whether one of these is pinned.
use Rattle.std.specs.Prelude.{ℕ, Bool, not, ◌&&◌, List, length, get_or}
use Rattle.laws.specs.Every.{any}
use Rattle.buftag.specs.declared.name.FileName.{FileName}
use Rattle.buftag.specs.Name.{same_file}
use Rattle.buftag.specs.Names.{name_at}
use Rattle.bufmodel.specs.Word.{empty, pinned}

-- buffer i holds a page of this file
unfoldable pub held_of : List ℕ → List ℕ → FileName → ℕ → Bool
held_of states names f i = not (empty (get_or states i 0)) && same_file (name_at names i).file f

unfoldable pub pinned_of : List ℕ → List ℕ → FileName → Bool
pinned_of states names f = any (length states) (λ i. held_of states names f i && pinned (get_or states i 0))
