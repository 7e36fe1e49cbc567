-- The buffers' names as they lie in lent memory: five words each.
use Rattle.std.specs.Prelude.{List, [], ◌∷◌, ℕ, ◌+◌, ◌*◌, get_or}
use Rattle.std.proofs.lemmas.List.Edits.{sets}
use Rattle.buftag.specs.declared.name.PageName.{PageName}
use Rattle.buftag.specs.Name.{name_of}

-- the number of words of a name
abbrev pub name_words : ℕ
name_words = 5

-- the words of a name
abbrev pub words_of : PageName → List ℕ
words_of n = n.file.tablespace ∷ n.file.database ∷ n.file.relation ∷ n.file.fork ∷ n.block.0 ∷ []

-- the name of buffer i
abbrev pub name_at : List ℕ → ℕ → PageName
name_at ws i =
    let at = name_words * i in
    name_of (get_or ws at 0) (get_or ws (at + 1) 0) (get_or ws (at + 2) 0) (get_or ws (at + 3) 0) (get_or ws (at + 4) 0)

-- the names with another for buffer i
abbrev pub set_name : List ℕ → ℕ → PageName → List ℕ
set_name ws i n = sets ws (name_words * i) (words_of n)

-- an empty buffer's name
abbrev pub no_name : PageName
no_name = name_of 0 0 0 0 0
