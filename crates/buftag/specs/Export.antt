-- What the functions for C leave in the slice that they fill.
use Rattle.std.specs.Prelude.{Bool, cond, ◌&&◌, List, ℕ, eqb, length}
use Rattle.buftag.specs.declared.name.PageName.{PageName}
use Rattle.buftag.specs.Name.{name_size, name_bytes, name_of_bytes}
use Rattle.buftag.specs.Names.{name_words, words_of}

-- whether there are as many bytes as a name has
abbrev pub bytes_fit : List ℕ → Bool
bytes_fit bytes = eqb (length bytes) name_size

-- and as many words
abbrev pub both_fit : List ℕ → List ℕ → Bool
both_fit bytes words = bytes_fit bytes && eqb (length words) name_words

-- `out` filled with the bytes of a name
abbrev pub bytes_into : List ℕ → PageName → List ℕ
bytes_into out n = cond (bytes_fit out) (name_bytes n) out

-- `words` filled with the words of the name that has these bytes
abbrev pub words_into : List ℕ → List ℕ → List ℕ
words_into words bytes = cond (both_fit bytes words) (words_of (name_of_bytes bytes)) words
