-- The check of all chains as the code makes it: each buffer in use is found under its name, an empty one leads nowhere, and as many links
-- lead on, heads and chain links together, as there are buffers in use.
use Rattle.std.specs.Prelude.{Bool, false, not, cond, List, ℕ, eqb, ℤ, length}
use Rattle.laws.specs.Sum.{count}
use Rattle.buftag.specs.declared.link.Link.{Link}
use Rattle.buftag.specs.Lookup.{Held}
use Rattle.std.specs.Prelude.{Some, None}
use Rattle.buftag.specs.Name.{bucket_of}
use Rattle.buftag.specs.Names.{name_at}
use Rattle.buftag.specs.Link.{link_at, is_end}
use Rattle.buftag.specs.Lookup.{used, walk}

-- a look-up found buffer i
abbrev pub is_at : ℕ → Held → Bool
is_at i (Some b) = eqb b.0 i
is_at i None = false

-- buffer i is the first of the chain that starts at a link with its name
unfoldable pub is_first : List ℤ → List ℕ → Link → ℕ → Bool
is_first chain names l i = is_at i (walk chain names (name_at names i) (length chain) l)

-- a look-up of its own name finds buffer i
unfoldable pub finds_itself : List ℕ → List ℤ → List ℤ → ℕ → Bool
finds_itself names heads chain i = is_first chain names (link_at heads (bucket_of (name_at names i) (length heads))) i

unfoldable pub stands : List ℕ → List ℕ → List ℤ → List ℤ → ℕ → Bool
stands words names heads chain i = cond (used words i) (finds_itself names heads chain i) (is_end (link_at chain i))

-- how many links of a list lead on: all but −1
unfoldable pub leading : List ℤ → ℕ
leading ls = count (length ls) (λ i. not (is_end (link_at ls i)))
