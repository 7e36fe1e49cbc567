-- Which buffer has a page: the answer, and the walk of a bucket that looks for it.
use Rattle.std.specs.Prelude.{Bool, not, ◌&&◌, cond, List, ℕ, zero, suc, ltb, eqb, ℤ, length, get_or, Option, Some, None}
use Rattle.laws.specs.First.{Found, found, missing, first}
use Rattle.buftag.specs.declared.name.PageName.{PageName}
use Rattle.buftag.specs.declared.link.Link.{Link}
use Rattle.buftag.specs.declared.link.Link.TheVariants.{To, End, Off, Bad}
use Rattle.buftag.specs.declared.number.BufferNumber.{BufferNumber}
use Rattle.buftag.specs.Name.{bucket_of, same_name}
use Rattle.buftag.specs.Names.{name_at}
use Rattle.buftag.specs.Link.{link_at}

-- the buffer that has a page, or that none has
abbrev pub Held : Type 0
Held = Option BufferNumber

-- a buffer is in use unless its state word is 0
abbrev pub used : List ℕ → ℕ → Bool
used words i = not (eqb (get_or words i 0) 0)

abbrev pub held_of : Found → Held
held_of (found i) = Some (record { 0 = i })
held_of missing = None

-- the buffer in use that has this name, or that none has
unfoldable pub held : List ℕ → List ℕ → PageName → Held
held words names n = held_of (first (length words) (λ i. used words i && same_name (name_at names i) n))

-- ---- what the code does, for any memory
-- from a link on, in so many steps at most: the first buffer with the name. A link that is no buffer's number ends the walk
unfoldable pub walk : List ℤ → List ℕ → PageName → ℕ → Link → Held
walk chain names n zero l = None
walk chain names n (suc k) (To i) =
    let on = walk chain names n k (link_at chain i) in
    let here = cond (same_name (name_at names i) n) (Some (record { 0 = i })) on in
    cond (ltb i (length chain)) here None
walk chain names n (suc k) End = None
walk chain names n (suc k) Off = None
walk chain names n (suc k) Bad = None

-- from the head of the name's bucket on
unfoldable pub look_up : List ℤ → List ℤ → List ℕ → PageName → Held
look_up heads chain names n = walk chain names n (length chain) (link_at heads (bucket_of n (length heads)))
