-- A list walked to its end with a budget: what is left of it.
use Rattle.std.specs.Prelude.{Bool, false, cond, List, ℕ, zero, suc, eqb, ltb, ℤ, length, Option, Some, None}
use Rattle.buftag.specs.declared.link.Link.{Link}
use Rattle.buftag.specs.declared.link.Link.TheVariants.{To, End, Off, Bad}
use Rattle.buftag.specs.Link.{link_at}

-- from a link on, each place takes one from the budget and lies within the memory
unfoldable pub spend : List ℤ → ℕ → Link → Option ℕ
spend ls zero (To i) = None
spend ls zero End = Some 0
spend ls zero Off = None
spend ls zero Bad = None
spend ls (suc k) (To i) = let on = spend ls k (link_at ls i) in cond (ltb i (length ls)) on None
spend ls (suc k) End = Some (suc k)
spend ls (suc k) Off = None
spend ls (suc k) Bad = None

-- nothing is left
abbrev pub spent : Option ℕ → Bool
spent (Some m) = eqb m 0
spent None = false
