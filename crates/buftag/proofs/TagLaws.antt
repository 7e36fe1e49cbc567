-- A link of which a match says that it is no `To`.
use mathlib.Core.Path.{◌≡◌, refl}
use mathlib.Core.Bool.{false}
use Prim.Native.Nat.{ℕ}
use Rattle.buftag.specs.declared.link.Link.{Link}
use Rattle.buftag.specs.declared.link.Link.TheVariants.{To, End, Off, Bad}
use Rattle.buftag.specs.Link.{is_to}

-- a link that leads to no place
abbrev pub NotTo : Link → Type 0
NotTo l = (k : ℕ) → l ≡ To k → ⊥

-- so such a link leads to no place
pub is_to-other : (i : ℕ) (l : Link) → NotTo l → is_to i l ≡ false
is_to-other i (To j) h = absurd (h _ refl)
is_to-other i End h = refl
is_to-other i Off h = refl
is_to-other i Bad h = refl
