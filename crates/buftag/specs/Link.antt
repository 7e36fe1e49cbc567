-- Lists kept as links, 32-bit signed numbers in lent memory: which places a list leads through.
use Rattle.std.specs.Prelude.{◌≡◌, Bool, true, false, ◌&&◌, List, [], ◌∷◌, ℕ, zero, suc, ◌<◌, eqb, ltb, ℤ, pos, negsuc, length, get_or}
use Rattle.laws.specs.Every.{all}
use Rattle.laws.specs.Sum.{ind}
use Rattle.laws.specs.Times.{times}
use Rattle.buftag.specs.declared.link.Link.{Link}
use Rattle.buftag.specs.declared.link.Link.TheVariants.{To, End, Off, Bad}

-- −1 ends a list, −2 is the link of a place in no list, another negative number is no link, any other is a place
abbrev pub link_of : ℤ → Link
link_of (pos i) = To i
link_of (negsuc zero) = End
link_of (negsuc (suc zero)) = Off
link_of (negsuc (suc (suc k))) = Bad

-- −1 as a number
abbrev pub none : ℤ
none = negsuc 0

-- the number at a place
abbrev pub number_at : List ℤ → ℕ → ℤ
number_at ls i = get_or ls i (pos 0)

-- what the link at a place says
abbrev pub link_at : List ℤ → ℕ → Link
link_at ls i = link_of (number_at ls i)

abbrev pub is_end : Link → Bool
is_end (To i) = false
is_end End = true
is_end Off = false
is_end Bad = false

-- whether a link leads to place i
abbrev pub is_to : ℕ → Link → Bool
is_to i (To j) = eqb j i
is_to i End = false
is_to i Off = false
is_to i Bad = false

-- from a link on, the links lead through the places of the list, each within the memory, and end at −1
pub data Links (ls : List ℤ) : Link → List ℕ → Type 0 where
  done : Links ls End []
  step : {i : ℕ} {is : List ℕ} → i < length ls → Links ls (link_at ls i) is → Links ls (To i) (i ∷ is)

-- the list that starts at a link holds exactly the places that pass a test, once
pub record Holds (ls : List ℤ) (l : Link) (ok : ℕ → Bool) : Type 0 where
  pub list : List ℕ
  pub linked : Links ls l list
  pub once : (k : ℕ) → k < length ls → times k list ≡ ind (ok k)

-- ---- the same as a test
-- the list ends within so many steps
unfoldable pub ends : List ℤ → ℕ → Link → Bool
ends ls zero (To i) = false
ends ls zero End = true
ends ls zero Off = false
ends ls zero Bad = false
ends ls (suc k) (To i) = ltb i (length ls) && ends ls k (link_at ls i)
ends ls (suc k) End = true
ends ls (suc k) Off = false
ends ls (suc k) Bad = false

-- its places, so many at most
unfoldable pub members : List ℤ → ℕ → Link → List ℕ
members ls zero l = []
members ls (suc k) (To i) = i ∷ members ls k (link_at ls i)
members ls (suc k) End = []
members ls (suc k) Off = []
members ls (suc k) Bad = []

unfoldable pub holds_test : List ℤ → Link → (ℕ → Bool) → Bool
holds_test ls l ok = ends ls (length ls) l && all (length ls) (λ k. eqb (times k (members ls (length ls) l)) (ind (ok k)))
