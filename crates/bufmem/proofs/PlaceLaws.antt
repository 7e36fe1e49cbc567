-- The place that the code answers is the model's.
use Prim.Native.Nat.{ℕ}
use mathlib.Core.Path.{◌≡◌, refl}
use mathlib.Core.Bool.{Bool, true, false, cond}
use mathlib.Core.List.{List}
use lib.Dec.{ltb}
use Rattle.laws.specs.First.{Found, found, missing}
use Rattle.buftag.specs.declared.name.PageName.{PageName}
use Rattle.bufmodel.specs.Rows.{blocks_at, row_of, place_in, place_of}
use Rattle.std.specs.Prelude.{Result, Ok, Err}
use Rattle.bufmem.specs.declared.place.NoPlace.{NoPlace}
use Rattle.bufmem.specs.declared.place.NoPlace.TheVariants.{NoBlock}
use Rattle.bufmem.specs.Place.{placed_in, placed, found_place}

-- of a block that the file has, or has not
has-or-not : (t : Bool) (g : ℕ) → found_place (cond t (Ok g) (Err NoBlock)) ≡ cond t (found g) missing
unfolding found_place
has-or-not true g = refl
has-or-not false g = refl

found_in : (rows : List ℕ) (b : ℕ) (f : Found) → found_place (placed_in rows b f) ≡ place_in rows b f
unfolding found_place placed_in place_in
found_in rows b (found r) = has-or-not (ltb b (blocks_at rows r)) _
found_in rows b missing = refl

pub found-placed : (rows : List ℕ) (n : PageName) → found_place (placed rows n) ≡ place_of rows n
unfolding placed place_of
found-placed rows n = found_in rows n.block.0 (row_of rows n.file)

-- an answer of which a match says that it is no `Ok`
pub found-other : (p : Result ℕ NoPlace) → ((g : ℕ) → p ≡ Ok g → ⊥) → found_place p ≡ missing
unfolding found_place
found-other (Ok g) h = absurd (h g refl)
found-other (Err why) h = refl
