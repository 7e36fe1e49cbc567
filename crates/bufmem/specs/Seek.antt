-- A page's place in the store, or what refuses its name.
use Rattle.std.specs.Prelude.{ℕ, List, Result, Ok, Err}
use Rattle.buftag.specs.declared.name.PageName.{PageName}
use Rattle.bufmodel.specs.declared.refusal.Refusal.{Refusal}
use Rattle.bufmem.specs.declared.place.NoPlace.{NoPlace}
use Rattle.bufmem.specs.Place.{placed, place_refusal}

abbrev pub sought_at : Result ℕ NoPlace → Result ℕ Refusal
sought_at (Ok g) = Ok g
sought_at (Err why) = Err (place_refusal why)

unfoldable pub sought : List ℕ → PageName → Result ℕ Refusal
sought rows n = sought_at (placed rows n)
