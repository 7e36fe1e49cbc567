-- What a search for a page's place answers.
use Rattle.std.specs.Prelude.{ℕ, ◌+◌, cond, List, ltb, Result, Ok, Err}
use Rattle.laws.specs.First.{Found, found, missing}
use Rattle.buftag.specs.declared.name.PageName.{PageName}
use Rattle.bufmodel.specs.Rows.{blocks_at, row_of, start_of}
use Rattle.bufmodel.specs.declared.refusal.Refusal.{Refusal}
use Rattle.bufmodel.specs.declared.refusal.Refusal as refusal
use Rattle.bufmem.specs.declared.place.NoPlace.{NoPlace}
use Rattle.bufmem.specs.declared.place.NoPlace.TheVariants.{NoFile, NoBlock}

-- of block b of the file in the row that was found
unfoldable pub placed_in : List ℕ → ℕ → Found → Result ℕ NoPlace
placed_in rows b (found r) = cond (ltb b (blocks_at rows r)) (Ok (start_of rows r + b)) (Err NoBlock)
placed_in rows b missing = Err NoFile

unfoldable pub placed : List ℕ → PageName → Result ℕ NoPlace
placed rows n = placed_in rows n.block.0 (row_of rows n.file)

-- the place alone
unfoldable pub found_place : Result ℕ NoPlace → Found
found_place (Ok g) = found g
found_place (Err why) = missing

-- what refuses a page that has none
abbrev pub place_refusal : NoPlace → Refusal
place_refusal NoFile = refusal.TheVariants.NoFile
place_refusal NoBlock = refusal.TheVariants.NoBlock
