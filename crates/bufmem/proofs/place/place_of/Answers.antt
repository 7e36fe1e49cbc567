use native.Mathlib.Omega.{arith}
use mathlib.Core.Path.{◌≡◌}
use Rattle.std.specs.Prelude.{Some}
use Rattle.bufmem.proofs.RowsLaws.{row_at, row_fits}
use Rattle.bufmem.proofs.place.place_of.Goals as goal

pub has_block-requires : goal.has_block-requires
has_block-requires c =
    let s : c.find_row.result ≡ Some c.in_ok-row.row = grind arith in
    (row_fits _ c.requires _ (row_at _ _ c.find_row.ensures s)).0

pub block_place-requires : goal.block_place-requires
block_place-requires c =
    let s : c.find_row.result ≡ Some c.in_ok-row.row = grind arith in
    let f = row_fits _ c.requires _ (row_at _ _ c.find_row.ensures s) in
    (omega (arith, f.0), f.1, f.2)
