-- The lent lengths: what their tests say of products, which 64 bits hold.
use Prim.Native.Nat.{ℕ, ◌*◌, ◌/◌, ◌^◌, ◌≤◌, ◌<◌}
use native.Mathlib.Omega.{arith}
use mathlib.Core.Path.{◌≡◌, refl}
use mathlib.Core.Bool.{true}
use mathlib.Core.List.{List}
use lib.ListN.{length}
use Rattle.laws.proofs.Numbers.{below}
use Rattle.bufmodel.specs.Rows.{row_words, files, store_blocks, start_of}
use Rattle.bufmodel.specs.Sizes.{permitted, max_buffers, max_files, sound_rows}
use Rattle.bufmodel.proofs.SizesLaws.{rows-say, permitted-fits}
use Rattle.bufbooks.proofs.TurnsLaws.{tests}

-- few buffers, and few blocks, of a permitted size
pub pool_fits : (n p : ℕ) → n ≤ max_buffers → permitted p ≡ true → n * p < 2 ^ 64
pool_fits n p few h = below 32 (omega arith) (omega (arith, (permitted-fits h).1))

pub store_fits : (rows : List ℕ) (p : ℕ) → sound_rows rows ≡ true → permitted p ≡ true → start_of rows (length rows / row_words) * p < 2 ^ 64
unfolding files store_blocks
store_fits rows p s h = below 32 (omega (arith, ((rows-say rows).holds s).room)) (omega (arith, (permitted-fits h).1))

pub rows_few : (rows : List ℕ) → sound_rows rows ≡ true → length rows / row_words ≤ max_files
unfolding files
rows_few rows s = ((rows-say rows).holds s).few

-- the rows, counted as the code does
pub files_is : (rows : List ℕ) → length rows / row_words ≡ files rows
unfolding files
files_is rows = refl

pub blocks_is : (rows : List ℕ) → start_of rows (length rows / row_words) ≡ store_blocks rows
unfolding files store_blocks
blocks_is rows = refl

pub ruleset rows = (tests, files_is, blocks_is)

pub ruleset sizes = (tests, pool_fits, store_fits, rows_few, blocks_is)
