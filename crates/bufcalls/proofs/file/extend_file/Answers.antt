use Prim.Native.Nat.{ℕ}
use native.Mathlib.Omega.{arith}
use mathlib.Core.Path.{◌≡◌, refl, sym, ap, ◌∙◌}
use lib.ListN.{replicate}
use Rattle.std.specs.Prelude.{Some, None}
use Rattle.std.proofs.lemmas.Result.{err_from_is_err_and}
use Rattle.laws.specs.Block.{put_block}
use Rattle.laws.proofs.Block.{block_in}
use Rattle.bufmodel.specs.declared.refusal.Refusal.TheVariants.{NoFile}
use Rattle.bufmodel.specs.Rows.{store_blocks}
use Rattle.bufmodel.proofs.SizesLaws.{rows-say}
use Rattle.bufmodel.proofs.GoodLaws.{passed-good}
use Rattle.bufmem.proofs.RowsLaws.{row_at, row-none, row_fits}
use Rattle.bufcalls.proofs.FileLaws.{extend-early, extend-missing, extend-full, next-less, next-in, extended-more}
use Rattle.bufcalls.proofs.file.extend_file.Goals as goal

pub returns-in_err-refusal : goal.returns-in_err-refusal
returns-in_err-refusal c =
    let p = err_from_is_err_and c.from_residual.result c.from_residual.ensures.1 in
    rw (p.1, p.2) (let t = extend-early _ _ _ c.in_err-refusal.ensures in
    record { value = t.0; number = t.1; words = t.2; store_after = t.3 })

pub returns-in_err-row : goal.returns-in_err-row
returns-in_err-row c =
    let s : c.find_row.result ≡ None = grind arith in
    let e : c.in_err-row.field-0.0 ≡ NoFile = grind arith in
    let p = err_from_is_err_and c.from_residual-in_err-row.result c.from_residual-in_err-row.ensures.1 in
    rw (p.1, p.2, e) (let t = extend-missing _ _ (passed-good _ c.in_ok-refusal.ensures refl) (row-none _ _ c.find_row.ensures s) in
    record { value = t.0; number = t.1; words = t.2; store_after = t.3 })

pub blocks_at-blocks-requires : goal.blocks_at-blocks-requires
blocks_at-blocks-requires c =
    let s : c.find_row.result ≡ Some c.in_ok-row.row = grind arith in
    let g = passed-good _ c.in_ok-refusal.ensures refl in
    (row_fits _ ((rows-say _).shown g.sizes.rows) _ (row_at _ _ c.find_row.ensures s)).0

pub capacity_at-requires : goal.capacity_at-requires
capacity_at-requires c =
    let s : c.find_row.result ≡ Some c.in_ok-row.row = grind arith in
    let g = passed-good _ c.in_ok-refusal.ensures refl in
    (row_fits _ ((rows-say _).shown g.sizes.rows) _ (row_at _ _ c.find_row.ensures s)).0

pub returns-then-blocks-capacity_at : goal.returns-then-blocks-capacity_at
returns-then-blocks-capacity_at c =
    let s : c.find_row.result ≡ Some c.in_ok-row.row = grind arith in
    let t = extend-full _ _ (passed-good _ c.in_ok-refusal.ensures refl) (row_at _ _ c.find_row.ensures s)
    (sym c.blocks_at-blocks.ensures ∙ c.if-blocks-capacity_at.true ∙ c.capacity_at.ensures) in
    record { value = t.0; number = t.1; words = t.2; store_after = t.3 }

pub block_place-requires : goal.block_place-requires
block_place-requires c =
    let s : c.find_row.result ≡ Some c.in_ok-row.row = grind arith in
    let g = passed-good _ c.in_ok-refusal.ensures refl in
    let f = row_fits _ ((rows-say _).shown g.sizes.rows) _ (row_at _ _ c.find_row.ensures s) in
    (omega (arith, f.0), f.1, f.2)

pub clear_block-requires : goal.clear_block-requires
clear_block-requires c =
    let s : c.find_row.result ≡ Some c.in_ok-row.row = grind arith in
    let g = passed-good _ c.in_ok-refusal.ensures refl in
    let n = c.blocks_at-blocks in
    let room = next-in _ _ g (row_at _ _ c.find_row.ensures s)
    (λ e. c.if-blocks-capacity_at.false (n.ensures ∙ e ∙ sym c.capacity_at.ensures)) in
    block_in _ (store_blocks c.args.rows.now) c.block_place.result c.args.store.now g.sizes.store
    (omega (arith, c.block_place.ensures, n.ensures, room))

pub overflow_add-blocks : goal.overflow_add-blocks
overflow_add-blocks c =
    let s : c.find_row.result ≡ Some c.in_ok-row.row = grind arith in
    let g = passed-good _ c.in_ok-refusal.ensures refl in
    let n = c.blocks_at-blocks in
    let less = next-less _ _ g (row_at _ _ c.find_row.ensures s)
    (λ e. c.if-blocks-capacity_at.false (n.ensures ∙ e ∙ sym c.capacity_at.ensures)) in
    omega (arith, n.ensures, c.capacity_at.ensures, c.capacity_at.type_inv, less)

pub set_blocks-requires : goal.set_blocks-requires
set_blocks-requires c =
    let s : c.find_row.result ≡ Some c.in_ok-row.row = grind arith in
    let g = passed-good _ c.in_ok-refusal.ensures refl in
    (row_fits _ ((rows-say _).shown g.sizes.rows) _ (row_at _ _ c.find_row.ensures s)).0

pub returns : goal.returns
returns c =
    let s : c.find_row.result ≡ Some c.in_ok-row.row = grind arith in
    let g = passed-good _ c.in_ok-refusal.ensures refl in
    let n = c.blocks_at-blocks in
    let size = c.args.control.size in
    let t = extended-more _ _ g (row_at _ _ c.find_row.ensures s)
    (λ e. c.if-blocks-capacity_at.false (n.ensures ∙ e ∙ sym c.capacity_at.ensures)) n.ensures c.set_blocks.ensures
    (c.clear_block.ensures ∙ ap (λ (s : ℕ). put_block size s (replicate size 0) c.args.store.now) c.block_place.ensures) in
    record { value = t.0; number = t.1; words = t.2; store_after = t.3 }
