use native.Mathlib.Omega.{arith}
use mathlib.Core.Path.{◌≡◌, refl, sym, ◌∙◌}
use Rattle.std.specs.Prelude.{Some, None}
use Rattle.std.proofs.lemmas.Result.{err_from_is_err_and}
use Rattle.bufmodel.specs.declared.refusal.Refusal.TheVariants.{NoFile}
use Rattle.bufmodel.proofs.SizesLaws.{rows-say}
use Rattle.bufmodel.proofs.GoodLaws.{passed-good, good-sized, good-sound}
use Rattle.bufmem.proofs.RowsLaws.{row_at, row-none, row_fits}
use Rattle.bufcalls.proofs.FileLaws.{drop-early, drop-missing, drop-pinned, dropped}
use Rattle.bufcalls.proofs.file.drop_file.Goals as goal

pub returns-in_err-refusal : goal.returns-in_err-refusal
returns-in_err-refusal c =
    let p = err_from_is_err_and c.from_residual.result c.from_residual.ensures.1 in
    rw (p.1, p.2) (let t = drop-early _ _ _ c.in_err-refusal.ensures in
    record { value = t.0; number = t.1; words = t.2; store_after = t.3 })

pub returns-in_err-row : goal.returns-in_err-row
returns-in_err-row c =
    let s : c.find_row.result ≡ None = grind arith in
    let e : c.in_err-row.field-0.0 ≡ NoFile = grind arith in
    let p = err_from_is_err_and c.from_residual-in_err-row.result c.from_residual-in_err-row.ensures.1 in
    rw (p.1, p.2, e) (let t = drop-missing _ _ (passed-good _ c.in_ok-refusal.ensures refl) (row-none _ _ c.find_row.ensures s) in
    record { value = t.0; number = t.1; words = t.2; store_after = t.3 })

pub any_pinned-requires : goal.any_pinned-requires
any_pinned-requires c = (passed-good _ c.in_ok-refusal.ensures refl).sizes.names

pub returns-then-any_pinned : goal.returns-then-any_pinned
returns-then-any_pinned c =
    let s : c.find_row.result ≡ Some c.in_ok-row.row = grind arith in
    let t = drop-pinned _ _ (passed-good _ c.in_ok-refusal.ensures refl) (row_at _ _ c.find_row.ensures s)
    (sym c.any_pinned.ensures ∙ c.if-any_pinned.true) in
    record { value = t.0; number = t.1; words = t.2; store_after = t.3 }

pub release_file-after-requires : goal.release_file-after-requires
release_file-after-requires c =
    let g = passed-good _ c.in_ok-refusal.ensures refl in
    (good-sized _ g, good-sound _ g, sym c.any_pinned.ensures ∙ c.if-any_pinned.false)

pub set_blocks-requires : goal.set_blocks-requires
set_blocks-requires c =
    let s : c.find_row.result ≡ Some c.in_ok-row.row = grind arith in
    let g = passed-good _ c.in_ok-refusal.ensures refl in
    (row_fits _ ((rows-say _).shown g.sizes.rows) _ (row_at _ _ c.find_row.ensures s)).0

pub returns : goal.returns
returns c =
    let s : c.find_row.result ≡ Some c.in_ok-row.row = grind arith in
    let t = dropped _ _ (passed-good _ c.in_ok-refusal.ensures refl) (row_at _ _ c.find_row.ensures s)
    (sym c.any_pinned.ensures ∙ c.if-any_pinned.false) c.release_file-after.ensures c.set_blocks.ensures in
    record { value = t.0; number = t.1; words = t.2; store_after = t.3 }
