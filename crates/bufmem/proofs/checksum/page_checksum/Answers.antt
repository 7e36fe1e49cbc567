use mathlib.Core.Path.{◌≡◌, ap, ◌∙◌}
use native.Mathlib.Omega.{arith}
use Prim.Native.Nat.{ℕ, ◌+◌, ◌*◌, ◌/◌, ◌%◌}
use lib.Bits.{bit_xor}
use lib.ListN.{length}
use Rattle.bufmodel.specs.Checksum.{bare, checksum, sums}
use Rattle.bufmem.specs.Checksum.{Summed}
use Rattle.bufmodel.proofs.ChecksumLaws.{length-bare}
use Rattle.bufmem.proofs.ChecksumLaws.{summed-start, summed-more, mixed-behind, fold_same}
use Rattle.bufmem.proofs.checksum.page_checksum.Goals as goal

pub loop-row-init : goal.loop-row-init
loop-row-init c =
    let page = c.args.page.now in
    summed-start (bare page) _ (omega (arith, length-bare 0 page, c.requires)) c.mix_first.ensures

pub loop-row-preserved : goal.loop-row-preserved
loop-row-preserved c =
    let l = c.loop-row in
    let page = c.args.page.now in
    summed-more (bare page) _ _ l.row (omega (arith, length-bare 0 page, c.loop-row-test.true)) l.invariant
    (mixed-behind page _ _ (l.row * 128) (omega arith) c.mix_row.ensures)

pub returns : goal.returns
unfolding checksum
returns c =
    let l = c.loop-row in
    let a = c.args in
    let page = bare a.page.now in
    let rows : l.row ≡ length page / 128 = omega (arith, length-bare 0 a.page.now) in
    let all : Summed page (length page / 128) l.sums = rw rows at l.invariant in
    ap (λ (x : ℕ). bit_xor x a.number.0 % 65535 + 1) (c.fold_sums.ensures ∙ fold_same page _ sums (omega arith) all)
