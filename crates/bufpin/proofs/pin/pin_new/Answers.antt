use native.Mathlib.Omega.{arith}
use mathlib.Core.Path.{◌≡◌, ap, sym, ◌∙◌}
use Rattle.std.specs.Prelude.{Ok}
use Rattle.std.proofs.Common.{w32, to_z, of_z, rules}
use Rattle.bufmodel.specs.Pin.{pin_new}
use Rattle.bufmodel.proofs.GoodLaws.{good_of}
use Rattle.bufmodel.proofs.FreeListLaws.{top-empty}
use Rattle.bufmoves.proofs.WholeLaws.{load-whole, good-lodged}
use Rattle.bufpin.proofs.NewLaws.{top-ends, new-answer, new-after}
use Rattle.bufpin.proofs.SeenLaws.{same-loans}
use Rattle.bufpin.proofs.pin.pin_new.Goals as goal

pub pin_swept-requires : goal.pin_swept-requires
pin_swept-requires c =
    let top : to_z w32 (of_z w32 c.args.control.top) ≡ c.args.control.top = search rules in
    let end = top-ends _ (good_of _ c.requires.0 c.requires.1) _ (rw top at c.from.ensures) c.in_default.not-To in
    (c.requires.0, c.requires.1, c.requires.2, end)

pub returns-in_default : goal.returns-in_default
unfolding pin_new
returns-in_default c =
    let top : to_z w32 (of_z w32 c.args.control.top) ≡ c.args.control.top = search rules in
    let end = top-ends _ (good_of _ c.requires.0 c.requires.1) _ (rw top at c.from.ensures) c.in_default.not-To in
    rw end c.pin_swept.ensures

pub load_page-after-requires : goal.load_page-after-requires
load_page-after-requires c =
    let top : to_z w32 (of_z w32 c.args.control.top) ≡ c.args.control.top = search rules in
    let k = good_of _ c.requires.0 c.requires.1 in
    let l = (top-empty _ k c.in-To.i (sym (rw top at c.in-To.ensures))).0 in
    good-lodged _ k c.in-To.i l c.args.wanted.name c.args.wanted.place c.requires.2

pub put_count-requires : goal.put_count-requires
put_count-requires c =
    let top : to_z w32 (of_z w32 c.args.control.top) ≡ c.args.control.top = search rules in
    let k = good_of _ c.requires.0 c.requires.1 in
    let l = (top-empty _ k c.in-To.i (sym (rw top at c.in-To.ensures))).0 in
    omega (arith, k.sizes.counts, l, c.args.wanted.few)

pub returns : goal.returns
returns c =
    let top : to_z w32 (of_z w32 c.args.control.top) ≡ c.args.control.top = search rules in
    let t = sym (rw top at c.in-To.ensures) in
    let o = load-whole _ c.in-To.i _ _ c.args.wanted.name c.args.wanted.place _ _ _ _ _ c.load_page-after.ensures in record {
      value = ap Ok c.loaded.ensures ∙ new-answer _ c.args.wanted.holder.0 c.args.wanted.name c.in-To.i t;
      same_loans = same-loans c.args.lent.now;
      store_after = new-after _ c.args.wanted.holder.0 c.args.wanted.name c.in-To.i t c.args.wanted.place c.requires.2 o c.put_count.ensures;
    }
