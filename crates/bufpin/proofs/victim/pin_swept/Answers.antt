use native.Mathlib.Omega.{arith}
use mathlib.Core.Path.{◌≡◌, sym, ap, ◌∙◌}
use Rattle.std.proofs.Common.{w32, to_z, of_z, rules}
use Rattle.std.proofs.lemmas.Result.{err_from_is_err_and}
use Rattle.std.specs.Prelude.{Ok}
use Rattle.bufmodel.specs.declared.refusal.Refusal.TheVariants.{AllPinned}
use Rattle.bufmodel.proofs.GoodLaws.{good_of}
use Rattle.bufpin.proofs.VictimLaws.{victim-at, victim-none, swept-refused, swept-still, swept-asks, swept-answer, swept-after}
use Rattle.bufpin.proofs.SeenLaws.{same-loans}
use Rattle.bufpin.proofs.victim.pin_swept.Goals as goal

pub sweep-requires : goal.sweep-requires
sweep-requires c =
    let k = good_of _ c.requires.0 c.requires.1 in
    (k.books.hand, k.sizes.most, omega (arith, k.books.cap.1))

pub returns-in_err-buffer : goal.returns-in_err-buffer
returns-in_err-buffer c =
    let p = err_from_is_err_and c.from_residual.result c.from_residual.ensures.1 in
    let all = c.in_err-buffer.ensures in
    let e = victim-none _ (sym all.ok_part ∙ c.sweep.ensures.value) in
    let r = rw all.ok_part at all.value in
    let q : c.in_err-buffer.field-0.0 ≡ AllPinned = cc in
    let k = good_of _ c.requires.0 c.requires.1 in
    rw (p.1, p.2, q)
    (record {
      value = swept-refused _ k c.args.wanted.holder.0 c.args.wanted.name e;
      store_after = swept-still _ k c.args.wanted.holder.0 c.args.wanted.name e c.sweep.ensures.states_after;
      same_loans = same-loans c.args.lent.now;
    })

pub pin_victim-requires : goal.pin_victim-requires
pin_victim-requires c =
    let top : to_z w32 (of_z w32 c.args.control.top) ≡ c.args.control.top = search rules in
    let e = victim-at _ (sym c.in_ok-buffer.ensures.ok_part ∙ c.sweep.ensures.value) in
    let k = good_of _ c.requires.0 c.requires.1 in
    let a = swept-asks _ k c.args.wanted.holder.0 c.args.wanted.name e.0 e.1 c.sweep.ensures.states_after c.requires.3 in
    rw top (a.0, a.1, a.2, a.3, a.4, c.requires.2)

pub returns : goal.returns
returns c =
    let top : to_z w32 (of_z w32 c.args.control.top) ≡ c.args.control.top = search rules in
    let e = victim-at _ (sym c.in_ok-buffer.ensures.ok_part ∙ c.sweep.ensures.value) in
    let k = good_of _ c.requires.0 c.requires.1 in
    let q = c.sweep.ensures.states_after in
    let h = c.args.wanted.holder.0 in
    let o = c.pin_victim.ensures in record {
      value = ap Ok o.answer ∙ swept-answer _ k h c.args.wanted.name e.0 e.1 q e.2;
      same_loans = o.same_loans;
      store_after = rw (← (swept-after _ k h c.args.wanted.name e.0 e.1 q)) (rw top at o.store_after);
    }
