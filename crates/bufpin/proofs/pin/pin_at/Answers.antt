use native.Mathlib.Omega.{arith}
use mathlib.Core.Path.{sym, ◌∙◌}
use mathlib.Core.List.{[]}
use Rattle.std.proofs.lemmas.Result.{err_from_is_err_and}
use Rattle.laws.proofs.Block.{block_in}
use Rattle.bufmodel.specs.Books.{empty_at}
use Rattle.bufmodel.proofs.RowsLaws.{place-in}
use Rattle.bufmodel.proofs.SizesLaws.{sized-least}
use Rattle.bufmodel.proofs.CountLaws.{first-room}
use Rattle.bufmodel.proofs.GoodLaws.{good_of}
use Rattle.bufmodel.proofs.HeldLaws.{held_at}
use Rattle.bufmem.proofs.SeekLaws.{name-at}
use Rattle.bufpin.proofs.PinLaws.{pin-held, pin-differs, pin-new}
use Rattle.bufpin.proofs.SeenLaws.{seen-good, seen-held, seen-passes, seen-place, same-loans}
use Rattle.bufpin.proofs.pin.pin_at.Goals as goal

pub look_up-requires : goal.look_up-requires
look_up-requires c =
    let z = (seen-good c.view-seen.ensures (good_of _ c.requires.0 c.requires.1)).sizes in
    (omega (arith, z.least, z.wide), omega (arith, z.names, z.chain))

pub passes_block-requires : goal.passes_block-requires
passes_block-requires c =
    let k = seen-good c.view-seen.ensures (good_of _ c.requires.0 c.requires.1) in
    let place = (name-at _ c.args.wanted.name [] c.requires.2).0 in
    let l = place-in _ k.sizes.rows c.args.wanted.name (seen-place c.view-seen.ensures c.args.wanted.name ∙ place) in
    (omega (arith, sized-least k.sizes), block_in _ _ _ _ k.sizes.store l)

pub returns-then-not-passes_block : goal.returns-then-not-passes_block
returns-then-not-passes_block c =
    let k = good_of _ c.requires.0 c.requires.1 in
    let e = c.view-seen.ensures in
    let none = sym (seen-held e k c.args.wanted.name) ∙ sym c.look_up.ensures ∙ c.in_default.is in
    let differs = sym (seen-passes e c.args.wanted.name c.args.wanted.place) ∙ sym c.passes_block.ensures ∙ c.if-not-passes_block.true in
    let t = pin-differs _ c.args.wanted.holder.0 c.args.wanted.name k c.args.wanted.few c.requires.2 none differs in
    record { value = t.0; store_after = t.1; same_loans = same-loans c.args.lent.now }

pub pin_new-requires : goal.pin_new-requires
pin_new-requires c =
    (c.requires.0, c.requires.1, (name-at _ c.args.wanted.name [] c.requires.2).0)

pub returns-in_default : goal.returns-in_default
returns-in_default c =
    let k = good_of _ c.requires.0 c.requires.1 in
    let e = c.view-seen.ensures in
    let none = sym (seen-held e k c.args.wanted.name) ∙ sym c.look_up.ensures ∙ c.in_default.is in
    let passes = sym (seen-passes e c.args.wanted.name c.args.wanted.place) ∙ sym c.passes_block.ensures ∙ c.if-not-passes_block.false in
    rw (pin-new _ c.args.wanted.holder.0 c.args.wanted.name k c.args.wanted.few c.requires.2 none passes) c.pin_new.ensures

pub pin_held-requires : goal.pin_held-requires
unfolding empty_at
pin_held-requires c =
    let k = good_of _ c.requires.0 c.requires.1 in
    let b = c.in-Some.buffer in
    let counts = c.args.lent.now.counts.now in
    let at = held_at _ c.args.wanted.name b (sym (seen-held c.view-seen.ensures k c.args.wanted.name) ∙ sym c.in-Some.ensures) in (
      at.0,
      k.books.words b.0 at.0,
      at.1,
      k.books.cap.1,
      omega (arith, k.sizes.counts, at.0, c.args.wanted.few),
      λ z. omega (arith, first-room counts b.0 c.args.wanted.holder.0 c.args.wanted.few z, k.books.counts b.0 at.0),
    )

pub returns-in_err-answer : goal.returns-in_err-answer
returns-in_err-answer c =
    let p = err_from_is_err_and c.from_residual.result c.from_residual.ensures.1 in
    let k = good_of _ c.requires.0 c.requires.1 in
    let held = sym (seen-held c.view-seen.ensures k c.args.wanted.name) ∙ sym c.in-Some.ensures in
    let e = pin-held _ c.args.wanted.holder.0 c.args.wanted.name k c.args.wanted.few c.requires.2 c.in-Some.buffer held in
    let o = c.in_err-answer.ensures in
    let same = same-loans c.args.lent.now in
    rw (p.1, p.2) (record { value = o.value ∙ e.0; store_after = rw (o.states_after, o.counts_after) e.1; same_loans = same })

pub returns : goal.returns
returns c =
    let k = good_of _ c.requires.0 c.requires.1 in
    let held = sym (seen-held c.view-seen.ensures k c.args.wanted.name) ∙ sym c.in-Some.ensures in
    let e = pin-held _ c.args.wanted.holder.0 c.args.wanted.name k c.args.wanted.few c.requires.2 c.in-Some.buffer held in
    let o = c.in_ok-answer.ensures in
    record { value = o.value ∙ e.0; store_after = rw (o.states_after, o.counts_after) e.1; same_loans = same-loans c.args.lent.now }
