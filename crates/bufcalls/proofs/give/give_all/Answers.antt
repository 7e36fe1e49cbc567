use native.Mathlib.Omega.{arith}
use mathlib.Core.Path.{sym, ◌∙◌, ap, subst}
use Rattle.bufmodel.specs.Memory.{Memory}
use Rattle.bufmodel.specs.Calls.{give_at}
use Rattle.bufcalls.specs.Give.{pins_part}
use Rattle.bufcalls.proofs.GiveLaws.{Way, give-none, give-more, way-up-to, next-asked}
use Rattle.bufcalls.proofs.give.give_all.Goals as goal

pub loop-i-init : goal.loop-i-init
loop-i-init c = give-none _ _

pub give_at-requires : goal.give_at-requires
give_at-requires c =
    let a = c.args in
    let m = pins_part a.states.now a.counts.now in
    let way : Way m a.holder.0 c.loop-i.i (pins_part c.loop-i.states c.loop-i.counts) =
    subst (Way m a.holder.0 c.loop-i.i) (sym c.loop-i.invariant) (way-up-to m a.holder.0 c.requires c.loop-i.i (omega arith)) in
    next-asked m a.holder.0 c.requires c.loop-i.i _ way (omega arith)

pub loop-i-preserved : goal.loop-i-preserved
loop-i-preserved c =
    let h = c.args.holder.0 in
    let i = c.loop-i.i in
    c.give_at.ensures ∙ ap (λ (x : Memory). give_at x h i) c.loop-i.invariant ∙ give-more _ h i
