use native.Mathlib.Omega.{arith}
use mathlib.Core.Path.{sym, ◌∙◌}
use Rattle.buftrace.proofs.TraceLaws.{held-use, free-use}
use Rattle.buftrace.proofs.trace.use_block.Goals as goal

pub returns-then-at-ne0 : goal.returns-then-at-ne0
returns-then-at-ne0 c =
    let o = c.use_held.ensures in
    let t = held-use c.requires.fit c.args.block c.requires.n_nonzero.1 (omega (arith, c.from-at.ensures)) _ _ _ c.from-at.ensures o.value
    o.states_after in
    record { held_after = t.0; fit_2 = t.1.0; totals_value = t.1.1 }

pub returns-then-c-n : goal.returns-then-c-n
returns-then-c-n c =
    let o = c.use_free.ensures in
    let t = free-use c.requires.fit c.args.block c.requires.n_nonzero.1 (sym c.from-at.ensures ∙ c.if-at-ne0.false) c.if-c-n.true _ _ _ _
    o.value o.states_after o.held_after o.place_after in
    record { held_after = t.0; fit_2 = t.1.0; totals_value = t.1.1 }
