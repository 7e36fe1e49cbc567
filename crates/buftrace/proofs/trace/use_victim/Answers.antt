use native.Mathlib.Omega.{arith}
use Rattle.buftrace.proofs.TraceLaws.{somebody, taken, taken-use}
use Rattle.buftrace.proofs.trace.use_victim.Goals as goal

pub unwrap-victim-requires : goal.unwrap-victim-requires
unwrap-victim-requires c = somebody c.requires.fit c.requires.used_value.0 c.requires.used_value.1 c.sweep.ensures.value

pub offset_bounds-held-v : goal.offset_bounds-held-v
offset_bounds-held-v c =
    let p = c.requires in
    omega (arith, (taken p.fit p.used_value.0 p.used_value.1 c.sweep.ensures.value c.unwrap-victim.ensures).0)

pub bounds-held-v : goal.bounds-held-v
bounds-held-v c =
    let p = c.requires in
    omega (arith, (taken p.fit p.used_value.0 p.used_value.1 c.sweep.ensures.value c.unwrap-victim.ensures).0)

pub put_block-requires-clause-i_lt_max_buffers : goal.put_block-requires-clause-i_lt_max_buffers
put_block-requires-clause-i_lt_max_buffers c =
    let p = c.requires in
    ((taken p.fit p.used_value.0 p.used_value.1 c.sweep.ensures.value c.unwrap-victim.ensures).0, p.used_value.2)

pub load_more-requires : goal.load_more-requires
load_more-requires c =
    let p = c.requires in
    let t = taken p.fit p.used_value.0 p.used_value.1 c.sweep.ensures.value c.unwrap-victim.ensures in
    (omega (arith, p.used_value.3), omega (arith, p.fit.probes, p.used_value.3, t.2))

pub returns : goal.returns
returns c =
    let p = c.requires in
    let o = c.put_block.ensures in
    let u = taken-use p.fit p.used_value.0 p.used_value.1 c.sweep.ensures.value c.unwrap-victim.ensures c.args.block p.used_value.2
    p.block_value _ _ _ _ _ _ c.sweep.ensures.states_after c.from.ensures c.load_more.ensures o.states_after o.held_after o.place_after in
    record { held_after = u.0; fit_2 = u.1.0; totals_value = u.1.1 }
