use native.Mathlib.Omega.{arith}
use Rattle.bufmoves.proofs.WholeLaws.{back_whole, release-whole, load-whole, good-backed, good-chained, good-lodged}
use Rattle.bufpin.proofs.TakenLaws.{taken-of, back-taken, release-taken, load-taken}
use Rattle.bufpin.proofs.victim.pin_victim.Goals as goal

pub write_back-written-requires : goal.write_back-written-requires
write_back-written-requires c =
    let q = c.requires in
    let t = taken-of _ _ q.0 q.1 q.2 q.3 q.4 in
    (good-backed _ t.good _ t.below, t.below)

pub release_buffer-freed-requires : goal.release_buffer-freed-requires
release_buffer-freed-requires c =
    let q = c.requires in
    let t = taken-of _ _ q.0 q.1 q.2 q.3 q.4 in
    let u = back-taken _ _ t (back_whole _ _ _ _ _ c.write_back-written.ensures) in
    good-chained _ u.good _ u.below u.full

pub load_page-after-requires : goal.load_page-after-requires
load_page-after-requires c =
    let q = c.requires in
    let t = taken-of _ _ q.0 q.1 q.2 q.3 q.4 in
    let u = back-taken _ _ t (back_whole _ _ _ _ _ c.write_back-written.ensures) in
    let v = release-taken _ _ u (release-whole _ _ _ _ _ _ _ _ c.release_buffer-freed.ensures) in
    good-lodged _ v.0 _ v.1 c.args.wanted.name c.args.wanted.place q.5

pub put_count-requires : goal.put_count-requires
put_count-requires c =
    let q = c.requires in
    let t = taken-of _ _ q.0 q.1 q.2 q.3 q.4 in
    omega (arith, t.good.sizes.counts, q.2, c.args.wanted.few)

pub returns-clause-store_after : goal.returns-clause-store_after
returns-clause-store_after c =
    let q = c.requires in
    let t = taken-of _ _ q.0 q.1 q.2 q.3 q.4 in
    load-taken _ c.args.wanted.name c.args.victim.0 c.args.wanted.place q.5 (back_whole _ _ _ _ _ c.write_back-written.ensures)
    (release-whole _ _ _ _ _ _ _ _ c.release_buffer-freed.ensures)
    (load-whole _ _ _ _ c.args.wanted.name c.args.wanted.place _ _ _ _ _ c.load_page-after.ensures)
    c.put_count.ensures
