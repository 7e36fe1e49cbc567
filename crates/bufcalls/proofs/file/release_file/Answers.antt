use native.Mathlib.Omega.{arith}
use mathlib.Core.Path.{sym, ◌∙◌, subst}
use Rattle.bufmodel.specs.Memory.{Memory, memory, with_counts}
use Rattle.bufmodel.proofs.GoodLaws.{good_of}
use Rattle.bufcalls.proofs.FileLaws.{Way, way-up-to, file-chained, memory-same}
use Rattle.bufmoves.proofs.WholeLaws.{release-whole}
use Rattle.bufcalls.proofs.FileLaws.{released-none, released-hit, released-miss}
use Rattle.bufcalls.proofs.file.release_file.Goals as goal
use Rattle.bufcalls.proofs.file.release_file.Goals.{then-is_of_file, else-is_of_file}

pub loop-i-init : goal.loop-i-init
loop-i-init c = released-none _ c.args.file

pub is_of_file-requires : goal.is_of_file-requires
is_of_file-requires c =
    let f = c.args.file in
    let w = subst (Way _ f) (sym c.loop-i.invariant) (way-up-to _ f (good_of _ c.requires.0 c.requires.1) c.requires.2 c.loop-i.i (omega arith)) in
    (omega (arith, w.many), w.good.sizes.names)

pub release_buffer-after-requires : goal.release_buffer-after-requires
release_buffer-after-requires c =
    let f = c.args.file in
    let w = subst (Way _ f) (sym c.loop-i.invariant) (way-up-to _ f (good_of _ c.requires.0 c.requires.1) c.requires.2 c.loop-i.i (omega arith)) in
    file-chained _ f c.loop-i.i w.good (omega (arith, w.many)) (sym c.is_of_file.ensures ∙ c.if-is_of_file.true)

pub loop-i-preserved : goal.loop-i-preserved
loop-i-preserved c =
    let a = c.args in
    let l = c.loop-i in
    let d =
    with_counts a.counts.now (memory l.after l.states l.names a.pool.now l.free l.heads l.chain a.rows.now a.store.now) in
    let h = c.is_of_file.ensures in
    elim c.if-is_of_file.branch [
      | then-is_of_file w ↦
          let r = w.release_buffer-after in
          let o : Memory = with_counts d.counts
          (memory r.result r.new.states r.new.names d.pool r.new.free r.new.heads r.new.chain d.rows d.store) in
          memory-same o w.after-is w.states-is w.names-is w.free-is w.heads-is w.chain-is
          ∙ release-whole d l.i _ _ _ _ _ _ r.ensures ∙ released-hit _ a.file l.i d l.invariant (sym h ∙ w.if-is_of_file.true)
      | else-is_of_file w ↦
          memory-same d w.after-is w.states-is w.names-is w.free-is w.heads-is w.chain-is
          ∙ released-miss _ a.file l.i d l.invariant (sym h ∙ w.if-is_of_file.false)
    ]
