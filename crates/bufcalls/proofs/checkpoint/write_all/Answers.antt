use mathlib.Core.List.{List, []}
use mathlib.Core.Path.{◌≡◌, refl, sym, ◌∙◌, ap, subst}
use native.Mathlib.Omega.{arith}
use Prim.Native.Nat.{ℕ, ◌<◌}
use Rattle.bufmodel.specs.declared.control.Control.{Control}
use Rattle.bufmodel.specs.Memory.{Memory, memory, buffers, with_counts}
use Rattle.bufmodel.specs.Moves.{write_back}
use Rattle.bufmoves.proofs.BackLaws.{back-clean}
use Rattle.bufcalls.specs.Checkpoint.{Stored}
use Rattle.bufcalls.proofs.CheckpointLaws.{up_none, up_more, up_to, stored-backed}
use Rattle.bufcalls.proofs.checkpoint.write_all.Goals as goal
use Rattle.bufcalls.proofs.checkpoint.write_all.Goals.{then-is_dirty, else-is_dirty}

pub loop-i-init : goal.loop-i-init
loop-i-init c = up_none _

pub write_back-after-requires : goal.write_back-after-requires
write_back-after-requires c =
    let a = c.args in
    let l = c.loop-i in
    let m = memory a.control a.states.now a.names.now a.pool.now [] [] [] a.rows.now a.store.now in
    let h = memory l.after l.states a.names.now a.pool.now [] [] [] a.rows.now l.store in
    let kept = up_to m c.requires l.i (omega arith) in
    let many : buffers h ≡ buffers m = ap (λ (x : Memory). buffers x) l.invariant ∙ kept.states in
    let inside : l.i < buffers h = omega (arith, many) in
    (stored-backed h (subst (λ (x : Memory). Stored x) (sym l.invariant) kept.stored) l.i inside, inside)

-- a memory with parts that are equal to those of another
same : (d : Memory) {c : Control} {states store : List ℕ} → c ≡ d.control → states ≡ d.states → store ≡ d.store
    → with_counts d.counts (memory c states d.names d.pool d.free d.heads d.chain d.rows store) ≡ d
same d a b c = rw (a, b, c)

pub loop-i-preserved : goal.loop-i-preserved
loop-i-preserved c =
    let a = c.args in
    let l = c.loop-i in
    let h = memory l.after l.states a.names.now a.pool.now [] [] [] a.rows.now l.store in
    let more = ap (λ (x : Memory). write_back x l.i) l.invariant ∙ up_more _ l.i in
    elim c.if-is_dirty.branch [
      | then-is_dirty w ↦
          let r = w.write_back-after in
          let o : Memory = memory r.result r.new.states h.names h.pool [] [] [] h.rows r.new.store in
          same o w.after-is w.states-is w.store-is ∙ r.ensures ∙ more
      | else-is_dirty w ↦
          same h w.after-is w.states-is w.store-is
          ∙ back-clean h.control h.states h.names h.pool h.rows h.store l.i refl (sym c.is_dirty.ensures ∙ w.if-is_dirty.false)
          ∙ more
    ]
