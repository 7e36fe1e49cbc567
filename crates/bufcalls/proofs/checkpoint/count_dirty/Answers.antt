use native.Mathlib.Omega.{arith}
use mathlib.Core.Path.{sym, ◌∙◌}
use mathlib.Core.Bool.{Bool}
use Prim.Native.Nat.{ℕ}
use lib.ListN.{get_or}
use Rattle.laws.proofs.Sum.{count_none, count-hit, count-miss, count-le}
use Rattle.bufmodel.specs.Word.{dirty}
use Rattle.bufcalls.proofs.checkpoint.count_dirty.Goals.{else-is_dirty, then-is_dirty}
use Rattle.bufcalls.proofs.checkpoint.count_dirty.Goals as goal

pub loop-w-init : goal.loop-w-init
loop-w-init c = sym (count_none _)

pub overflow_add-n : goal.overflow_add-n
overflow_add-n c = omega (arith, count-le (λ (i : ℕ). dirty (get_or c.args.states.now i 0)) c.loop-w.w-index)

pub loop-w-preserved : goal.loop-w-preserved
loop-w-preserved c =
    let p : ℕ → Bool = λ i. dirty (get_or c.args.states.now i 0) in
    let i = c.loop-w.w-index in
    let h = c.is_dirty.ensures in
    elim c.if-is_dirty.branch [
      | then-is_dirty w ↦ omega (arith, count-hit p i (sym h ∙ w.if-is_dirty.true))
      | else-is_dirty w ↦ omega (arith, count-miss p i (sym h ∙ w.if-is_dirty.false))
    ]
