use native.Mathlib.Omega.{arith}
use borrow.Author.Count.{below_more}
use Rattle.bufmodel.specs.Rows.{row_of, files}
use Rattle.laws.proofs.First.{first-none, first_more, first-hit}
use mathlib.Core.Path.{sym, ◌∙◌}
use Prim.Native.Nat.{◌-◌, ◌/◌}
use lib.ListN.{length}
use Rattle.bufmem.proofs.rows.find_row.Goals as goal
use Rattle.bufmem.proofs.rows.find_row.Goals.{else-n-eq1-via-then-n-eq1+else-is_file-3, else-n-eq1-via-else-n-eq1}

pub returns-then-is_file : goal.returns-then-is_file
unfolding row_of files
returns-then-is_file c =
    first-hit _ _ _ (omega arith) (first-none _ _ c.loop-pair.invariant) (sym c.is_file.ensures ∙ c.if-is_file.true)

pub returns-then-is_file-2 : goal.returns-then-is_file-2
unfolding row_of files
returns-then-is_file-2 c =
    let none = first_more _ _ (first-none _ _ c.loop-pair.invariant) (sym c.is_file.ensures ∙ c.if-is_file.false) in
    first-hit _ _ _ (omega arith) none (sym c.is_file-in-loop-pair.ensures ∙ c.if-is_file-2.true)

pub returns-then-is_file-3 : goal.returns-then-is_file-3
unfolding row_of files
returns-then-is_file-3 c =
    first-hit _ _ _ (omega arith) (first-none _ _ (λ k h. c.loop-pair.invariant k (omega arith)))
    (sym c.is_file-then-n-eq1.ensures ∙ c.if-is_file-3.true)

pub returns : goal.returns
unfolding row_of files
returns c =
    let l = c.loop-pair in
    let n = length c.args.rows.now / 6 in
    elim c.else-n-eq1.branch [
      | else-n-eq1-via-then-n-eq1+else-is_file-3 w ↦
          sym (first-none _ _ (λ k h.
          below_more _ (n - 1) (λ j m. l.invariant j (omega arith)) (sym w.is_file-then-n-eq1.ensures ∙ w.if-is_file-3.false) k (omega arith)))
      | else-n-eq1-via-else-n-eq1 w ↦ sym (first-none _ _ (λ k h. l.invariant k (omega arith)))
    ]
