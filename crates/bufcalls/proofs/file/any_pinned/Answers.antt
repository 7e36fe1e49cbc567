use native.Mathlib.Omega.{arith}
use mathlib.Core.Path.{sym, ap, ◌∙◌}
use Rattle.laws.proofs.Every.{all_none, all_more, any_found, any-done}
use Rattle.laws.proofs.Tests.{and-true}
use Rattle.bufmodel.specs.Word.{pinned}
use Rattle.bufcalls.specs.File.{pinned_of}
use Rattle.bufcalls.proofs.file.any_pinned.Goals as goal
use Rattle.bufcalls.proofs.file.any_pinned.Goals.{else-is_of_file-via-then-is_of_file+else-is_pinned, else-is_of_file-via-else-is_of_file}

pub loop-i-init : goal.loop-i-init
loop-i-init c = all_none _

pub returns-then-is_pinned : goal.returns-then-is_pinned
unfolding pinned_of
returns-then-is_pinned c =
    any_found _ _ _ (omega arith)
    (and-true (sym c.is_of_file.ensures ∙ c.if-is_of_file.true)
    (sym (c.is_pinned.ensures ∙ ap pinned c.state_of.ensures) ∙ c.if-is_pinned.true))

pub loop-i-preserved : goal.loop-i-preserved
loop-i-preserved c =
    let h = c.is_of_file.ensures in
    all_more _ _ c.loop-i.invariant
    (elim c.else-is_of_file.branch [
      | else-is_of_file-via-then-is_of_file+else-is_pinned w ↦
          rw (sym h ∙ w.if-is_of_file.true, sym (w.is_pinned.ensures ∙ ap pinned w.state_of.ensures) ∙ w.if-is_pinned.false)
      | else-is_of_file-via-else-is_of_file w ↦ rw (sym h ∙ w.if-is_of_file.false)
    ])

pub returns : goal.returns
unfolding pinned_of
returns c = any-done _ _ c.loop-i.i (omega arith) (omega arith) c.loop-i.invariant
