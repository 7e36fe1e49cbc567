use borrow.Author.Rules.{rules}
use Rattle.laws.proofs.Every.{all_more, all-fails}
use Rattle.bufbooks.specs.Guesses.{slot_of}
use Rattle.bufbooks.proofs.RowsLaws.{marked_more}
use lib.ListN.{length-set}
use mathlib.Core.Bool.{true}
use mathlib.Core.Path.{ap, sym, ◌∙◌}
use native.Mathlib.Omega.{arith}
use Rattle.bufbooks.proofs.sound_rows.each_ok.Goals as goal

pub returns-then-not-row_ok : goal.returns-then-not-row_ok
returns-then-not-row_ok c = all-fails _ _ c.loop-row.row (search rules) (sym c.row_ok.ensures ∙ c.if-not-row_ok.true)

pub loop-row-preserved : goal.loop-row-preserved
loop-row-preserved c =
    let l = c.loop-row in
    let slot = c.slot_of-slot.ensures ∙ ap slot_of c.file_at.ensures in (
      length-set l.marks c.slot_of-slot.result true ∙ l.invariant.0,
      marked_more c.args.rows.now l.marks l.row l.invariant.1 slot (omega (arith, c.slot_of-slot.ensures)),
      all_more _ _ l.invariant.2 (sym c.row_ok.ensures ∙ c.if-not-row_ok.false),
    )
