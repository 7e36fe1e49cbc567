use borrow.Author.Rules.{rules}
use Rattle.bufmodel.specs.Sizes.{new_file}
use Rattle.bufmodel.specs.Rows.{file_at}
use Rattle.buftag.specs.Name.{same_file}
use Rattle.laws.proofs.Every.{all-fails}
use mathlib.Core.Bool.{not}
use mathlib.Core.Path.{ap, sym, ◌∙◌}
use Rattle.bufbooks.proofs.sound_rows.is_new.Goals as goal

pub returns-then-is_file : goal.returns-then-is_file
unfolding new_file
returns-then-is_file c =
    let e = c.is_file.ensures ∙ ap (same_file (file_at c.args.rows.now c.loop-i.i)) c.file_at-file.ensures in
    all-fails _ _ c.loop-i.i (search rules) (ap not (sym e ∙ c.if-is_file.true))
