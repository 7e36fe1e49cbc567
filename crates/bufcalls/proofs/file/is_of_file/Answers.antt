use mathlib.Core.Path.{sym, ap, ◌∙◌}
use mathlib.Core.Bool.{not}
use Rattle.laws.proofs.Tests.{and_last}
use Rattle.buftag.specs.declared.name.PageName.{PageName}
use Rattle.buftag.specs.Name.{same_file}
use Rattle.bufmodel.specs.Word.{empty}
use Rattle.bufcalls.specs.File.{held_of}
use Rattle.bufcalls.proofs.file.is_of_file.Goals as goal

pub returns-then-not-is_empty : goal.returns-then-not-is_empty
unfolding held_of
returns-then-not-is_empty c =
    let blank = c.is_empty.ensures ∙ ap empty c.state_of.ensures in
    let f = c.args.file in
    and_last (ap not (sym blank ∙ c.if-not-is_empty.true))
    (c.same_file.ensures ∙ ap (λ (n : PageName). same_file n.file f) c.stored.ensures)

pub returns-else-not-is_empty : goal.returns-else-not-is_empty
unfolding held_of
returns-else-not-is_empty c =
    let blank = c.is_empty.ensures ∙ ap empty c.state_of.ensures in
    rw (c.if-not-is_empty.false, sym blank ∙ c.if-not-is_empty.false)
