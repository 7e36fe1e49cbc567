use Rattle.bufmodel.proofs.RowsLaws.{row_is}
use Rattle.bufmodel.proofs.SizesLaws.{rows-say}
use Rattle.bufmodel.specs.Rows.{files, file_at, row_of}
use Rattle.buftag.proofs.NameLaws.{says-same-file}
use mathlib.Core.Path.{ap, sym, ◌∙◌}
use Rattle.bufbooks.proofs.buffers.row_near.Goals as goal

-- a row of the file is the one that is found by it
pub returns-then-is_file : goal.returns-then-is_file
unfolding files
returns-then-is_file c =
    let a = c.args in
    let rows = a.rows.words.now in
    let near = c.from-near.result in
    let same = (says-same-file (file_at rows near) a.file).holds (sym c.is_file.ensures ∙ c.if-is_file.true) in
    sym (row_is rows ((rows-say rows).holds a.rows.sound) near c.if-near-rows.true) ∙ ap (row_of rows) same
