use native.Mathlib.Omega.{arith}
use mathlib.Core.List.{[]}
use mathlib.Core.Path.{◌≡◌, ap, ◌∙◌}
use Rattle.std.proofs.lemmas.Grind.{common_steps}
use Rattle.laws.specs.Every.{all}
use Rattle.bufmodel.specs.Memory.{memory, buffers}
use Rattle.bufbooks.specs.Buffers.{buffer_test}
use Rattle.bufbooks.specs.Books.{books_test}
use Rattle.bufbooks.proofs.BooksLaws.{buffers_free}
use Rattle.bufbooks.proofs.books.books_ok.Goals as goal

pub returns : goal.returns
unfolding books_test
returns c =
    let a = c.args in
    let m = memory a.control a.states.now a.names.now a.pool.now a.free.now a.heads.now a.chain.now a.rows.now [] in
    let rest : all (buffers m) (buffer_test m) ≡ books_test m = grind (arith, common_steps) in
    -- the rows of the tables are the lent ones
    let own = ap (λ rows. all (buffers m) (buffer_test (memory a.control a.states.now a.names.now a.pool.now [] a.heads.now a.chain.now rows [])))
    c.tables_of-tables.ensures in
    c.buffers_ok.ensures ∙ own ∙ buffers_free m ∙ rest
