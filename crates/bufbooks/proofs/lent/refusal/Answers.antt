use native.Mathlib.Omega.{arith}
use mathlib.Core.Bool.{true, false, ◌&&◌}
use mathlib.Core.Path.{◌≡◌, sym, ◌∙◌}
use Rattle.std.proofs.lemmas.Grind.{common_steps}
use Rattle.bufmodel.specs.View.{memory_of}
use Rattle.bufmodel.specs.Books.{sound_counts}
use Rattle.bufbooks.specs.Books.{books_test}
use Rattle.bufbooks.proofs.LentLaws.{checked-books, checked-none, bare, bare-fits, counts-fit, sound_bare}
use Rattle.bufbooks.proofs.lent.refusal.Goals as goal

pub books_ok-books-requires : goal.books_ok-books-requires
books_ok-books-requires c = bare-fits (memory_of c.args.lent.now) (sym c.sizes_ok.ensures ∙ c.if-not-sizes_ok.false)

pub counts_ok-requires : goal.counts_ok-requires
counts_ok-requires c = counts-fit (memory_of c.args.lent.now) (sym c.sizes_ok.ensures ∙ c.if-not-sizes_ok.false)

pub returns-then-not-counts_ok : goal.returns-then-not-counts_ok
unfolding sound_counts
returns-then-not-counts_ok c =
    let m = memory_of c.args.lent.now in
    let fit = sym c.sizes_ok.ensures ∙ c.if-not-sizes_ok.false in
    let both : (books_test (bare m) && sound_counts m) ≡ false = grind (arith, common_steps) in
    checked-books m fit (sym (sound_bare m fit) ∙ both)

pub returns : goal.returns
unfolding sound_counts
returns c =
    let m = memory_of c.args.lent.now in
    let fit = sym c.sizes_ok.ensures ∙ c.if-not-sizes_ok.false in
    let both : (books_test (bare m) && sound_counts m) ≡ true = grind (arith, common_steps) in
    checked-none m fit (sym (sound_bare m fit) ∙ both)
