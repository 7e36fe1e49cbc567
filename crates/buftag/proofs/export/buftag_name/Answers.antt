use Rattle.buftag.proofs.NamesLaws.{name-whole}
use Rattle.buftag.specs.Name.{name_size}
use Rattle.buftag.specs.Names.{name_words, words_of}
use lib.ListN.{length}
use mathlib.Core.Path.{◌∙◌, ap}
use borrow.Author.Tests.{eq-eqb}
use Rattle.buftag.proofs.export.buftag_name.Goals as goal

pub returns-clause-words_after : goal.returns-clause-words_after
returns-clause-words_after c =
    let bytes = eq-eqb (length c.args.bytes.now) name_size c.if-bytes-ne-NAME_SIZE.false in
    let words = eq-eqb (length c.args.words.now) name_words c.if-words-ne-NAME_WORDS.false in
    rw (bytes, words)
    (c.put_name.ensures ∙ name-whole c.args.words.now _ c.if-words-ne-NAME_WORDS.false ∙ ap words_of c.name_of_bytes.ensures)
