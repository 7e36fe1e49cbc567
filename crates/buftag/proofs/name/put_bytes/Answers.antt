use Rattle.buftag.proofs.NameLaws.{bytes-put}
use Rattle.bufhash.specs.Bytes.{word_bytes}
use lib.Seq.{sets}
use mathlib.Core.Path.{◌∙◌, ap}
use Rattle.buftag.proofs.name.put_bytes.Goals as goal

pub returns : goal.returns
returns c =
    let n = c.args.name in
    c.put_word-5.ensures
    ∙ ap (λ l. sets l 16 (word_bytes n.block.0))
    (c.put_word-4.ensures
    ∙ ap (λ l. sets l 12 (word_bytes n.file.fork))
    (c.put_word-3.ensures
    ∙ ap (λ l. sets l 8 (word_bytes n.file.relation))
    (c.put_word-2.ensures ∙ ap (λ l. sets l 4 (word_bytes n.file.database)) c.put_word.ensures)))
    ∙ bytes-put c.args.out.now n c.requires
