use Rattle.buftag.proofs.NameLaws.{hash-mixed}
use Rattle.buftag.proofs.name.hash.Goals as goal

pub returns : goal.returns
returns c =
    let a = c.args in
    let t = hash-mixed a.tablespace a.database a.relation a.fork a.block
    c.hash_database-h2.ensures c.mix_word-h3.ensures c.mix_fork-h4.ensures c.mix_block.ensures in
    record { value = t.0; value_2 = t.1 }
