use Rattle.bufbooks.proofs.WordsLaws.{fine-test}
use Rattle.bufbooks.proofs.words.is_fine.Goals as goal

pub returns : goal.returns
returns c =
    let a = c.args in
    fine-test a.cap a.w a.free a.chain c.ranges.free c.ranges.chain c.is_full.ensures
