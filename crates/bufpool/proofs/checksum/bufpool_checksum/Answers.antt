use native.Mathlib.Omega.{arith}
use mathlib.Core.Path.{sym, ap, ◌∙◌}
use Rattle.bufmodel.specs.Outcome.{one}
use Rattle.bufmodel.proofs.SizesLaws.{permitted-within}
use Rattle.bufpool.proofs.ChecksumLaws.{sum-slice, sum-size, sum_done}
use Rattle.bufpool.proofs.checksum.bufpool_checksum.Goals as goal

pub returns-then-answer-ne-ANSWER_WORDS : goal.returns-then-answer-ne-ANSWER_WORDS
returns-then-answer-ne-ANSWER_WORDS c =
    let t = let a = c.args in sum-slice a.page.now a.answer.now a.block c.if-answer-ne-ANSWER_WORDS.true in
    rw c.from.ensures (record { value = t.0; answer_after = t.1 })

pub returns-then-not-size_ok : goal.returns-then-not-size_ok
returns-then-not-size_ok c =
    let a = c.args in
    let d =
    sum-size a.page.now a.answer.now a.block c.if-answer-ne-ANSWER_WORDS.false
    (sym c.size_ok.ensures ∙ c.if-not-size_ok.true) in record {
      value = c.refuse.ensures.value ∙ d.0;
      answer_after = c.refuse.ensures.answer_after ∙ d.1;
    }

pub page_checksum-sum-requires : goal.page_checksum-sum-requires
page_checksum-sum-requires c = omega (arith, (permitted-within (sym c.size_ok.ensures ∙ c.if-not-size_ok.false)).0)

pub returns : goal.returns
returns c =
    let a = c.args in
    let d = sum_done a.page.now a.answer.now a.block c.if-answer-ne-ANSWER_WORDS.false (sym c.size_ok.ensures ∙ c.if-not-size_ok.false) in record {
      value = c.put_answer.ensures.value ∙ d.0;
      answer_after = c.put_answer.ensures.answer_after ∙ ap one (c.from-2.ensures ∙ c.page_checksum-sum.ensures) ∙ d.1;
    }
