use borrow.Author.Rules.{rules}
use mathlib.Core.Path.{sym, ◌∙◌}
use Rattle.buftrace.proofs.ReaderLaws.{broken-first, broken-kept, broken-spoils, broken-was}
use Rattle.buftrace.proofs.scan.break_off.Goals as goal

pub returns-then-s-ne0 : goal.returns-then-s-ne0
returns-then-s-ne0 c = record {
  value = sym (broken-kept _ c.if-s-ne0.true);
  becomes = broken-was _ c.if-s-ne0.true;
}

pub returns : goal.returns
returns c = record {
  value = c.spoil.ensures.value ∙ sym (broken-first _ (search rules));
  becomes = broken-spoils _ (search rules) c.spoil.ensures.becomes;
}
