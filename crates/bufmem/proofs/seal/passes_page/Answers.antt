use mathlib.Core.Path.{◌≡◌, sym, ◌∙◌}
use Rattle.bufmodel.specs.Checksum.{sum_in}
use Rattle.bufmodel.proofs.ChecksumLaws.{passes-unsummed, passes-summed}
use Rattle.bufmem.proofs.seal.passes_page.Goals as goal

pub returns-then-s-eq0 : goal.returns-then-s-eq0
unfolding sum_in
returns-then-s-eq0 c =
    let a = c.args in
    let s : sum_in a.page.now ≡ c.from_le_bytes-s.result = sym c.from_le_bytes-s.ensures in
    c.is_blank.ensures ∙ passes-unsummed a.number.0 a.page.now (s ∙ c.if-s-eq0.true)

pub returns-else-s-eq0 : goal.returns-else-s-eq0
unfolding sum_in
returns-else-s-eq0 c =
    let a = c.args in
    let s : sum_in a.page.now ≡ c.from_le_bytes-s.result = sym c.from_le_bytes-s.ensures in
    rw (c.from.ensures, c.page_checksum.ensures, ← s) (passes-summed a.number.0 a.page.now (λ e. c.if-s-eq0.false (sym s ∙ e)))
