use mathlib.Core.Path.{◌∙◌}
use Rattle.bufmem.proofs.PositionLaws.{position-block}
use Rattle.bufmem.proofs.page.page_position.Goals as goal

pub returns : goal.returns
returns c =
    let a = c.args in
    c.position_at.ensures ∙ position-block a.size a.buffer.0 a.pool.now c.requires.0
