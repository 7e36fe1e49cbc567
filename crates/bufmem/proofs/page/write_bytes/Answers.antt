use native.Mathlib.Nat.{add-sub_cancel_left}
use lib.ListN.{length}
use mathlib.Core.Path.{◌∙◌}
use Rattle.bufmodel.specs.Position.{paste, written}
use Rattle.bufmem.proofs.page.write_bytes.Goals as goal

pub returns : goal.returns
unfolding written paste
returns c =
    let a = c.args in
    c.put_position.ensures ∙ rw (c.copy_page.ensures, add-sub_cancel_left a.from (length a.bytes.now))
