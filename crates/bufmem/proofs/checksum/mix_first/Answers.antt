use mathlib.Core.Path.{ap, ◌∙◌}
use mathlib.Core.List.{List}
use Prim.Native.Nat.{ℕ}
use lib.ListN.{get_or}
use lib.Seq.{get_or-take}
use Rattle.bufmem.proofs.ChecksumLaws.{mixed-first}
use Rattle.bufmem.proofs.checksum.mix_first.Goals as goal

pub returns : goal.returns
returns c =
    let row = c.copy_from_slice in
    mixed-first row.new.self _ _ _ row.ensures.len
    (λ k h. ap (λ (l : List ℕ). get_or l k 0) row.ensures.after ∙ get_or-take 128 c.args.page.now k 0 h) c.mix_row.ensures
