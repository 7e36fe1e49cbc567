use Rattle.bufmem.proofs.PositionLaws.{position-put}
use Rattle.bufhash.specs.Bytes.{word_bytes}
use Prim.Native.Nat.{◌+◌, ◌/◌, ◌%◌, ◌^◌}
use mathlib.Core.Path.{◌≡◌, ap, ◌∙◌}
use lib.Seq.{sets}
use Rattle.bufmem.proofs.position.put_position.Goals as goal

pub returns : goal.returns
returns c =
    let at = c.args.at in
    let p = c.args.p in
    let bytes = c.args.bytes.now in
    let high : _ ≡ sets bytes at (word_bytes (p / 2 ^ 32)) = c.put_word.ensures in
    c.put_word-2.ensures ∙ ap (λ l. sets l (at + 4) (word_bytes (p % 2 ^ 32))) high ∙ position-put at p bytes c.requires
