use Rattle.std.proofs.Common.{◌≡◌, sym, ◌∙◌, refl, arith}
use Rattle.std.proofs.lemmas.List.Edits.{sets-eq}
use Rattle.std.proofs.lemmas.Slice.{put_mid-paste}
use Rattle.bufhash.specs.Bytes.{word_bytes}
use Rattle.bufhash.proofs.bytes.put_word.Goals as goal

pub returns : goal.returns
returns c =
    let a = c.args in
    let bytes = word_bytes a.w in
    let written : c.copy_from_slice.new.self ≡ bytes = c.copy_from_slice.ensures.after ∙ c.to_le_bytes.ensures in
    put_mid-paste a.at _ a.out.now _ bytes 4 written (omega arith) refl ∙ sym (sets-eq bytes a.out.now a.at c.requires)
