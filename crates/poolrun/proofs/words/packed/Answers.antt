use Rattle.bufmodel.proofs.WordLaws.{pack-fields, pins-lt, usage-lt, flags-lt}
use Rattle.poolrun.proofs.words.packed.Goals as goal

pub pack_word-requires : goal.pack_word-requires
pack_word-requires c =
    let w = c.args.w in (
      rw c.pins_of.ensures (pins-lt w),
      rw c.usage_of.ensures (usage-lt w),
      rw c.flags_of.ensures (flags-lt w c.ranges.w.fits),
    )

pub returns : goal.returns
returns c =
    rw (c.pack_word.ensures, c.pins_of.ensures, c.usage_of.ensures, c.flags_of.ensures)
    (pack-fields c.args.w)
