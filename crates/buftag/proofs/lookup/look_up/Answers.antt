use Rattle.buftag.proofs.NameLaws.{bucket-lt}
use Rattle.buftag.specs.Link.{link_at}
use Rattle.buftag.specs.Lookup.{walk, look_up}
use lib.ListN.{length}
use mathlib.Core.Path.{◌∙◌, ap}
use native.Mathlib.Omega.{arith}
use Rattle.buftag.proofs.lookup.look_up.Goals as goal

pub link_at-requires : goal.link_at-requires
link_at-requires c =
    omega (arith, c.bucket-b.ensures, bucket-lt c.args.name (length c.args.heads.now) c.requires.0)

pub returns : goal.returns
unfolding look_up
returns c =
    let a = c.args in
    c.find_from.ensures
    ∙ ap (walk a.chain.now a.names.now a.name (length a.chain.now))
    (c.link_at.ensures ∙ ap (link_at a.heads.now) c.bucket-b.ensures)
