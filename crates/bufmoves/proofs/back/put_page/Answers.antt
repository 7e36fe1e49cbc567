use mathlib.Core.Path.{◌≡◌, sym, ◌∙◌, ap, ap₂}
use Rattle.laws.specs.First.{Found}
use Rattle.laws.specs.Block.{block}
use Rattle.laws.proofs.Block.{block_in}
use Rattle.buftag.specs.declared.name.PageName.{PageName}
use Rattle.buftag.specs.Names.{name_at}
use Rattle.bufmodel.specs.Checksum.{sealed}
use Rattle.bufmodel.specs.Rows.{place_of}
use Rattle.bufmodel.specs.Moves.{put_at}
use Rattle.bufmodel.proofs.RowsLaws.{place-in}
use Rattle.bufmodel.proofs.SizesLaws.{rows-say}
use Rattle.bufmem.specs.Place.{found_place}
use Rattle.bufmem.proofs.PlaceLaws.{found-placed, found-other}
use Rattle.bufmoves.proofs.back.put_page.Goals as goal

-- what the search for the page's place answered
place : (c : goal.In_default)
    → let a = c.args in
    found_place c.place_of.result ≡ place_of a.rows.now (name_at a.names.now a.buffer.0)
place c = ap found_place c.place_of.ensures ∙ found-placed _ _ ∙ ap (place_of _) c.stored-name.ensures

pub returns-in_default : goal.returns-in_default
unfolding put_at
returns-in_default c =
    let a = c.args in
    ap (put_at a.control.size _ a.store.now) (sym (found-other _ c.in_default.not-Ok) ∙ place c)

-- what the search for the page's place answered
place-2 : (c : goal.After-page_to_store-arg-2-1)
    → let a = c.args in
    found_place c.place_of.result ≡ place_of a.rows.now (name_at a.names.now a.buffer.0)
place-2 c = ap found_place c.place_of.ensures ∙ found-placed _ _ ∙ ap (place_of _) c.stored-name.ensures

pub page_to_store-requires : goal.page_to_store-requires
unfolding found_place
page_to_store-requires c =
    let e = sym (place-2 c) ∙ ap found_place c.in-Ok.is in
    let r = (rows-say c.args.rows.now).holds c.requires.rows in
    let g = c.in-Ok.g in (
      c.requires.page,
      block_in c.args.control.size _ g c.args.store.now c.requires.store (place-in c.args.rows.now r _ e),
      c.requires.pool,
    )

-- what the search for the page's place answered
place-3 : (c : goal.After-slice_known-2-1)
    → let a = c.args in
    found_place c.place_of.result ≡ place_of a.rows.now (name_at a.names.now a.buffer.0)
place-3 c = ap found_place c.place_of.ensures ∙ found-placed _ _ ∙ ap (place_of _) c.stored-name.ensures

pub returns : goal.returns
unfolding put_at found_place
returns c =
    let a = c.args in
    let e = sym (place-3 c) ∙ ap found_place c.in-Ok.is in
    let page = block a.control.size a.buffer.0 a.pool.now in
    let name = c.stored-name.ensures in
    c.page_to_store.ensures
    ∙ ap₂ (λ (n : PageName) (f : Found). put_at a.control.size (sealed n.block.0 page) a.store.now f) name (sym e)
