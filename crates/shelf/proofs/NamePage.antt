-- A page by its name: the tests of a name, and which buffer has the page.
use Prim.Native.Nat.{ℕ}
use mathlib.Core.Path.{◌≡◌, refl, ap, ◌∙◌}
use mathlib.Core.List.{List, ◌∷◌}
use native.Mathlib.Omega.{arith}
use Rattle.laws.specs.First.{Found, found, missing}
use Rattle.buftag.specs.Lookup.{Held}
use Rattle.std.specs.Prelude.{Some, None}
use Rattle.buftag.specs.declared.number.BufferNumber.{BufferNumber}
use Rattle.buftag.specs.declared.name.PageName.{PageName}
use Rattle.bufmodel.specs.Rows.{row_of, place_of}
use Rattle.bufmodel.specs.Memory.{Memory, name_of}
use Rattle.bufmodel.specs.Outcome.{Place, place, refusal_of}
use Rattle.bufmodel.specs.Pin.{no_row, no_block, name_places, held_in}
use Rattle.bufmodel.proofs.GoodLaws.{Good}
use Rattle.bufmodel.proofs.RowsLaws.{place_same}
use Rattle.bufmodel.proofs.OutcomeLaws.{refusal-same}
use Rattle.bufmodel.proofs.HeldLaws.{held_at, held_none}
use Rattle.shelf.specs.Shelf.{Shelf, no_file, no_page, is_bad, page_first}
use Rattle.shelf.proofs.Kept.{Has, Nobody}
use Rattle.shelf.proofs.MemoryPlaces.{name-found}
use Rattle.shelf.proofs.Refused.{Neither, neither-place}

-- ---- the tests of a name
module _ (rows : List ℕ) (n : PageName) where
  -- neither 1 nor 2, where no later place gives that
  pub name-neither : (ps : List Place) → Neither (refusal_of ps) → Neither (refusal_of (name_places rows n ps))
  unfolding name_places
  name-neither ps h = neither-place 3 _ _ (omega arith) (neither-place 4 _ ps (omega arith) h)

  -- where no place refuses, the name is that of a page, and no later place refuses
  pub name-passed : (ps : List Place) → refusal_of (name_places rows n ps) ≡ 0
      → ((g : ℕ) × (place_of rows n ≡ found g)) × (refusal_of ps ≡ 0)
  name-passed ps e = let w = name-found rows n ps e (omega arith) (omega arith) in ((w.0, w.1), w.2)

-- ---- the shelf's tests of a name are these; its test of a bad block stands behind them
abbrev pub bad_first : Shelf → PageName → List Place → List Place
bad_first s n later = place 17 (is_bad s (place_of s.rows n)) ∷ later

pub names_same : (s : Shelf) (n : PageName) (ps qs : List Place) → refusal_of ps ≡ refusal_of (bad_first s n qs)
    → refusal_of (name_places s.rows n ps) ≡ refusal_of (page_first s n qs)
unfolding name_places page_first no_row no_file no_block no_page
names_same s n ps qs e = go (row_of s.rows n.file)
  where
    go : (r : Found)
        → refusal_of (place 3 (no_row r) ∷ place 4 (no_block s.rows n.block.0 r) ∷ ps)
        ≡ refusal_of (place 3 (no_file r) ∷ place 4 (no_page s n.block.0 r) ∷ bad_first s n qs)
    go (found r) = refusal-same 3 _ _ refl (refusal-same 4 ps (bad_first s n qs) refl e)
    go missing = refusal-same 3 _ _ refl (refusal-same 4 ps (bad_first s n qs) refl e)

-- ---- which buffer has the page
module _ (m : Memory) (k : Good m) (n : PageName) (g : ℕ) (e : place_of m.rows n ≡ found g) where
  -- the one that the look-up names
  pub held-has : (b : BufferNumber) → held_in m n ≡ Some b → Has m b.0 g
  held-has b h =
      let p = held_at m n b h in
      record { below = p.0; full = p.1; place = ap (place_of m.rows) p.2 ∙ e }

  -- none, where it names none
  pub held-nobody : held_in m n ≡ None → Nobody m g
  held-nobody h i x = held_none m n h i x.full (place_same m.rows k.sizes.rows (name_of m i) n x.place e)

  -- and it names none, where none has it
  pub nobody-held : Nobody m g → held_in m n ≡ None
  nobody-held none = go (held_in m n) refl
    where
      go : (h : Held) → held_in m n ≡ h → h ≡ None
      go (Some b) q = absurd (none b.0 (held-has b q))
      go None q = refl
