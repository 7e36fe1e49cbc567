-- A page's name: what its places 3, 4 and 17 answer, and where a look-up finds it.
use Prim.Native.Nat.{ℕ}
use native.Mathlib.Omega.{arith}
use mathlib.Core.Path.{◌≡◌, refl, ap, ◌∙◌}
use mathlib.Core.Bool.{true, false, not}
use mathlib.Core.Logic.{⊎_elim}
use mathlib.Core.List.{List, ◌∷◌}
use lib.Dec.{ltb}
use borrow.Author.Tests.{ltb-false, lt-leb, ltb-true, le-leb}
use Rattle.laws.specs.First.{Found, found, missing}
use Rattle.laws.specs.Block.{block}
use Rattle.laws.proofs.Tests.{true-or-false}
use Rattle.buftag.specs.Lookup.{Held}
use Rattle.std.specs.Prelude.{Some, None, Result, Ok, Err}
use Rattle.buftag.specs.declared.name.PageName.{PageName}
use Rattle.buftag.specs.declared.number.BufferNumber.{BufferNumber}
use Rattle.buftag.specs.Lookup.{look_up}
use Rattle.buftag.proofs.LookupLaws.{look-up-held}
use Rattle.bufmodel.specs.Checksum.{passes}
use Rattle.bufmodel.specs.Rows.{blocks_at, row_of, place_in, place_of}
use Rattle.bufmodel.specs.Memory.{Memory, size}
use Rattle.bufmodel.specs.Outcome.{Place, place, refusal_of}
use Rattle.bufmodel.specs.Pin.{no_row, no_block, held_in, name_places, sum_differs, page_places}
use Rattle.bufmodel.proofs.OutcomeLaws.{refusal-past, refusal-at}
use Rattle.bufmodel.proofs.GoodLaws.{Good}
use Rattle.bufmodel.specs.declared.refusal.Refusal.{Refusal}
use Rattle.bufmodel.specs.Refusal.{refusal_number}
use Rattle.bufmodel.specs.declared.refusal.Refusal.TheVariants.{NoFile, NoBlock}
use Rattle.bufmem.specs.Place.{placed_in, placed}
use Rattle.bufmem.specs.Seek.{sought_at, sought}

-- ---- the places 3 and 4
at-found : {g h : ℕ} → ◌≡◌ {A = Result ℕ Refusal} (Ok g) (Ok h) → found g ≡ found h
at-found {g} {h} e = let q : g ≡ h = cc in ap found q

module _ (rows : List ℕ) (b : ℕ) (later : List Place) where
  abbrev places : Found → List Place
  places f = place 3 (no_row f) ∷ place 4 (no_block rows b f) ∷ later

  sought-refused : (f : Found) (r : Refusal) → sought_at (placed_in rows b f) ≡ Err r → refusal_of (places f) ≡ refusal_number r
  unfolding placed_in no_row no_block refusal_of
  sought-refused missing r e = let q : ◌≡◌ {A = Refusal} NoFile r = cc in ap refusal_number q
  sought-refused (found i) r e =
      ⊎_elim
      (λ t. let d = rw t at e in let z : ◌≡◌ {A = ℕ} 0 1 = cc in absurd (omega arith))
      (λ t.
      let d = rw t at e in
      let q : ◌≡◌ {A = Refusal} NoBlock r = cc in
      rw (le-leb (blocks_at rows i) b (ltb-false b (blocks_at rows i) t)) (ap refusal_number q))
      (true-or-false (ltb b (blocks_at rows i)))

  sought-at : (f : Found) (g : ℕ) → sought_at (placed_in rows b f) ≡ Ok g
      → (place_in rows b f ≡ found g) × (refusal_of (places f) ≡ refusal_of later)
  unfolding placed_in place_in no_row no_block refusal_of
  sought-at missing g e = let z : ◌≡◌ {A = ℕ} 0 1 = cc in absurd (omega arith)
  sought-at (found r) g e =
      ⊎_elim
      (λ t. (rw t (at-found (rw t at e)), rw (lt-leb (blocks_at rows r) b (ltb-true b (blocks_at rows r) t))))
      (λ t. let d = rw t at e in let z : ◌≡◌ {A = ℕ} 0 1 = cc in absurd (omega arith))
      (true-or-false (ltb b (blocks_at rows r)))

module _ (rows : List ℕ) (n : PageName) where
  pub name-refused : (later : List Place) {r : Refusal} → sought rows n ≡ Err r
      → refusal_of (name_places rows n later) ≡ refusal_number r
  unfolding sought placed name_places
  name-refused later {r} e = sought-refused rows n.block.0 later (row_of rows n.file) r e

  pub name-at : (later : List Place) {g : ℕ} → sought rows n ≡ Ok g
      → (place_of rows n ≡ found g) × (refusal_of (name_places rows n later) ≡ refusal_of later)
  unfolding sought placed name_places place_of
  name-at later {g} e = sought-at rows n.block.0 later (row_of rows n.file) g e

-- ---- the place 17, behind these two
module _ (m : Memory) (n : PageName) (later : List Place) where
  pub page-refused : {r : Refusal} → sought m.rows n ≡ Err r → refusal_of (page_places m n later) ≡ refusal_number r
  unfolding page_places
  page-refused e = name-refused m.rows n _ e

  module _ {g : ℕ} (at : sought m.rows n ≡ Ok g) where
    sum-at : (h : Held) → held_in m n ≡ h → refusal_of (page_places m n later) ≡ refusal_of (place 17 (sum_differs m n (found g) h) ∷ later)
    unfolding page_places
    sum-at h e =
        let w = name-at m.rows n (place 17 (sum_differs m n (place_of m.rows n) (held_in m n)) ∷ later) at in
        w.1 ∙ rw (w.0, e)

    -- a page that is held is not verified
    pub page-held : {b : BufferNumber} → held_in m n ≡ Some b → refusal_of (page_places m n later) ≡ refusal_of later
    unfolding sum_differs
    page-held e = sum-at _ e ∙ refusal-past 17 later refl

    -- another passes, or its checksum differs
    pub page-passes : held_in m n ≡ None → passes n.block.0 (block (size m) g m.store) ≡ true
        → refusal_of (page_places m n later) ≡ refusal_of later
    unfolding sum_differs
    page-passes e t = sum-at None e ∙ refusal-past 17 later (ap not t)

    pub page-differs : held_in m n ≡ None → passes n.block.0 (block (size m) g m.store) ≡ false
        → refusal_of (page_places m n later) ≡ 17
    unfolding sum_differs
    page-differs e t = sum-at None e ∙ refusal-at 17 later (ap not t)

-- ---- the look-up
pub looked-up : (m : Memory) → Good m → (n : PageName) → look_up m.heads m.chain m.names n ≡ held_in m n
unfolding held_in
looked-up m k n =
    let s = k.sizes in
    look-up-held m.states m.names m.heads m.chain n (omega (arith, s.least, s.wide)) s.chain k.books.chains
    k.books.distinct
