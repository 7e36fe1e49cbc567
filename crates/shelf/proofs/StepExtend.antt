-- Extend agrees with the shelf.
use Prim.Native.Nat.{ℕ, ◌<◌}
use mathlib.Core.Path.{◌≡◌, refl, sym, ap, ◌∙◌}
use mathlib.Core.Bool.{Bool, ◌||◌}
use mathlib.Core.List.{List, [], ◌∷◌}
use native.Mathlib.Omega.{arith}
use lib.Dec.{eqb}
use borrow.Author.Tests.{eqb-true, eqb-false}
use Rattle.laws.specs.First.{Found, found, missing}
use Rattle.laws.specs.Block.{block}
use Rattle.laws.proofs.Tests.{never}
use Rattle.buftag.specs.declared.name.FileName.{FileName}
use Rattle.bufmodel.specs.Checksum.{bare}
use Rattle.bufmodel.specs.Rows.{files, blocks_at, capacity_at, row_of, store_blocks}
use Rattle.bufmodel.specs.Memory.{Memory, size}
use Rattle.bufmodel.specs.Outcome.{Place, place, refusal_of, one}
use Rattle.bufmodel.specs.Pin.{no_row}
use Rattle.bufmodel.specs.Calls.{file_full, extend_at, extend}
use Rattle.bufmodel.specs.Step.{Extend, step}
use Rattle.bufmodel.proofs.RowsLaws.{row-found}
use Rattle.bufmodel.proofs.OutcomeLaws.{refusal-passed}
use Rattle.shelf.specs.Shelf.{Shelf, no_file, no_room, places, refuses, next_block, extended_at, shelf_after}
use Rattle.shelf.specs.Ledger.{back_by, new_at, new_by, put_by, dirtied_by, dirty_after, last_after, said_flushed, flushed_after, accepted_by}
use Rattle.shelf.proofs.CallKinds.{not-checkpoint}
use Rattle.shelf.proofs.Kept.{View, shelf_of, ledger_of, view_of, Kept, Ended}
use Rattle.shelf.proofs.KeptLaws.{Alike, kept-alike}
use Rattle.shelf.proofs.ShelfPlaces.{refuses-is}
use Rattle.shelf.proofs.Refused.{neither-none, neither-place, call_step}
use Rattle.shelf.proofs.Accepted.{ledger_then, shelf_then, Accepted, accepted-ended}
use Rattle.shelf.proofs.WithLaws.{with-same}
use Rattle.shelf.proofs.HighestLaws.{highest-still}
use Rattle.shelf.proofs.ExtendKept.{place_more, memory_more, view_more, store_same, store_other, store_long, kept_more}

-- the places of extend, for a row that was found or not
abbrev places_at : List ℕ → Found → List Place
places_at rows o = place 3 (no_row o) ∷ place 13 (file_full rows o) ∷ []

-- where they refuse nothing there is such a row, and it is not full
no-places : (rows : List ℕ) → refusal_of (places_at rows missing) ≡ 0 → ⊥
unfolding no_row
no-places rows e = never refl (refusal-passed 3 _ _ (omega arith) e).0

places-room : (rows : List ℕ) (r : ℕ) → refusal_of (places_at rows (found r)) ≡ 0 → blocks_at rows r ≡ capacity_at rows r → ⊥
unfolding file_full
places-room rows r e =
    eqb-false _ _ (refusal-passed 13 _ [] (omega arith) (refusal-passed 3 _ _ (omega arith) e).1).0

module _ (m : Memory) (v : View) (k : Kept m v) (f : FileName) (r : ℕ) (e : row_of m.rows f ≡ found r) where
  -- ---- the ledger afterwards
  shelf-then : shelf_then m v (Extend f) (one (blocks_at m.rows r)) ≡ extended_at (shelf_of m v) (found r)
  unfolding accepted_by shelf_after
  shelf-then = ap (extended_at (shelf_of m v)) e

  -- the blocks that it puts: the new one
  put_then : (g : ℕ) → put_by (ledger_of m v) (Extend f) (one (blocks_at m.rows r)) g ≡ eqb g (place_more m.rows r)
  unfolding put_by back_by new_by new_at next_block
  put_then g = rw e refl

  alike_then : Alike (view_more m v r) (view_of (ledger_then m v (Extend f) (one (blocks_at m.rows r))))
  unfolding accepted_by extended_at next_block dirty_after back_by dirtied_by last_after
  alike_then =
      record {
        bytes = λ g. ap (λ (s : Shelf). s.bytes g) shelf-then;
        counts = λ o g. ap (λ (s : Shelf). s.counts o g) shelf-then;
        holds = λ b. ap (λ (s : Shelf). s.holds b) shelf-then;
        bads = λ g. ap (λ (s : Shelf). s.bad g) shelf-then;
        marks = λ g. refl;
        last = λ b. refl;
        put = λ g. ap (λ (t : Bool). t || v.put g) (put_then g);
      }

  -- the new block is zeros on both sides
  new-stored : (l : r < files m.rows) (room : blocks_at m.rows r < capacity_at m.rows r) (g : ℕ) → g ≡ place_more m.rows r
      → block (size m) g (memory_more m r).store ≡ (shelf_then m v (Extend f) (one (blocks_at m.rows r))).bytes g
  unfolding extended_at next_block
  new-stored l room g q =
      rw q
      (store_same m v k r l room
      ∙ sym (ap (λ (s : Shelf). s.bytes (place_more m.rows r)) shelf-then ∙ with-same (place_more m.rows r) _ v.bytes))

  -- ---- accepted
  extend-accepted : refuses (shelf_of m v) (Extend f) ≡ 0 → (blocks_at m.rows r ≡ capacity_at m.rows r → ⊥)
      → Accepted m v (Extend f) (one (blocks_at m.rows r)) [] (memory_more m r)
  unfolding accepted_by extended_at flushed_after said_flushed back_by
  extend-accepted z ne =
      let l = (row-found m.rows f e).0 in
      let room : blocks_at m.rows r < capacity_at m.rows r = omega (arith, k.good.sizes.rows.fill r l) in
      record {
        number = z;
        answers = (_, refl);
        shows = (r, e, refl, refl);
        many = refl;
        wide = refl;
        cap = refl;
        rows = ap (λ (s : Shelf). s.rows) shelf-then;
        inserted = ap (λ (s : Shelf). s.inserted) shelf-then;
        flushed = highest-still (ledger_of m v) m.control.flushed (store_blocks m.rows);
        kept = kept-alike (memory_more m r) (view_more m v r) _ alike_then (kept_more m v k r l room);
        others = λ g b h. store_other m v k r l room g (eqb-false _ _ (sym (put_then g) ∙ h));
        long = store_long m v k r l room;
        stored = λ g t. ap bare (new-stored l room g (eqb-true _ _ (sym (put_then g) ∙ t)));
        settled = λ q. absurd (not-checkpoint refl q);
      }

module _ (m : Memory) (v : View) (k : Kept m v) (f : FileName) where
  extend-ended : (o : Found) → row_of m.rows f ≡ o → refuses (shelf_of m v) (Extend f) ≡ 0 → refusal_of (places_at m.rows o) ≡ 0
      → Ended m v (Extend f) (extend_at m o)
  unfolding extend_at
  extend-ended (found r) e z h =
      accepted-ended m v (Extend f) (one (blocks_at m.rows r)) [] (memory_more m r)
      (extend-accepted m v k f r e z (places-room m.rows r h))
  extend-ended missing e z h = absurd (no-places m.rows h)

  -- the shelf refuses it alike
  extend-number : refusal_of (places_at m.rows (row_of m.rows f)) ≡ refuses (shelf_of m v) (Extend f)
  unfolding places file_full no_room no_row no_file
  extend-number = go (row_of m.rows f) ∙ sym (refuses-is _ _)
    where
      go : (r : Found)
          → refusal_of (places_at m.rows r) ≡ refusal_of (place 3 (no_file r) ∷ place 13 (no_room (shelf_of m v) r) ∷ [])
      go (found r) = refl
      go missing = refl

-- Extend
pub extend-step : (m : Memory) (v : View) → Kept m v → (f : FileName) → Ended m v (Extend f) (step m (Extend f))
unfolding step extend
extend-step m v k f =
    let o = row_of m.rows f in
    call_step m v (Extend f) k (places_at m.rows o) (extend_at m o) refl (extend-number m v k f)
    (neither-place 3 _ _ (omega arith) (neither-place 13 _ [] (omega arith) neither-none))
    (λ e. extend-ended m v k f o refl (sym (extend-number m v k f) ∙ e) e)
