-- Drop agrees with the shelf.
use Prim.Native.Nat.{ℕ}
use mathlib.Core.Path.{◌≡◌, refl, sym, ap, ◌∙◌, subst}
use mathlib.Core.Bool.{Bool, true, false, not, ◌&&◌}
use mathlib.Core.List.{List, [], ◌∷◌}
use native.Mathlib.Omega.{arith}
use Rattle.laws.specs.First.{Found, found, missing}
use Rattle.laws.proofs.Tests.{never}
use Rattle.buftag.specs.declared.name.FileName.{FileName}
use Rattle.bufmodel.specs.Rows.{set_blocks, row_of, store_blocks}
use Rattle.bufmodel.specs.Memory.{Memory, buffers, with_rows as rows_into}
use Rattle.bufmodel.specs.Moves.{release_up_to}
use Rattle.bufmodel.specs.Outcome.{Place, place, refusal_of, zeros}
use Rattle.bufmodel.specs.Pin.{no_row}
use Rattle.bufmodel.specs.Calls.{file_pinned, drop_at, drop_file}
use Rattle.bufmodel.specs.Step.{Drop, step}
use Rattle.bufmodel.proofs.OutcomeLaws.{refusal-at, refusal-same, refusal-passed}
use Rattle.bufmodel.proofs.DropLaws.{none-pinned, Released, released-all}
use Rattle.shelf.specs.Shelf.{Shelf, no_file, in_row, with_rows, with_bad, file_pinned as pages_pinned, places, refuses}
use Rattle.shelf.specs.Shelf.{dropped_at, shelf_after}
use Rattle.shelf.specs.Ledger.{back_by, new_by, put_by, dirtied_by, dirty_after, last_after, said_flushed, flushed_after, accepted_by}
use Rattle.shelf.proofs.CallKinds.{not-checkpoint}
use Rattle.shelf.proofs.Kept.{View, shelf_of, ledger_of, view_of, Kept, Ended}
use Rattle.shelf.proofs.KeptLaws.{Alike, kept-alike}
use Rattle.shelf.proofs.ShelfPlaces.{refuses-is}
use Rattle.shelf.proofs.Refused.{neither-none, neither-place, call_step}
use Rattle.shelf.proofs.Accepted.{ledger_then, Accepted, accepted-ended}
use Rattle.shelf.proofs.HighestLaws.{highest-still}
use Rattle.shelf.proofs.FilePages.{file-pinned-same}
use Rattle.shelf.proofs.DropKept.{dropped_memory, dropped_view, dropped-kept}

-- ---- the ledger after an accepted drop of the file in row r
module _ (m : Memory) (v : View) (f : FileName) (r : ℕ) (e : row_of m.rows f ≡ found r) where
  shelf-dropped : (b : ℕ) → shelf_after (shelf_of m v) (Drop f) b
      ≡ with_bad (λ g. not (in_row m.rows (found r) g) && v.bad g) (with_rows (set_blocks m.rows r 0) (shelf_of m v))
  unfolding shelf_after dropped_at
  shelf-dropped b = rw e

  view-dropped : Alike (dropped_view m v r) (view_of (ledger_then m v (Drop f) zeros))
  unfolding accepted_by dirty_after dirtied_by back_by new_by put_by last_after
  view-dropped =
      record {
        bytes = λ g. ap (λ (s : Shelf). s.bytes g) (shelf-dropped _);
        counts = λ o g. ap (λ (s : Shelf). s.counts o g) (shelf-dropped _);
        holds = λ b. ap (λ (s : Shelf). s.holds b) (shelf-dropped _);
        bads = λ g. ap (λ (s : Shelf). s.bad g) (shelf-dropped _);
        marks = λ g. ap (λ (x : Found). not (in_row m.rows x g) && v.dirty g) e;
        last = λ b. refl;
        put = λ g. refl;
      }

-- ---- the places, by the row that was looked for and whether one of the pages is pinned
abbrev drop_places : Found → Bool → List Place
drop_places r p = place 3 (no_row r) ∷ place 14 p ∷ []

missing-refused : no_row missing ≡ true
unfolding no_row
missing-refused = refl

module _ (m : Memory) (v : View) (k : Kept m v) (f : FileName) where
  -- the same number
  drop-number : (r : Found) → row_of m.rows f ≡ r
      → refusal_of (drop_places r (file_pinned m f)) ≡ refusal_of (place 3 (no_file r) ∷ place 14 (pages_pinned (shelf_of m v) r) ∷ [])
  unfolding no_row no_file
  drop-number (found r) e = refusal-same 3 _ _ refl (refusal-same 14 [] [] (file-pinned-same m v k f r e) refl)
  drop-number missing e = refusal-at 3 _ missing-refused ∙ sym (refusal-at 3 _ refl)

  -- ---- accepted
  module _ (r : ℕ) (e : row_of m.rows f ≡ found r) (none : file_pinned m f ≡ false) (z : refuses (shelf_of m v) (Drop f) ≡ 0) where
    -- with the unchanged parts shared by computation, and as the program leaves it
    drop-onto : (d : Memory) → Released m f (buffers m) d → Accepted m v (Drop f) zeros [] (dropped_memory m d r)
    unfolding accepted_by back_by new_by put_by flushed_after said_flushed
    drop-onto d x =
        record {
          number = z;
          answers = refl;
          shows = refl;
          many = sym x.many;
          wide = refl;
          cap = refl;
          rows = ap (λ (s : Shelf). s.rows) (shelf-dropped m v f r e _);
          inserted = ap (λ (s : Shelf). s.inserted) (shelf-dropped m v f r e _);
          flushed = highest-still (ledger_of m v) m.control.flushed (store_blocks m.rows);
          kept = kept-alike (dropped_memory m d r) (dropped_view m v r) _ (view-dropped m v f r e)
              (dropped-kept m v k f r e d x (none-pinned m f none));
          others = λ g b q. refl;
          long = refl;
          stored = λ g t. never t refl;
          settled = λ q. absurd (not-checkpoint refl q);
        }

    drop-accepted : Accepted m v (Drop f) zeros [] (rows_into (set_blocks m.rows r 0) (release_up_to f (buffers m) m))
    drop-accepted =
        let x = released-all m f none k.good in
        subst (λ (d : Memory). Accepted m v (Drop f) zeros [] (rows_into (set_blocks m.rows r 0) d)) (sym x.rest) (drop-onto _ x)

  drop-done : (r : Found) → row_of m.rows f ≡ r → refuses (shelf_of m v) (Drop f) ≡ 0
      → refusal_of (drop_places r (file_pinned m f)) ≡ 0
      → Ended m v (Drop f) (drop_at m f r)
  unfolding drop_at
  drop-done (found r) e z q =
      accepted-ended m v (Drop f) zeros [] _
      (drop-accepted r e (refusal-passed 14 _ [] (omega arith) (refusal-passed 3 _ _ (omega arith) q).1).0 z)
  drop-done missing e z q = never missing-refused (refusal-passed 3 _ _ (omega arith) q).0

pub drop-step : (m : Memory) (v : View) → Kept m v → (f : FileName) → Ended m v (Drop f) (step m (Drop f))
unfolding step drop_file places
drop-step m v k f =
    let r = row_of m.rows f in
    let number = drop-number m v k f r refl ∙ sym (refuses-is (shelf_of m v) (Drop f)) in
    call_step m v (Drop f) k (drop_places r (file_pinned m f)) (drop_at m f r) refl number
    (neither-place 3 _ _ (omega arith) (neither-place 14 _ [] (omega arith) neither-none))
    (λ q. drop-done m v k f r refl (sym number ∙ q) q)
