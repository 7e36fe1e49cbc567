-- Write agrees with the shelf.
use Prim.Native.Nat.{ℕ, ◌+◌, ◌^◌, ◌<◌}
use mathlib.Core.Path.{◌≡◌, refl, sym, ap, ◌∙◌}
use mathlib.Core.Bool.{Bool, ◌||◌}
use mathlib.Core.List.{List, [], ◌∷◌}
use native.Mathlib.Omega.{arith}
use lib.Dec.{eqb, ltb}
use lib.ListN.{length, length-set}
use borrow.Author.Tests.{ltb-false}
use Rattle.laws.specs.First.{Found}
use Rattle.laws.proofs.Tests.{never, or-neither}
use Rattle.bufmodel.specs.Word.{make_dirty}
use Rattle.bufmodel.specs.Position.{position}
use Rattle.bufmodel.specs.Rows.{store_blocks}
use Rattle.bufmodel.specs.Memory.{Memory, size, word_of, page_of}
use Rattle.bufmodel.specs.Outcome.{Place, place, refusal_of, zeros, done}
use Rattle.bufmodel.specs.Calls.{write_places, write_to, write}
use Rattle.bufmodel.specs.Step.{Write, step}
use Rattle.bufmodel.proofs.OutcomeLaws.{refusal-passed}
use Rattle.shelf.specs.Shelf.{too_low, places, refuses, written_at, shelf_after}
use Rattle.shelf.specs.Ledger.{back_by, new_by, put_by, dirtied_by, dirty_after, last_after, said_flushed, flushed_after, accepted_by}
use Rattle.shelf.proofs.CallKinds.{not-checkpoint}
use Rattle.shelf.proofs.Kept.{View, shelf_of, ledger_of, Kept, Ended}
use Rattle.shelf.proofs.KeptLaws.{same-position}
use Rattle.shelf.proofs.ShelfPlaces.{refuses-is}
use Rattle.shelf.proofs.Refused.{Neither, neither-none, neither-place, call_step}
use Rattle.shelf.proofs.Accepted.{Accepted, accepted-ended}
use Rattle.shelf.proofs.HighestLaws.{highest-still}
use Rattle.shelf.proofs.MemoryPlaces.{number_passed}
use Rattle.shelf.proofs.BufferPlaces.{PinnedPage, number-neither, pinned-page, number-page, number_same}
use Rattle.shelf.proofs.WriteKept.{WriteFits, write_kept}

-- ---- the places behind those of a buffer number
module _ (m : Memory) (from : ℕ) (bytes : List ℕ) (at : ℕ) where
  -- the places of the bytes and the position, where t is the last test
  abbrev later : Bool → List Place
  later t =
      place 9 (ltb (size m) (from + length bytes) || ltb from 8)
      ∷ place 10 (eqb (length bytes) 0)
      ∷ place 11 (ltb m.control.inserted at)
      ∷ place 12 t
      ∷ []

  -- neither 1 nor 2
  later-neither : (t : Bool) → Neither (refusal_of (later t))
  later-neither t =
      neither-place 9 _ _ (omega arith)
      (neither-place 10 _ _ (omega arith) (neither-place 11 _ _ (omega arith) (neither-place 12 t [] (omega arith) neither-none)))

  -- the last test alone can differ
  later_same : {t u : Bool} → t ≡ u → refusal_of (later t) ≡ refusal_of (later u)
  later_same e = ap (λ (t : Bool). refusal_of (later t)) e

  -- what is left where no place refuses
  later-fits : (t : Bool) → refusal_of (later t) ≡ 0 → WriteFits m from bytes at
  later-fits t e =
      let a = refusal-passed 9 _ _ (omega arith) e in
      let b = refusal-passed 10 _ _ (omega arith) a.1 in
      let c = refusal-passed 11 _ _ (omega arith) b.1 in
      let n = or-neither (ltb (size m) (from + length bytes)) (ltb from 8) a.0 in
      record { inside = ltb-false _ _ n.0; behind = ltb-false _ _ n.1; low = ltb-false _ _ c.0 }

module _ (m : Memory) (v : View) (k : Kept m v) (o i from : ℕ) (bytes : List ℕ) (at : ℕ) where
  -- the page in the pool is the shelf's, so their positions are one
  low_same : PinnedPage m v i → ltb at (position (page_of m i)) ≡ too_low (shelf_of m v) at (v.holds i)
  unfolding too_low
  low_same p =
      ap (ltb at) (sym (same-position p.same)) ∙ ap (λ (f : Found). too_low (shelf_of m v) at f) (sym p.holds)

  write-number : refusal_of (write_places m o i from bytes at) ≡ refuses (shelf_of m v) (Write o i from bytes at)
  unfolding write_places places
  write-number =
      number_same m v k o i _ _ (λ h e. later_same m from bytes at (low_same (pinned-page m v k i h e))) ∙ sym (refuses-is _ _)

  write-neither : Neither (refusal_of (write_places m o i from bytes at))
  unfolding write_places
  write-neither = number-neither m o i _ (later-neither m from bytes at _)

  -- an accepted write is to a pinned buffer's page, and fits there
  write-passed : refusal_of (write_places m o i from bytes at) ≡ 0 → PinnedPage m v i × WriteFits m from bytes at
  unfolding write_places
  write-passed e = (number-page m v k o i _ e, later-fits m from bytes at _ (number_passed m o i _ e).2)

  write-accepted : at < 2 ^ 64 → refusal_of (write_places m o i from bytes at) ≡ 0
      → Accepted m v (Write o i from bytes at) zeros bytes (write_to m i from bytes at)
  unfolding write_to accepted_by shelf_after written_at dirty_after dirtied_by back_by new_by put_by last_after flushed_after said_flushed
  write-accepted short e =
      let p = write-passed e in
      record {
        number = sym write-number ∙ e;
        answers = refl;
        shows = refl;
        many = sym (length-set m.states i (make_dirty (word_of m i)));
        wide = refl;
        cap = refl;
        rows = ap (λ (f : Found). (written_at (shelf_of m v) from bytes at f).rows) p.0.holds;
        inserted = ap (λ (f : Found). (written_at (shelf_of m v) from bytes at f).inserted) p.0.holds;
        flushed = highest-still (ledger_of m v) m.control.flushed (store_blocks m.rows);
        kept = write_kept m v from bytes at k short p.1 i p.0;
        others = λ g b z. refl;
        long = refl;
        stored = λ g t. never t refl;
        settled = λ q. absurd (not-checkpoint refl q);
      }

pub write_step : (m : Memory) (v : View) → Kept m v → (o i from : ℕ) (bytes : List ℕ) (at : ℕ) → at < 2 ^ 64
    → Ended m v (Write o i from bytes at) (step m (Write o i from bytes at))
unfolding step write
write_step m v k o i from bytes at short =
    call_step m v (Write o i from bytes at) k (write_places m o i from bytes at) (done zeros bytes (write_to m i from bytes at)) refl
    (write-number m v k o i from bytes at) (write-neither m v k o i from bytes at)
    (λ e.
    accepted-ended m v (Write o i from bytes at) zeros bytes _ (write-accepted m v k o i from bytes at short e))
