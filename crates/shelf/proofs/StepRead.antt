-- Read agrees with the shelf.
use Prim.Native.Nat.{ℕ, ◌+◌}
use mathlib.Core.Path.{◌≡◌, refl, sym, ap, ◌∙◌}
use mathlib.Core.Bool.{false}
use mathlib.Core.List.{List, [], ◌∷◌}
use native.Mathlib.Omega.{arith}
use lib.Dec.{ltb}
use lib.ListN.{length, take, drop}
use Rattle.bufmodel.specs.Memory.{Memory, size, page_of}
use Rattle.bufmodel.specs.Outcome.{Place, place, refusal_of, zeros}
use Rattle.bufmodel.specs.Calls.{buffer_places, read}
use Rattle.bufmodel.specs.Step.{Read, step}
use Rattle.bufmodel.proofs.ChecksumLaws.{bare-part}
use Rattle.shelf.specs.Shelf.{places, refuses, shelf_after}
use Rattle.shelf.specs.Ledger.{back_by, new_by, put_by, dirtied_by, dirty_after, last_after, said_flushed, flushed_after, accepted_by}
use Rattle.shelf.proofs.CallKinds.{not-checkpoint}
use Rattle.shelf.proofs.Kept.{View, shelf_of, ledger_of, Kept, Ended}
use Rattle.shelf.proofs.ShelfPlaces.{refuses-is}
use Rattle.shelf.proofs.Refused.{neither-none, neither-place, call_step}
use Rattle.shelf.proofs.Accepted.{Accepted, accepted-ended, ledger_then}
use Rattle.shelf.proofs.Unchanged.{ledger-stays, unchanged}
use Rattle.shelf.proofs.BufferPlaces.{number-neither, number-page, number_same}

module _ (m : Memory) (v : View) (k : Kept m v) (o i from : ℕ) (out : List ℕ) where
  -- the ledger stays
  read-ledger : (answer : List ℕ) → ledger_then m v (Read o i from out) answer ≡ ledger_of m v
  unfolding accepted_by shelf_after dirty_after dirtied_by back_by new_by put_by last_after flushed_after said_flushed
  read-ledger answer = ledger-stays m v

  read_none : (g : ℕ) → put_by (ledger_of m v) (Read o i from out) zeros g ≡ false
  unfolding put_by back_by new_by
  read_none g = refl

  abbrev ps : List Place
  ps = place 9 (ltb (size m) (from + length out)) ∷ []

  read_number : refusal_of (buffer_places m o i ps) ≡ refuses (shelf_of m v) (Read o i from out)
  unfolding places
  read_number = number_same m v k o i ps ps (λ h e. refl) ∙ sym (refuses-is _ _)

  -- the bytes are those of the page that the number holds
  read-accepted : refusal_of (buffer_places m o i ps) ≡ 0
      → Accepted m v (Read o i from out) zeros (take (length out) (drop from (page_of m i))) m
  read-accepted e =
      let p = number-page m v k o i ps e in
      let filled =
      bare-part from (length out) (page_of m i) ∙ ap (λ (x : List ℕ). take (length out) (drop from x)) (sym p.same.bytes) in
      unchanged m v k (Read o i from out) zeros _ (read-ledger zeros) (not-checkpoint refl) (sym read_number ∙ e)
      refl (p.page, p.holds, filled) read_none

  pub read_step : Ended m v (Read o i from out) (step m (Read o i from out))
  unfolding step read
  read_step =
      call_step m v (Read o i from out) k (buffer_places m o i ps) _ refl read_number
      (number-neither m o i ps (neither-place 9 _ [] (omega arith) neither-none))
      (λ e. accepted-ended m v (Read o i from out) zeros _ m (read-accepted e))
