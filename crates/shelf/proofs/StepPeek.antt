-- Peek agrees with the shelf.
use Prim.Native.Nat.{ℕ}
use mathlib.Core.Path.{◌≡◌, refl, sym, ap, ◌∙◌}
use mathlib.Core.Bool.{false}
use mathlib.Core.List.{List, []}
use Rattle.laws.specs.First.{found}
use Rattle.laws.specs.Block.{block}
use Rattle.buftag.specs.Lookup.{Held}
use Rattle.std.specs.Prelude.{Some, None}
use Rattle.buftag.specs.declared.name.PageName.{PageName}
use Rattle.bufmodel.specs.Checksum.{bare}
use Rattle.bufmodel.specs.Rows.{place_of}
use Rattle.bufmodel.specs.Memory.{Memory, size}
use Rattle.bufmodel.specs.Outcome.{two, done}
use Rattle.bufmodel.specs.Pin.{page_places, held_in}
use Rattle.bufmodel.specs.Calls.{offset_of, part_of, part_in, part_at, part, peek}
use Rattle.bufmodel.specs.Step.{Peek, step}
use Rattle.shelf.specs.Shelf.{places, refuses, shelf_after}
use Rattle.shelf.specs.Ledger.{back_by, new_by, put_by, dirtied_by, dirty_after, last_after, said_flushed, flushed_after, accepted_by}
use Rattle.shelf.proofs.CallKinds.{not-checkpoint}
use Rattle.shelf.proofs.Kept.{View, shelf_of, ledger_of, Kept, Ended}
use Rattle.shelf.proofs.ShelfPlaces.{refuses-is}
use Rattle.shelf.proofs.Refused.{neither-none, call_step}
use Rattle.shelf.proofs.Accepted.{Accepted, accepted-ended, ledger_then}
use Rattle.shelf.proofs.Unchanged.{ledger-stays, unchanged}
use Rattle.shelf.proofs.NamePage.{held-has, held-nobody}
use Rattle.shelf.proofs.PagePlaces.{page-number, page-neither, page-passed}

-- the part in the store, where the place is known
part-store : (m : Memory) (n : PageName) {g : ℕ} → place_of m.rows n ≡ found g
    → part (done (part_of m n None) [] m) ≡ block (size m) g m.store
unfolding part_of offset_of part_in part_at part block
part-store m n e = rw e

module _ (m : Memory) (v : View) (k : Kept m v) (n : PageName) where
  -- the ledger stays
  peek-ledger : (answer : List ℕ) → ledger_then m v (Peek n) answer ≡ ledger_of m v
  unfolding accepted_by shelf_after dirty_after dirtied_by back_by new_by put_by last_after flushed_after said_flushed
  peek-ledger answer = ledger-stays m v

  peek-none : (answer : List ℕ) (g : ℕ) → put_by (ledger_of m v) (Peek n) answer g ≡ false
  unfolding put_by back_by new_by
  peek-none answer g = refl

  -- the part handed back is the page, by where the look-up found it
  peek-part : (g : ℕ) → place_of m.rows n ≡ found g → (h : Held) → held_in m n ≡ h
      → bare (part (done (part_of m n h) [] m)) ≡ bare (v.bytes g)
  unfolding part_of part_in part_at part block
  peek-part g e (Some b) q = sym (k.same b.0 g (held-has m k.good n g e b q)).bytes
  peek-part g e None q = ap bare (part-store m n e) ∙ sym (k.stored n g e (held-nobody m k.good n g e q))

  -- the answer: which, and an offset
  two-words : (h : Held) → (which offset : ℕ) × (part_of m n h ≡ two which offset)
  unfolding part_of
  two-words (Some b) = (1, _, refl)
  two-words None = (0, _, refl)

  peek-accepted : refuses (shelf_of m v) (Peek n) ≡ 0 → (g : ℕ) → place_of m.rows n ≡ found g
      → Accepted m v (Peek n) (part_of m n (held_in m n)) [] m
  peek-accepted e g q =
      unchanged m v k (Peek n) _ [] (peek-ledger _) (not-checkpoint refl) e (two-words (held_in m n))
      (g, q, peek-part g q (held_in m n) refl, refl)
      (peek-none _)

  pub peek-step : Ended m v (Peek n) (step m (Peek n))
  unfolding step peek places
  peek-step =
      let number = page-number m v k n [] [] (λ g e. refl) ∙ sym (refuses-is (shelf_of m v) (Peek n)) in
      call_step m v (Peek n) k (page_places m n []) _ refl number (page-neither m n [] neither-none)
      (λ e.
      let p = page-passed m n [] e in
      accepted-ended m v (Peek n) _ [] m (peek-accepted (sym number ∙ e) p.0 p.1))
