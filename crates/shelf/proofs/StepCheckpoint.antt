-- Checkpoint agrees with the shelf.
use Prim.Native.Nat.{ℕ, ◌≤◌}
use mathlib.Core.Path.{◌≡◌, refl, sym, ◌∙◌, subst}
use mathlib.Core.Bool.{true, false, ◌||◌, and-true, not-and_self, or-false}
use mathlib.Core.Logic.{⊎_elim}
use mathlib.Core.List.{[]}
use native.Mathlib.Omega.{arith}
use Rattle.laws.specs.Sum.{count}
use Rattle.laws.specs.First.{found}
use Rattle.laws.specs.Block.{block}
use Rattle.laws.proofs.Tests.{never}
use Rattle.buftag.specs.declared.name.PageName.{PageName}
use Rattle.bufmodel.specs.Checksum.{bare}
use Rattle.bufmodel.specs.Word.{dirty}
use Rattle.bufmodel.specs.Position.{position}
use Rattle.bufmodel.specs.Rows.{store_blocks, place_of}
use Rattle.bufmodel.specs.Memory.{Memory, buffers, size, word_of, name_of}
use Rattle.bufmodel.specs.Moves.{write_up_to}
use Rattle.bufmodel.specs.Outcome.{one, done}
use Rattle.bufmodel.specs.Calls.{checkpoint}
use Rattle.bufmodel.specs.Step.{Checkpoint, step}
use Rattle.bufmodel.proofs.ChecksumLaws.{alike-position}
use Rattle.bufmodel.proofs.RowsLaws.{place-row}
use Rattle.shelf.specs.Shelf.{places, refuses, shelf_after}
use Rattle.shelf.specs.Ledger.{highest}
use Rattle.shelf.specs.Ledger.{back_by, new_by, put_by, dirtied_by, dirty_after, last_after, said_flushed, flushed_after, accepted_by}
use Rattle.shelf.proofs.Kept.{View, shelf_of, ledger_of, Has, Kept, Ended}
use Rattle.shelf.proofs.KeptLaws.{some_or_none, kept-alike}
use Rattle.shelf.proofs.ShelfPlaces.{refuses-is}
use Rattle.shelf.proofs.Refused.{neither-none, call_step}
use Rattle.shelf.proofs.Accepted.{Accepted, accepted-ended}
use Rattle.shelf.proofs.HighestLaws.{highest-is}
use Rattle.shelf.proofs.BackUpTo.{back_with, view_with, BackUpTo, back-up-to}

module _ (m : Memory) (v : View) (k : Kept m v) (r : BackUpTo m v (buffers m)) where
  abbrev now : Memory
  now = back_with m r.flushed r.words r.store

  -- no buffer's page is dirty any more
  word-clean : (i g : ℕ) → Has now i g → dirty (word_of now i) ≡ false
  word-clean i g x = r.clean i (omega (arith, r.many, x.below))

  -- so no page is
  none-dirty : (g : ℕ) → r.marks g ≡ false
  none-dirty g =
      ⊎_elim
      (λ s. (r.kept.same s.0 g s.1).marked ∙ word-clean s.0 g s.1)
      (λ none. r.kept.unmarked g none)
      (some_or_none now r.kept.good g)

  -- and each page has its bytes in the store
  all-stored : (n : PageName) (g : ℕ) → place_of m.rows n ≡ found g → bare (block (size m) g r.store) ≡ bare (v.bytes g)
  all-stored n g e =
      ⊎_elim
      (λ s.
      let same = r.kept.same s.0 g s.1 in
      same.clean (word-clean s.0 g s.1) ∙ sym same.bytes)
      (λ none. sym (r.kept.stored n g e none))
      (some_or_none now r.kept.good g)

  -- put were the dirty pages
  put-now : (g : ℕ) → r.puts g ≡ (v.dirty g || v.put g)
  put-now g = r.put g ∙ rw (none-dirty g, and-true)

  -- a page that was dirty is in the store, so its position is at or below flushed
  dirty-stored : (g : ℕ) → v.dirty g ≡ true → bare (block (size m) g r.store) ≡ bare (v.bytes g)
  dirty-stored g d =
      ⊎_elim (λ s. all-stored (name_of m s.0) g s.1.place) (λ none. never d (k.unmarked g none)) (some_or_none m k.good g)

  dirty-low : (g : ℕ) → v.dirty g ≡ true → position (v.bytes g) ≤ r.flushed
  dirty-low g d = omega (arith, (r.kept.put g (put-now g ∙ rw d refl)).1, alike-position _ _ (dirty-stored g d))

  -- and flushed is the largest of them
  flushed-now : highest (ledger_of m v) (store_blocks m.rows) v.dirty m.control.flushed ≡ r.flushed
  flushed-now =
      highest-is (ledger_of m v) v.dirty m.control.flushed (store_blocks m.rows) _
      (record { first = r.above; each = λ g l. dirty-low g }) r.least

  checkpoint-accepted : refuses (shelf_of m v) Checkpoint ≡ 0 → (n : ℕ) → Accepted m v Checkpoint (one n) [] now
  unfolding accepted_by shelf_after dirty_after dirtied_by back_by new_by put_by last_after flushed_after said_flushed
  checkpoint-accepted number n =
      record {
        number = number;
        answers = (n, refl);
        shows = refl;
        many = sym r.many;
        wide = refl;
        cap = refl;
        rows = refl;
        inserted = refl;
        flushed = flushed-now;
        kept =
            kept-alike now (view_with v r.marks r.puts) _
            (record {
              bytes = λ h. refl;
              counts = λ o h. refl;
              holds = λ b. refl;
              bads = λ h. refl;
              marks = λ h. not-and_self (v.dirty h) ∙ sym (none-dirty h);
              last = λ b. refl;
              put = λ h. rw or-false (sym (put-now h));
            }) r.kept;
        others = λ g b z. r.others g (sym (or-false (v.dirty g)) ∙ z);
        long = r.kept.good.sizes.store ∙ sym k.good.sizes.store;
        stored = λ g t. dirty-stored g (sym (or-false (v.dirty g)) ∙ t);
        settled = λ q f b l h. let p = place-row m.rows k.good.sizes.rows f b l h in all-stored p.0 _ p.1;
      }

  checkpoint-ended : refuses (shelf_of m v) Checkpoint ≡ 0 → (n : ℕ)
      → Ended m v Checkpoint (done (one n) [] (write_up_to (buffers m) m))
  checkpoint-ended number n =
      subst (λ (o : Memory). Ended m v Checkpoint (done (one n) [] o)) (sym r.is)
      (accepted-ended m v Checkpoint (one n) [] now (checkpoint-accepted number n))

pub checkpoint-step : (m : Memory) (v : View) → Kept m v → Ended m v Checkpoint (step m Checkpoint)
unfolding step checkpoint places
checkpoint-step m v k =
    let n = count (buffers m) (λ i. dirty (word_of m i)) in
    let number = refuses-is (shelf_of m v) Checkpoint in
    call_step m v Checkpoint k [] (done (one n) [] (write_up_to (buffers m) m)) refl (sym number) neither-none
    (λ e. checkpoint-ended m v k (back-up-to m v k (buffers m) (omega arith)) (number ∙ e) n)
