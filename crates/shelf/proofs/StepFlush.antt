-- Flush agrees with the shelf.
use Prim.Native.Nat.{ℕ, max}
use mathlib.Core.Path.{◌≡◌, refl, sym, ap, ◌∙◌, subst}
use mathlib.Core.Bool.{Bool, true, false, ◌&&◌, and-true, and-false, or-false}
use mathlib.Core.Logic.{⊎_elim}
use mathlib.Core.List.{[]}
use lib.ListN.{length-set}
use Rattle.laws.specs.Sum.{ind}
use Rattle.laws.specs.First.{found}
use Rattle.laws.specs.Block.{block}
use Rattle.laws.proofs.First.{found-same}
use Rattle.laws.proofs.Tests.{true-or-false, eq-or-ne, never}
use Rattle.bufmodel.specs.Word.{dirty}
use Rattle.bufmodel.specs.Checksum.{bare}
use Rattle.bufmodel.specs.Rows.{store_blocks}
use Rattle.bufmodel.specs.Memory.{Memory, size, word_of}
use Rattle.bufmodel.specs.Moves.{write_back}
use Rattle.bufmodel.specs.Outcome.{one, done}
use Rattle.bufmodel.specs.Calls.{buffer_places, flush}
use Rattle.bufmodel.specs.Step.{Flush, step}
use Rattle.shelf.specs.Shelf.{places, refuses, shelf_after}
use Rattle.shelf.specs.Ledger.{is_place, highest}
use Rattle.shelf.specs.Ledger.{back_by, new_by, put_by, dirtied_by, dirty_after, last_after, said_flushed, flushed_after, accepted_by}
use Rattle.shelf.proofs.CallKinds.{not-checkpoint}
use Rattle.shelf.proofs.Kept.{View, shelf_of, ledger_of, Has, Kept, Ended}
use Rattle.shelf.proofs.KeptLaws.{same-position, is_place-true, is_place-self, is_place-other, kept-alike}
use Rattle.shelf.proofs.ShelfPlaces.{refuses-is}
use Rattle.shelf.proofs.Refused.{neither-none, call_step}
use Rattle.shelf.proofs.Accepted.{Accepted, accepted-ended}
use Rattle.shelf.proofs.HighestLaws.{highest-none, highest-one}
use Rattle.bufmodel.proofs.CleanLaws.{back-clean}
use Rattle.shelf.proofs.BackKept.{back_of, back-has, back-own, back-dirty}
use Rattle.bufmodel.proofs.CleanLaws.{back-clean}
use Rattle.shelf.proofs.BackKept.{place-below, back_long, back-other, view_back, kept-back_of}
use Rattle.shelf.proofs.BufferPlaces.{number_same, number-neither, number-page}

module _ (m : Memory) (v : View) (k : Kept m v) (o i g : ℕ) (x : Has m i g) (held : v.holds i ≡ found g) where
  abbrev back : ℕ → Bool
  back h = is_place (v.holds i) h && v.dirty h

  -- written back is the page of the buffer named, if it is dirty
  back_is : (h : ℕ) → back h ≡ (is_place (found g) h && dirty (word_of m i))
  back_is h =
      rw held
      (⊎_elim
      (λ e. rw e (ap (λ (t : Bool). is_place (found g) g && t) (k.same i g x).marked))
      (λ ne. rw (is_place-other g h ne))
      (eq-or-ne h g))

  module _ (number : refuses (shelf_of m v) (Flush o i) ≡ 0) (count : ℕ) where
    -- ---- a page that is not dirty
    module _ (d : dirty (word_of m i) ≡ false) where
      back_none : (h : ℕ) → back h ≡ false
      back_none h = back_is h ∙ rw d (and-false (is_place (found g) h))

      clean-accepted : Accepted m v (Flush o i) (one count) [] m
      unfolding accepted_by shelf_after dirty_after dirtied_by back_by new_by put_by last_after flushed_after said_flushed
      clean-accepted =
          record {
            number = number;
            answers = (count, refl);
            shows = refl;
            many = refl;
            wide = refl;
            cap = refl;
            rows = refl;
            inserted = refl;
            flushed = highest-none (ledger_of m v) back m.control.flushed (store_blocks m.rows) (λ h b. back_none h);
            kept =
                kept-alike m v _
                (record {
                  bytes = λ h. refl;
                  counts = λ u h. refl;
                  holds = λ b. refl;
                  bads = λ h. refl;
                  marks = λ h. rw (back_none h);
                  last = λ b. refl;
                  put = λ h. rw (back_none h);
                }) k;
            others = λ h b z. refl;
            long = refl;
            stored = λ h t. never t (or-false (back h) ∙ back_none h);
            settled = λ q. absurd (not-checkpoint refl q);
          }

    -- ---- a dirty page
    module _ (d : dirty (word_of m i) ≡ true) where
      back_one : (h : ℕ) → back h ≡ is_place (found g) h
      back_one h = back_is h ∙ rw d (and-true (is_place (found g) h))

      flushed-one : highest (ledger_of m v) (store_blocks m.rows) back m.control.flushed ≡ (back_of m i g).control.flushed
      flushed-one =
          highest-one (ledger_of m v) back m.control.flushed (store_blocks m.rows) g (place-below m v k i g x)
          (back_one g ∙ is_place-self g) (λ h b e. sym (found-same (is_place-true (found g) h (sym (back_one h) ∙ e))))
          ∙ ap (max m.control.flushed) (same-position (k.same i g x))

      -- its block has the page's bytes
      one-stored : (h : ℕ) → g ≡ h → bare (block (size m) h (back_of m i g).store) ≡ bare (v.bytes h)
      one-stored h e =
          subst (λ (j : ℕ). bare (block (size m) j (back_of m i g).store) ≡ bare (v.bytes j)) e
          (let same = (kept-back_of m v k i g x d).same i g (back-has m v k i g x i g x) in
          same.clean (back-own m v k i g x) ∙ sym same.bytes)

      dirty-accepted : Accepted m v (Flush o i) (one count) [] (back_of m i g)
      unfolding accepted_by shelf_after dirty_after dirtied_by back_by new_by put_by last_after flushed_after said_flushed
      dirty-accepted =
          record {
            number = number;
            answers = (count, refl);
            shows = refl;
            many = simp length-set;
            wide = refl;
            cap = refl;
            rows = refl;
            inserted = refl;
            flushed = flushed-one;
            kept =
                kept-alike (back_of m i g) (view_back v g) _
                (record {
                  bytes = λ h. refl;
                  counts = λ u h. refl;
                  holds = λ b. refl;
                  bads = λ h. refl;
                  marks = λ h. rw (back_one h);
                  last = λ b. refl;
                  put = λ h. rw (back_one h, or-false);
                }) (kept-back_of m v k i g x d);
            others = λ h b z. back-other m v k i g x h
                (λ e. never (ap (is_place (found g)) e ∙ is_place-self g) (sym (back_one h) ∙ sym (or-false (back h)) ∙ z));
            long = back_long m v k i g x;
            stored = λ h t. one-stored h (found-same (is_place-true (found g) h (sym (back_one h) ∙ sym (or-false (back h)) ∙ t)));
            settled = λ q. absurd (not-checkpoint refl q);
          }

    flush-ended : Ended m v (Flush o i) (done (one count) [] (write_back m i))
    flush-ended =
        ⊎_elim
        (λ d.
        subst (λ (y : Memory). Ended m v (Flush o i) (done (one count) [] y)) (sym (back-dirty m i g x.place d))
        (accepted-ended m v (Flush o i) (one count) [] _ (dirty-accepted d)))
        (λ d.
        subst (λ (y : Memory). Ended m v (Flush o i) (done (one count) [] y)) (sym (back-clean m i d))
        (accepted-ended m v (Flush o i) (one count) [] _ (clean-accepted d)))
        (true-or-false (dirty (word_of m i)))

pub flush-step : (m : Memory) (v : View) → Kept m v → (o i : ℕ) → Ended m v (Flush o i) (step m (Flush o i))
unfolding step flush places
flush-step m v k o i =
    let number = number_same m v k o i [] [] (λ h e. refl) ∙ sym (refuses-is (shelf_of m v) (Flush o i)) in
    call_step m v (Flush o i) k (buffer_places m o i []) (done (one (ind (dirty (word_of m i)))) [] (write_back m i)) refl
    number (number-neither m o i [] neither-none)
    (λ e.
    let p = number-page m v k o i [] e in
    flush-ended m v k o i p.page p.has p.holds (sym number ∙ e) (ind (dirty (word_of m i))))
