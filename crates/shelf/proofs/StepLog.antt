-- Log inserted and log flushed agree with the shelf.
use Prim.Native.Nat.{ℕ, ◌≤◌, max}
use mathlib.Core.Path.{◌≡◌, refl, sym, ◌∙◌}
use mathlib.Core.List.{[], ◌∷◌}
use native.Mathlib.Omega.{arith}
use lib.Dec.{ltb}
use borrow.Author.Tests.{ltb-false}
use Rattle.laws.proofs.Tests.{never}
use Rattle.bufmodel.specs.Rows.{store_blocks}
use Rattle.bufmodel.specs.Memory.{Memory, with_inserted, with_flushed}
use Rattle.bufmodel.specs.Books.{empty_at}
use Rattle.bufmodel.specs.Outcome.{place, zeros, done}
use Rattle.bufmodel.specs.Calls.{log_inserted, log_flushed}
use Rattle.bufmodel.specs.Step.{LogInserted, LogFlushed, step}
use Rattle.bufmodel.proofs.LikeLaws.{like-good}
use Rattle.bufmodel.proofs.OutcomeLaws.{refusal-passed}
use Rattle.shelf.specs.Shelf.{places, refuses, shelf_after}
use Rattle.shelf.specs.Ledger.{back_by, new_by, put_by, dirtied_by, dirty_after, last_after, said_flushed, flushed_after, accepted_by}
use Rattle.shelf.proofs.CallKinds.{not-checkpoint}
use Rattle.shelf.proofs.Kept.{View, shelf_of, ledger_of, Kept, Ended}
use Rattle.shelf.proofs.ShelfPlaces.{refuses-is}
use Rattle.shelf.proofs.Refused.{neither-none, neither-place, call_step}
use Rattle.shelf.proofs.Accepted.{Accepted, accepted-ended}
use Rattle.shelf.proofs.HighestLaws.{highest-still}

module _ (m : Memory) (v : View) (k : Kept m v) (p : ℕ) where
  -- ---- other log positions alone
  kept-log : (inserted flushed : ℕ) → m.control.inserted ≤ inserted → m.control.flushed ≤ flushed → flushed ≤ inserted
      → Kept (with_inserted inserted (with_flushed flushed m)) v
  unfolding empty_at
  kept-log inserted flushed hi hf h =
      let g = k.good.books in
      record {
        good =
            like-good m k.good m.control.hand inserted flushed m.states m.pool m.store g.hand h refl refl refl
            (λ i b. refl)
            g.words (λ i b d. omega (arith, g.low i b d)) (λ i b. refl);
        words = k.words;
        same = λ i q x.
            let s = k.same i q (record { below = x.below; full = x.full; place = x.place }) in
            record { bytes = s.bytes; counts = s.counts; marked = s.marked; last = s.last; clean = s.clean; fine = s.fine };
        unpinned = λ q x. k.unpinned q (λ i y. x i (record { below = y.below; full = y.full; place = y.place }));
        unmarked = λ q x. k.unmarked q (λ i y. x i (record { below = y.below; full = y.full; place = y.place }));
        stored = λ n q e x. k.stored n q e (λ i y. x i (record { below = y.below; full = y.full; place = y.place }));
        passed = k.passed;
        known = k.known;
        holds = k.holds;
        put = λ q e. ((k.put q e).0, omega (arith, (k.put q e).1));
      }

  -- ---- log flushed
  flushed-accepted : refuses (shelf_of m v) (LogFlushed p) ≡ 0 → p ≤ m.control.inserted
      → Accepted m v (LogFlushed p) zeros [] (with_flushed (max m.control.flushed p) m)
  unfolding accepted_by shelf_after dirty_after dirtied_by back_by new_by put_by last_after flushed_after said_flushed
  flushed-accepted e h =
      record {
        number = e;
        answers = refl;
        shows = refl;
        many = refl;
        wide = refl;
        cap = refl;
        rows = refl;
        inserted = refl;
        flushed = highest-still (ledger_of m v) (max m.control.flushed p) (store_blocks m.rows);
        kept =
            kept-log m.control.inserted (max m.control.flushed p) (omega arith) (omega arith)
            (omega (arith, k.good.books.log));
        others = λ g b z. refl;
        long = refl;
        stored = λ g t. never t refl;
        settled = λ q. absurd (not-checkpoint refl q);
      }

  pub flushed-step : Ended m v (LogFlushed p) (step m (LogFlushed p))
  unfolding step log_flushed places
  flushed-step =
      let ps = place 16 (ltb m.control.inserted p) ∷ [] in
      let number = refuses-is (shelf_of m v) (LogFlushed p) in
      call_step m v (LogFlushed p) k ps (done zeros [] (with_flushed (max m.control.flushed p) m)) refl (sym number)
      (neither-place 16 _ [] (omega arith) neither-none)
      (λ e.
      accepted-ended m v (LogFlushed p) zeros [] _
      (flushed-accepted (number ∙ e) (ltb-false _ _ (refusal-passed 16 _ [] (omega arith) e).0)))

  -- ---- log inserted
  inserted-accepted : refuses (shelf_of m v) (LogInserted p) ≡ 0 → m.control.inserted ≤ p
      → Accepted m v (LogInserted p) zeros [] (with_inserted p m)
  unfolding accepted_by shelf_after dirty_after dirtied_by back_by new_by put_by last_after flushed_after said_flushed
  inserted-accepted e h =
      record {
        number = e;
        answers = refl;
        shows = refl;
        many = refl;
        wide = refl;
        cap = refl;
        rows = refl;
        inserted = refl;
        flushed = highest-still (ledger_of m v) m.control.flushed (store_blocks m.rows);
        kept = kept-log p m.control.flushed h (omega arith) (omega (arith, k.good.books.log));
        others = λ g b z. refl;
        long = refl;
        stored = λ g t. never t refl;
        settled = λ q. absurd (not-checkpoint refl q);
      }

  pub inserted-step : Ended m v (LogInserted p) (step m (LogInserted p))
  unfolding step log_inserted places
  inserted-step =
      let ps = place 15 (ltb p m.control.inserted) ∷ [] in
      let number = refuses-is (shelf_of m v) (LogInserted p) in
      call_step m v (LogInserted p) k ps (done zeros [] (with_inserted p m)) refl (sym number)
      (neither-place 15 _ [] (omega arith) neither-none)
      (λ e.
      accepted-ended m v (LogInserted p) zeros [] _
      (inserted-accepted (number ∙ e) (ltb-false _ _ (refusal-passed 15 _ [] (omega arith) e).0)))
