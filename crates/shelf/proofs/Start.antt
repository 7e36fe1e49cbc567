-- An accepted set up: the relation holds between the memory that it leaves and the first ledger.
use Prim.Native.Nat.{ℕ, ◌≤◌}
use mathlib.Core.Path.{◌≡◌, refl, sym, ap, ◌∙◌, subst}
use mathlib.Core.Bool.{Bool, false, not, cond}
use mathlib.Core.List.{[], ◌∷◌}
use native.Mathlib.Omega.{arith}
use lib.Dec.{leb}
use borrow.Author.Tests.{leb-true, not-false}
use Rattle.laws.specs.First.{missing}
use Rattle.laws.proofs.Tests.{and_left, and_right, never}
use Rattle.bufmodel.specs.Word.{max_cap, sound_cap, pinned}
use Rattle.bufmodel.specs.Rows.{place_of}
use Rattle.bufmodel.specs.Memory.{Memory, word_of, name_of}
use Rattle.bufmodel.specs.Sizes.{sized_for, SizedFor}
use Rattle.bufmodel.specs.Outcome.{Outcome, place, refusal_of, zeros, done}
use Rattle.bufmodel.specs.Calls.{fresh, set_up}
use Rattle.bufmodel.proofs.HeldLaws.{empty-unpinned}
use Rattle.bufmodel.proofs.SizesLaws.{sizes-say}
use Rattle.bufmodel.proofs.OutcomeLaws.{refusal-passed, outcome-done, outcome-number}
use Rattle.bufmodel.proofs.FreshLaws.{fresh-many, fresh-empty, fresh-good}
use Rattle.shelf.specs.Shelf.{first_shelf}
use Rattle.shelf.specs.Ledger.{first_ledger}
use Rattle.shelf.proofs.FirstBad.{bad-first, bad-known}
use Rattle.shelf.proofs.Kept.{ledger_of, view_of, Kept}

module _ (m : Memory) (p at cap : ℕ) where
  -- ---- what an accepted set up tells: its places refused nothing, so the sizes fit, the cap is sound, and the memory is the fresh one
  set-up-passed : (set_up m p at cap).refusal ≡ 0 → refusal_of (place 1 (not (sized_for p m)) ∷ place 18 (not (sound_cap cap)) ∷ []) ≡ 0
  unfolding set_up
  set-up-passed e = sym (outcome-number [] m (done zeros [] (fresh m p at cap)) _ refl) ∙ e

  set-up-sized : (set_up m p at cap).refusal ≡ 0 → SizedFor p m
  set-up-sized e =
      (sizes-say p m).holds (not-false _ (refusal-passed 1 _ _ (omega arith) (set-up-passed e)).0)

  set-up-capped : (set_up m p at cap).refusal ≡ 0 → (1 ≤ cap) × (cap ≤ max_cap)
  unfolding sound_cap
  set-up-capped e =
      let t = not-false _ (refusal-passed 18 _ [] (omega arith) (refusal-passed 1 _ _ (omega arith) (set-up-passed e)).1).0 in
      (leb-true 1 cap (and_left (leb 1 cap) (leb cap max_cap) t), leb-true cap max_cap (and_right (leb 1 cap) (leb cap max_cap) t))

  set-up-after : (set_up m p at cap).refusal ≡ 0 → (set_up m p at cap).after ≡ fresh m p at cap
  unfolding set_up
  set-up-after e = ap (λ (o : Outcome). o.after) (outcome-done [] m (done zeros [] (fresh m p at cap)) (set-up-passed e))

  -- ---- no buffer has a page, and none is pinned
  fresh-unpinned : (i : ℕ) → pinned (word_of (fresh m p at cap) i) ≡ false
  fresh-unpinned i = empty-unpinned (fresh m p at cap) i (fresh-empty m p at cap i)

  fresh_kept : SizedFor p m → (1 ≤ cap) × (cap ≤ max_cap) → Kept (fresh m p at cap) (view_of (first_ledger m p at cap))
  unfolding first_ledger first_shelf fresh
  fresh_kept s c =
      record {
        good = fresh-good m p at cap s c;
        words = λ i l e. never (fresh-empty m p at cap i) e;
        same = λ i g x. never (fresh-empty m p at cap i) x.full;
        unpinned = λ g x h l. refl;
        unmarked = λ g x. refl;
        stored = λ n g e x. refl;
        passed = bad-first m.rows s.rows p m.store;
        known = bad-known m.rows s.rows p m.store;
        holds = λ i l. ap (λ (t : Bool). cond t (place_of m.rows (name_of (fresh m p at cap) i)) missing) (sym (fresh-unpinned i));
        put = λ g e. never e refl;
      }

  -- so the relation holds
  pub start-kept : (set_up m p at cap).refusal ≡ 0 → Kept (set_up m p at cap).after (view_of (first_ledger m p at cap))
  start-kept e =
      subst (λ (m' : Memory). Kept m' (view_of (first_ledger m p at cap))) (sym (set-up-after e))
      (fresh_kept (set-up-sized e) (set-up-capped e))

  -- ---- the first ledger shares its parts with that memory
  fresh-ledger : first_ledger m p at cap ≡ ledger_of (fresh m p at cap) (view_of (first_ledger m p at cap))
  unfolding first_ledger first_shelf fresh
  fresh-ledger = rw (fresh-many m p at cap) refl

  pub start-ledger : (set_up m p at cap).refusal ≡ 0
      → first_ledger m p at cap ≡ ledger_of (set_up m p at cap).after (view_of (first_ledger m p at cap))
  start-ledger e =
      fresh-ledger ∙ ap (λ (m' : Memory). ledger_of m' (view_of (first_ledger m p at cap))) (sym (set-up-after e))
