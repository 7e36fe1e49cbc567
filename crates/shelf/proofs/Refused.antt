-- A call is refused or accepted: refused, it has the same number on the shelf, and nothing changes on either side.
use Prim.Native.Nat.{ℕ, zero, suc, ◌<◌}
use mathlib.Core.Path.{◌≡◌, refl, sym, ap, ◌∙◌, subst}
use mathlib.Core.Logic.{◌≢◌}
use mathlib.Core.Bool.{Bool, true, false}
use mathlib.Core.List.{List, [], ◌∷◌}
use native.Mathlib.Omega.{arith}
use Rattle.laws.proofs.Tests.{never}
use Rattle.bufmodel.specs.Memory.{Memory}
use Rattle.bufmodel.specs.Outcome.{Outcome, Place, place, refusal_of, checked, refused, outcome}
use Rattle.bufmodel.specs.Step.{Call, step}
use Rattle.bufmodel.proofs.GoodLaws.{checked-good}
use Rattle.shelf.specs.Shelf.{refuses}
use Rattle.shelf.specs.Ledger.{ledger_after, puts}
use Rattle.shelf.specs.Statement.{own}
use Rattle.shelf.proofs.KeptLaws.{page-held, counts-held, sums_kept}
use Rattle.shelf.proofs.ShelfPlaces.{six-of}
use Rattle.shelf.proofs.Kept.{View, shelf_of, Kept, Ended}

-- ---- neither 1 nor 2
abbrev pub Neither : ℕ → Type 0
Neither n = (n ≢ 1) × (n ≢ 2)

pub neither-none : Neither (refusal_of [])
unfolding refusal_of
neither-none = (omega arith, omega arith)

pub neither-place : (k : ℕ) (t : Bool) (later : List Place) → 2 < k → Neither (refusal_of later) → Neither (refusal_of (place k t ∷ later))
unfolding refusal_of
neither-place k true later h c = (omega arith, omega arith)
neither-place k false later h c = c

-- ---- the step
module _ (m : Memory) (v : View) (c : Call) (kept : Kept m v) where
  refused-ended : (k : ℕ) → Neither (suc k) → suc k ≡ refuses (shelf_of m v) c
      → Ended m v c (refused (suc k) (own c) m)
  unfolding ledger_after puts
  refused-ended k neither number =
      record {
        agrees =
            record {
              number = number;
              neither = neither;
              answers = λ z. absurd (omega arith);
              shows = λ z. absurd (omega arith);
              blank = λ h. refl;
              kept = λ h. refl;
              rows = refl;
              inserted = refl;
              cap = refl;
              six = six-of (shelf_of m v) c number;
              flushed = refl;
              ordered = λ g h. (kept.put g h).1;
              others = λ g h z. refl;
              long = refl;
              stored = λ g l e. never e refl;
              held = page-held m v kept;
              counts = counts-held m v kept;
              sums = sums_kept m v kept;
              settled = λ q z. absurd (omega arith);
            };
        kept = kept;
        shared = refl;
      }

  -- ---- a call with these places of its own, which ends so where it is accepted
  pub call_step : (ps : List Place) (o : Outcome) → step m c ≡ outcome (checked m ps) (own c) m o
      → refusal_of ps ≡ refuses (shelf_of m v) c → Neither (refusal_of ps)
      → (refusal_of ps ≡ 0 → Ended m v c o)
      → Ended m v c (step m c)
  unfolding outcome
  call_step ps o e number neither done =
      subst (Ended m v c) (sym (e ∙ ap (λ (n : ℕ). outcome n (own c) m o) (checked-good m kept.good ps))) (go (refusal_of ps) refl)
    where
      go : (n : ℕ) → refusal_of ps ≡ n → Ended m v c (outcome n (own c) m o)
      go zero q = done q
      go (suc n) q =
          refused-ended n (subst Neither q neither) (sym q ∙ number)
