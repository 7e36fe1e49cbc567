-- An accepted call that changes nothing, in the memory or on the ledger.
use Prim.Native.Nat.{ℕ}
use mathlib.Core.Path.{◌≡◌, refl, sym, ap, subst}
use mathlib.Core.Bool.{false}
use mathlib.Core.List.{List}
use Rattle.laws.proofs.Tests.{never}
use Rattle.bufmodel.specs.Rows.{store_blocks}
use Rattle.bufmodel.specs.Memory.{Memory, cap_of}
use Rattle.bufmodel.specs.Outcome.{done}
use Rattle.bufmodel.specs.Step.{Call, Checkpoint}
use Rattle.shelf.specs.Shelf.{refuses}
use Rattle.shelf.specs.Ledger.{Ledger, highest, put_by}
use Rattle.shelf.specs.Statement.{Answers, Shows}
use Rattle.shelf.proofs.Kept.{View, shelf_of, ledger_of, view_of, Kept}
use Rattle.shelf.proofs.Accepted.{Accepted, ledger_then}
use Rattle.shelf.proofs.HighestLaws.{highest-still}

-- where no page is written back and all else stays, the ledger stays
pub ledger-stays : (m : Memory) (v : View)
    → ◌≡◌ {A = Ledger}
    (record {
      shelf = shelf_of m v;
      dirty = v.dirty;
      last = v.last;
      flushed = highest (ledger_of m v) (store_blocks m.rows) (λ g. false) m.control.flushed;
      put = v.put;
      cap = cap_of m;
    })
    (ledger_of m v)
ledger-stays m v =
    ap (λ (f : ℕ). record { shelf = shelf_of m v; dirty = v.dirty; last = v.last; flushed = f; put = v.put; cap = cap_of m })
    (highest-still (ledger_of m v) m.control.flushed (store_blocks m.rows))

-- nothing is left to show but the number and what the call shows
pub unchanged : (m : Memory) (v : View) → Kept m v → (c : Call) (answer bytes : List ℕ) → ledger_then m v c answer ≡ ledger_of m v
    → (c ≡ Checkpoint → ⊥) → refuses (shelf_of m v) c ≡ 0 → Answers (done answer bytes m) c → Shows (shelf_of m v) (done answer bytes m) c
    → ((g : ℕ) → put_by (ledger_of m v) c answer g ≡ false)
    → Accepted m v c answer bytes m
unchanged m v k c answer bytes e other number answers shows none =
    record {
      number = number;
      answers = answers;
      shows = shows;
      many = refl;
      wide = refl;
      cap = refl;
      rows = ap (λ (l : Ledger). l.shelf.rows) e;
      inserted = ap (λ (l : Ledger). l.shelf.inserted) e;
      flushed = ap (λ (l : Ledger). l.flushed) e;
      kept = subst (λ (l : Ledger). Kept m (view_of l)) (sym e) k;
      others = λ g h z. refl;
      long = refl;
      stored = λ g t. never t (none g);
      settled = λ q. absurd (other q);
    }
