-- DEMAND 3, proved: an accepted set up starts the relation between memory and ledger, and each call keeps it.
use Prim.Native.Nat.{ℕ}
use mathlib.Core.Path.{◌≡◌, sym, subst}
use mathlib.Core.List.{List, []}
use lib.ListN.{length}
use Rattle.bufmodel.specs.Calls.{set_up}
use Rattle.bufmodel.specs.Step.{Pin, Unpin, Read, Write, Flush, GiveBack, Checkpoint, Peek, Extend, Drop, LogInserted, LogFlushed, step}
use Rattle.bufmodel.specs.Lent.{Lent, answer_words, opened, called}
use Rattle.bufmodel.proofs.CalledLaws.{called-accepted}
use Rattle.shelf.specs.Ledger.{Ledger, first_ledger}
use Rattle.shelf.specs.Statement.{Made, FitsMade, calling, ClaimFor, Demand3}
use Rattle.shelf.proofs.Kept.{view_of, Runs, Steps, runs_of}
use Rattle.shelf.proofs.Start.{start-kept, start-ledger}
use Rattle.shelf.proofs.SetUpSays.{sets-up}
use Rattle.shelf.proofs.StepPin.{pin-step}
use Rattle.shelf.proofs.StepUnpin.{unpin-step}
use Rattle.shelf.proofs.StepGive.{give-step}
use Rattle.shelf.proofs.StepRead.{read_step}
use Rattle.shelf.proofs.StepWrite.{write_step}
use Rattle.shelf.proofs.StepFlush.{flush-step}
use Rattle.shelf.proofs.StepCheckpoint.{checkpoint-step}
use Rattle.shelf.proofs.StepPeek.{peek-step}
use Rattle.shelf.proofs.StepExtend.{extend-step}
use Rattle.shelf.proofs.StepDrop.{drop-step}
use Rattle.shelf.proofs.StepLog.{inserted-step, flushed-step}
use Rattle.shelf.proofs.Lift.{calls_of, fits-calls, lift}

pub steps : Steps
steps m v (Pin h n) k f = pin-step m v k h n
steps m v (Unpin h i) k f = unpin-step m v k h i
steps m v (Read h i from out) k f = read_step m v k h i from out
steps m v (Write h i from bytes at) k f = write_step m v k h i from bytes at f.4
steps m v (Flush h i) k f = flush-step m v k h i
steps m v (GiveBack h) k f = give-step m v k h
steps m v Checkpoint k f = checkpoint-step m v k
steps m v (Peek n) k f = peek-step m v k n
steps m v (Extend f) k g = extend-step m v k f
steps m v (Drop f) k g = drop-step m v k f
steps m v (LogInserted p) k f = inserted-step m v k p
steps m v (LogFlushed p) k f = flushed-step m v k p

-- where set up is accepted
listed : (m : Lent) (p at cap : ℕ) (answer : List ℕ) (calls : List Made) → length answer ≡ answer_words → FitsMade calls
    → let r = called (λ k. set_up k p at cap) m [] answer in
    r.result ≡ 0 → ClaimFor (calling step) r.lent (first_ledger (opened m) p at cap) calls
listed m p at cap answer calls fa fc e =
    let k = opened m in
    let s = called-accepted (λ k. set_up k p at cap) m _ answer fa e in
    let kept = start-kept k p at cap s.0 in
    subst (λ (n : Lent). ClaimFor (calling step) n (first_ledger k p at cap) calls) (sym s.1)
    (lift (set_up k p at cap).after (first_ledger k p at cap) calls kept.good kept.words fc
    (subst (λ (l : Ledger). Runs (set_up k p at cap).after l (calls_of calls)) (sym (start-ledger k p at cap s.0))
    (runs_of steps (set_up k p at cap).after (view_of (first_ledger k p at cap)) (calls_of calls) kept (fits-calls calls fc))))

pub demand-3 : Demand3
demand-3 m p at cap answer calls fm fp fat fcap fa fc = (sets-up m p at cap answer fa, listed m p at cap answer calls fa fc)
