-- Demand 2: the pool's calls do what is published. And a refused call leaves the memory as it was.
use Prim.Native.Nat.{ℕ}
use mathlib.Core.Path.{◌≡◌, refl, ap, subst}
use mathlib.Core.Bool.{false}
use mathlib.Core.Logic.{◌≢◌}
use Rattle.buftag.specs.declared.name.PageName.{PageName}
use Rattle.bufmodel.specs.Memory.{Memory, buffers, cap_of}
use Rattle.bufmodel.specs.Outcome.{Outcome}
use Rattle.bufmodel.specs.Step.{
  Call,
  Pin,
  Unpin,
  Read,
  Write,
  Flush,
  GiveBack,
  Checkpoint,
  Peek,
  Extend,
  Drop,
  LogInserted,
  LogFlushed,
  step,
}
use Rattle.bufmodel.proofs.GoodLaws.{Good}
use Rattle.bufmodel.proofs.FixedLaws.{step-fixed}
use Rattle.shelf.specs.Published.{Sought, Published, Demand2}
use Rattle.shelf.proofs.CallKinds.{is_pin, not-pin}
use Rattle.shelf.proofs.GuardsTable.{step-refused}
use Rattle.shelf.proofs.PublishedWords.{HeldWords, held-words}
use Rattle.shelf.proofs.PublishedCalls.{
  Says,
  unpin-says,
  read-says,
  write-says,
  flush-says,
  give-says,
  peek-says,
  extend-says,
  inserted-says,
  flushed-says,
}
use Rattle.shelf.proofs.PublishedBack.{checkpoint-says}
use Rattle.shelf.proofs.PublishedDrop.{drop-says}
use Rattle.shelf.proofs.PublishedPin.{pin-sought}

-- ---- a refused call leaves the memory as it was, whatever memory that is
pub refused-same : (m : Memory) (c : Call) → (step m c).refusal ≢ 0 → (step m c).after ≡ m
refused-same m c h = ap (λ (o : Outcome). o.after) (step-refused m c h)

-- ---- what a call does is as published
-- a pin names one holder and one page
abbrev SoughtBy : Memory → Outcome → ℕ × PageName → Type 0
SoughtBy m o x = Sought m x.0 x.1 (cap_of m) (buffers m) o

pin-same : {a b : ℕ} {n p : PageName} → Pin a n ≡ Pin b p → ◌≡◌ {A = ℕ × PageName} (a, n) (b, p)
pin-same e = cc

-- no call changes the cap
cap-stays : (m : Memory) (c : Call) → cap_of (step m c).after ≡ cap_of m
cap-stays m c = ap (λ (x : ℕ × ℕ). x.1) (step-fixed m c)

-- a call that is no pin has no probes
other-published : {m : Memory} {c : Call} → is_pin c ≡ false → Says m c → Published m (cap_of m) (buffers m) c (step m c)
other-published {m} {c} h says =
    record {
      sought = λ o n e. absurd (not-pin h o n e);
      accepts = says;
      stays = cap-stays m c;
      same = refused-same m c;
    }

-- write, flush and checkpoint set a word's flags, and so ask what flags it had; give back asks that words have 32 bits
pub published : (m : Memory) (c : Call) → Good m → HeldWords m → Published m (cap_of m) (buffers m) c (step m c)
published m (Pin h n) k held =
    record {
      sought = λ h' n' e. subst (SoughtBy m (step m (Pin h n))) (pin-same e) (pin-sought m k h n);
      accepts = λ z. tt;
      stays = cap-stays m (Pin h n);
      same = refused-same m (Pin h n);
    }
published m (Unpin h i) k held = other-published refl (unpin-says m h i k)
published m (Read h i from out) k held = other-published refl (read-says m h i from out)
published m (Write h i from bytes at) k held = other-published refl (write-says m k held h i from bytes at)
published m (Flush h i) k held = other-published refl (flush-says m h i k held)
published m (GiveBack h) k held = other-published refl (give-says m k held h)
published m Checkpoint k held = other-published refl (checkpoint-says m k held)
published m (Peek n) k held = other-published refl (peek-says m n)
published m (Extend f) k held = other-published refl (extend-says m k f)
published m (Drop f) k held = other-published refl (drop-says m f k)
published m (LogInserted p) k held = other-published refl (inserted-says m p)
published m (LogFlushed p) k held = other-published refl (flushed-says m p)

-- DEMAND 2
pub demand-2 : Demand2
demand-2 m c narrow sizes books = published m c (record { sizes = sizes; books = books }) (held-words m books narrow)
