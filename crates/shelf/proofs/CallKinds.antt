-- Which calls are pins and which is the checkpoint: the others are neither.
use Prim.Native.Nat.{ℕ}
use mathlib.Core.Path.{◌≡◌, sym, ap, ◌∙◌}
use mathlib.Core.Bool.{Bool, true, false, true≢false}
use Rattle.buftag.specs.declared.name.PageName.{PageName}
use Rattle.bufmodel.specs.Step.{
  Call,
  Pin,
  Unpin,
  Read,
  Write,
  Flush,
  GiveBack,
  Checkpoint,
  Peek,
  Extend,
  Drop,
  LogInserted,
  LogFlushed,
}

abbrev pub is_pin : Call → Bool
is_pin (Pin h n) = true
is_pin (Unpin h i) = false
is_pin (Read h i from out) = false
is_pin (Write h i from bytes at) = false
is_pin (Flush h i) = false
is_pin (GiveBack h) = false
is_pin Checkpoint = false
is_pin (Peek n) = false
is_pin (Extend f) = false
is_pin (Drop f) = false
is_pin (LogInserted p) = false
is_pin (LogFlushed p) = false

abbrev pub is_checkpoint : Call → Bool
is_checkpoint (Pin h n) = false
is_checkpoint (Unpin h i) = false
is_checkpoint (Read h i from out) = false
is_checkpoint (Write h i from bytes at) = false
is_checkpoint (Flush h i) = false
is_checkpoint (GiveBack h) = false
is_checkpoint Checkpoint = true
is_checkpoint (Peek n) = false
is_checkpoint (Extend f) = false
is_checkpoint (Drop f) = false
is_checkpoint (LogInserted p) = false
is_checkpoint (LogFlushed p) = false

pub not-pin : {c : Call} → is_pin c ≡ false → (o : ℕ) (n : PageName) → c ≡ Pin o n → ⊥
not-pin h o n e = true≢false (sym (ap is_pin e) ∙ h)

pub not-checkpoint : {c : Call} → is_checkpoint c ≡ false → c ≡ Checkpoint → ⊥
not-checkpoint h e = true≢false (sym (ap is_checkpoint e) ∙ h)
