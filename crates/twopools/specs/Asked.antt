-- One list of calls for pools of several sizes. Where a call of a pool has a buffer number, a call asked here has the index in the list,
-- from 0 and with all calls counted, of the pin that it means: pools of several sizes answer several numbers to one pin.
use Rattle.std.specs.Prelude.{ℕ, List, [], ◌∷◌}
use Rattle.buftag.specs.declared.name.FileName.{FileName}
use Rattle.buftag.specs.declared.name.PageName.{PageName}
use Rattle.bufmodel.specs.Step.{
  Call,
  Pin,
  Unpin,
  Read,
  Write,
  Flush,
  GiveBack,
  Checkpoint,
  Peek,
  Extend,
  Drop,
  LogInserted,
  LogFlushed,
}
use Rattle.shelf.specs.Statement.{FitsCall}

pub data Asked : Type 0 where
  -- holder, page
  AskPin : ℕ → PageName → Asked
  -- holder, pin
  AskUnpin : ℕ → ℕ → Asked
  -- holder, pin, from, out
  AskRead : ℕ → ℕ → ℕ → List ℕ → Asked
  -- holder, pin, from, bytes, position
  AskWrite : ℕ → ℕ → ℕ → List ℕ → ℕ → Asked
  -- holder, pin
  AskFlush : ℕ → ℕ → Asked
  -- holder
  AskGiveBack : ℕ → Asked
  AskCheckpoint : Asked
  AskPeek : PageName → Asked
  AskExtend : FileName → Asked
  AskDrop : FileName → Asked
  AskInserted : ℕ → Asked
  AskFlushed : ℕ → Asked

-- the call that a pool gets, whose pins got these buffer numbers
unfoldable pub resolve : (ℕ → ℕ) → Asked → Call
resolve number (AskPin h n) = Pin h n
resolve number (AskUnpin h k) = Unpin h (number k)
resolve number (AskRead h k from out) = Read h (number k) from out
resolve number (AskWrite h k from bytes at) = Write h (number k) from bytes at
resolve number (AskFlush h k) = Flush h (number k)
resolve number (AskGiveBack h) = GiveBack h
resolve number AskCheckpoint = Checkpoint
resolve number (AskPeek n) = Peek n
resolve number (AskExtend f) = Extend f
resolve number (AskDrop f) = Drop f
resolve number (AskInserted p) = LogInserted p
resolve number (AskFlushed p) = LogFlushed p

-- the arguments hold what their C types can hold; an index of a pin is no argument
abbrev pub FitsAsked : List Asked → Type 0
FitsAsked [] = Unit {0}
FitsAsked (c ∷ cs) = FitsCall (resolve (λ k. 0) c) × FitsAsked cs
