-- The calls of a list, as data, and what a list of them does.
use Rattle.std.specs.Prelude.{ℕ, List, [], ◌∷◌}
use Rattle.buftag.specs.declared.name.FileName.{FileName}
use Rattle.buftag.specs.declared.name.PageName.{PageName}
use Rattle.bufmodel.specs.Memory.{Memory}
use Rattle.bufmodel.specs.Outcome.{Outcome}
use Rattle.bufmodel.specs.Pin.{pin}
use Rattle.bufmodel.specs.Calls.{
  unpin,
  read,
  write,
  flush,
  give_back,
  checkpoint,
  peek,
  extend,
  drop_file,
  log_inserted,
  log_flushed,
}

pub data Call : Type 0 where
  -- holder, page
  Pin : ℕ → PageName → Call
  -- holder, buffer
  Unpin : ℕ → ℕ → Call
  -- holder, buffer, from, out
  Read : ℕ → ℕ → ℕ → List ℕ → Call
  -- holder, buffer, from, bytes, position
  Write : ℕ → ℕ → ℕ → List ℕ → ℕ → Call
  -- holder, buffer
  Flush : ℕ → ℕ → Call
  -- holder
  GiveBack : ℕ → Call
  Checkpoint : Call
  Peek : PageName → Call
  Extend : FileName → Call
  Drop : FileName → Call
  LogInserted : ℕ → Call
  LogFlushed : ℕ → Call

unfoldable pub step : Memory → Call → Outcome
step m (Pin h n) = pin m h n
step m (Unpin h i) = unpin m h i
step m (Read h i from out) = read m h i from out
step m (Write h i from bytes at) = write m h i from bytes at
step m (Flush h i) = flush m h i
step m (GiveBack h) = give_back m h
step m Checkpoint = checkpoint m
step m (Peek n) = peek m n
step m (Extend f) = extend m f
step m (Drop f) = drop_file m f
step m (LogInserted p) = log_inserted m p
step m (LogFlushed p) = log_flushed m p

-- each call gets the memory as the call before left it
unfoldable pub memory_after : Memory → List Call → Memory
memory_after m [] = m
memory_after m (c ∷ cs) = memory_after (step m c).after cs

-- the refusal number and the answer of each call
unfoldable pub answers : Memory → List Call → List (List ℕ)
answers m [] = []
answers m (c ∷ cs) = let o = step m c in (o.refusal ∷ o.answer) ∷ answers o.after cs
