-- No call but set up changes the block size or the cap, whatever the memory.
use Prim.Native.Nat.{ℕ, zero, suc}
use mathlib.Core.Path.{◌≡◌, refl, ◌∙◌}
use mathlib.Core.Bool.{Bool, true, false}
use mathlib.Core.List.{List}
use Rattle.laws.specs.First.{Found, found, missing}
use Rattle.buftag.specs.declared.link.Link.{Link}
use Rattle.buftag.specs.declared.link.Link.TheVariants.{To, End, Off, Bad}
use Rattle.buftag.specs.Lookup.{Held}
use Rattle.std.specs.Prelude.{Some, None}
use Rattle.buftag.specs.declared.name.FileName.{FileName}
use Rattle.buftag.specs.declared.name.PageName.{PageName}
use Rattle.buftag.specs.Link.{link_of}
use Rattle.bufmodel.specs.Memory.{Memory, buffers, size, cap_of, with_hand, with_states}
use Rattle.bufmodel.specs.Rows.{row_of, place_of}
use Rattle.bufmodel.specs.Sweep.{Swept}
use Rattle.bufmodel.specs.Moves.{write_back, write_up_to, of_file, release, release_if, release_up_to, load_at, load_top, load}
use Rattle.bufmodel.specs.Outcome.{Outcome, outcome}
use Rattle.bufmodel.specs.Pin.{held_in, pin_held, pin_free, pin_victim, pin_swept, pin_new, pin_to, pin}
use Rattle.bufmodel.specs.Calls.{unpin_at, unpin, read, write_to, write, flush, checkpoint, peek, extend_at, extend, drop_at, drop_file}
use Rattle.bufmodel.specs.Calls.{give_at, give_up_to, give_back, log_inserted, log_flushed}
use Rattle.bufmodel.specs.Step.{
  Call,
  Pin,
  Unpin,
  Read,
  Write,
  Flush,
  GiveBack,
  Checkpoint,
  Peek,
  Extend,
  Drop,
  LogInserted,
  LogFlushed,
  step,
}

-- the block size and the cap
abbrev pub fixed : Memory → ℕ × ℕ
fixed m = (size m, cap_of m)

-- an outcome leaves those of the memory m
abbrev Keeps : Memory → Outcome → Type 0
Keeps m o = fixed o.after ≡ fixed m

-- a refused call leaves the memory
by-case : (k : ℕ) (bytes : List ℕ) (m : Memory) (o : Outcome) → Keeps m o → Keeps m (outcome k bytes m o)
unfolding outcome
by-case zero bytes m o e = e
by-case (suc k) bytes m o e = refl

pub inserted-fixed : (m : Memory) (p : ℕ) → Keeps m (log_inserted m p)
unfolding log_inserted
inserted-fixed m p = by-case _ _ m _ refl

pub flushed-fixed : (m : Memory) (p : ℕ) → Keeps m (log_flushed m p)
unfolding log_flushed
flushed-fixed m p = by-case _ _ m _ refl

-- ---- write-back
back-fixed : (m : Memory) (i : ℕ) → fixed (write_back m i) ≡ fixed m
unfolding write_back
back-fixed m i = refl

all-fixed : (k : ℕ) (m : Memory) → fixed (write_up_to k m) ≡ fixed m
unfolding write_up_to
all-fixed zero m = refl
all-fixed (suc k) m = back-fixed (write_up_to k m) k ∙ all-fixed k m

pub flush-fixed : (m : Memory) (h i : ℕ) → Keeps m (flush m h i)
unfolding flush
flush-fixed m h i = by-case _ _ m _ (back-fixed m i)

pub checkpoint-fixed : (m : Memory) → Keeps m (checkpoint m)
unfolding checkpoint
checkpoint-fixed m = by-case _ _ m _ (all-fixed _ m)

-- ---- pin
release-fixed : (m : Memory) (i : ℕ) → fixed (release m i) ≡ fixed m
unfolding release
release-fixed m i = refl

top-fixed : (m : Memory) (n : PageName) (l : Link) (g : Found) → fixed (load_top m n l g) ≡ fixed m
unfolding load_top load_at
top-fixed m n (To i) (found g) = refl
top-fixed m n (To i) missing = refl
top-fixed m n End g = refl
top-fixed m n Off g = refl
top-fixed m n Bad g = refl

load-fixed : (m : Memory) (n : PageName) → fixed (load m n) ≡ fixed m
unfolding load
load-fixed m n = top-fixed m n (link_of m.control.top) (place_of m.rows n)

victim-fixed : (m : Memory) (h : ℕ) (n : PageName) (s : Swept) (v : Found) → Keeps m (pin_victim m h n s v)
unfolding pin_victim
victim-fixed m h n s (found v) =
    load-fixed (release (write_back (with_hand s.hand (with_states s.words m)) v) v) n
    ∙ release-fixed (write_back (with_hand s.hand (with_states s.words m)) v) v
    ∙ back-fixed (with_hand s.hand (with_states s.words m)) v
victim-fixed m h n s missing = refl

new-fixed : (m : Memory) (h : ℕ) (n : PageName) (l : Link) → Keeps m (pin_new m h n l)
unfolding pin_new pin_free pin_swept
new-fixed m h n (To i) = load-fixed m n
new-fixed m h n End = victim-fixed m h n _ _
new-fixed m h n Off = victim-fixed m h n _ _
new-fixed m h n Bad = victim-fixed m h n _ _

to-fixed : (m : Memory) (h : ℕ) (n : PageName) (b : Held) → Keeps m (pin_to m h n b)
unfolding pin_to pin_held
to-fixed m h n (Some b) = refl
to-fixed m h n None = new-fixed m h n (link_of m.control.top)

pub pin-fixed : (m : Memory) (h : ℕ) (n : PageName) → Keeps m (pin m h n)
unfolding pin
pin-fixed m h n = by-case _ _ m _ (to-fixed m h n (held_in m n))

-- ---- give back
given-fixed : (h k : ℕ) (m : Memory) → fixed (give_up_to h k m) ≡ fixed m
unfolding give_up_to give_at
given-fixed h zero m = refl
given-fixed h (suc k) m = given-fixed h k m

-- ---- extend and drop
extend-fixed : (m : Memory) (r : Found) → Keeps m (extend_at m r)
unfolding extend_at
extend-fixed m (found r) = refl
extend-fixed m missing = refl

if-fixed : (t : Bool) (m : Memory) (i : ℕ) → fixed (release_if t m i) ≡ fixed m
unfolding release_if
if-fixed true m i = release-fixed m i
if-fixed false m i = refl

released-fixed : (f : FileName) (k : ℕ) (m : Memory) → fixed (release_up_to f k m) ≡ fixed m
unfolding release_up_to
released-fixed f zero m = refl
released-fixed f (suc k) m = let on = release_up_to f k m in if-fixed (of_file on f k) on k ∙ released-fixed f k m

drop-fixed : (m : Memory) (f : FileName) (r : Found) → Keeps m (drop_at m f r)
unfolding drop_at
drop-fixed m f (found r) = released-fixed f (buffers m) m
drop-fixed m f missing = refl

-- ---- every call
pub step-fixed : (m : Memory) (c : Call) → Keeps m (step m c)
unfolding step unpin unpin_at read write write_to give_back peek extend drop_file
step-fixed m (Pin h n) = pin-fixed m h n
step-fixed m (Unpin h i) = by-case _ _ m _ refl
step-fixed m (Read h i from out) = by-case _ _ m _ refl
step-fixed m (Write h i from bytes at) = by-case _ _ m _ refl
step-fixed m (Flush h i) = flush-fixed m h i
step-fixed m (GiveBack h) = by-case _ _ m _ (given-fixed h (buffers m) m)
step-fixed m Checkpoint = checkpoint-fixed m
step-fixed m (Peek n) = by-case _ _ m _ refl
step-fixed m (Extend f) = by-case _ _ m _ (extend-fixed m (row_of m.rows f))
step-fixed m (Drop f) = by-case _ _ m _ (drop-fixed m f (row_of m.rows f))
step-fixed m (LogInserted p) = inserted-fixed m p
step-fixed m (LogFlushed p) = flushed-fixed m p
