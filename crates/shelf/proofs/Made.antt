-- The tie between the exports' contracts and the theorem: set up and a call as the contracts of the exports state them are set up and the
-- call of the theorem's pool.
use Prim.Native.Nat.{ℕ}
use mathlib.Core.Path.{◌≡◌, refl}
use mathlib.Core.List.{List, []}
use Rattle.buftag.specs.declared.name.FileName.{FileName}
use Rattle.buftag.specs.declared.name.PageName.{PageName}
use Rattle.bufmodel.specs.Pin.{pin}
use Rattle.bufmodel.specs.Calls.{set_up, unpin, read, write, flush, give_back, checkpoint, peek, extend, drop_file, log_inserted, log_flushed}
use Rattle.bufmodel.specs.Step.{Pin, Unpin, Read, Write, Flush, GiveBack, Checkpoint, Peek, Extend, Drop, LogInserted, LogFlushed, step}
use Rattle.bufmodel.specs.Lent.{Lent, called}
use Rattle.shelf.specs.Statement.{own, calling}

pub set-up-made : (p at cap : ℕ) (l : Lent) (answer : List ℕ)
    → called (λ m. set_up m p at cap) l [] answer ≡ (calling step).sets_up p at cap l answer
set-up-made p at cap l answer = refl

pub pin-made : (holder : ℕ) (n : PageName) (l : Lent) (answer : List ℕ)
    → called (λ m. pin m holder n) l [] answer ≡ (calling step).calls (Pin holder n) l (own (Pin holder n)) answer
unfolding step
pin-made holder n l answer = refl

pub unpin-made : (holder buffer : ℕ) (l : Lent) (answer : List ℕ)
    → called (λ m. unpin m holder buffer) l [] answer ≡ (calling step).calls (Unpin holder buffer) l (own (Unpin holder buffer)) answer
unfolding step
unpin-made holder buffer l answer = refl

-- the bytes that a read fills are its own
pub read_made : (holder buffer from : ℕ) (out : List ℕ) (l : Lent) (answer : List ℕ)
    → called (λ m. read m holder buffer from out) l out answer
    ≡ (calling step).calls (Read holder buffer from out) l (own (Read holder buffer from out)) answer
unfolding step
read_made holder buffer from out l answer = refl

-- and those that a write is given
pub write-made : (holder buffer from : ℕ) (bytes : List ℕ) (position : ℕ) (l : Lent) (answer : List ℕ)
    → called (λ m. write m holder buffer from bytes position) l bytes answer
    ≡ (calling step).calls (Write holder buffer from bytes position) l (own (Write holder buffer from bytes position)) answer
unfolding step
write-made holder buffer from bytes position l answer = refl

pub flush-made : (holder buffer : ℕ) (l : Lent) (answer : List ℕ)
    → called (λ m. flush m holder buffer) l [] answer ≡ (calling step).calls (Flush holder buffer) l (own (Flush holder buffer)) answer
unfolding step
flush-made holder buffer l answer = refl

pub give-made : (holder : ℕ) (l : Lent) (answer : List ℕ)
    → called (λ m. give_back m holder) l [] answer ≡ (calling step).calls (GiveBack holder) l (own (GiveBack holder)) answer
unfolding step
give-made holder l answer = refl

pub checkpoint-made : (l : Lent) (answer : List ℕ)
    → called (λ m. checkpoint m) l [] answer ≡ (calling step).calls Checkpoint l (own Checkpoint) answer
unfolding step
checkpoint-made l answer = refl

pub peek-made : (n : PageName) (l : Lent) (answer : List ℕ)
    → called (λ m. peek m n) l [] answer ≡ (calling step).calls (Peek n) l (own (Peek n)) answer
unfolding step
peek-made n l answer = refl

pub extend-made : (f : FileName) (l : Lent) (answer : List ℕ)
    → called (λ m. extend m f) l [] answer ≡ (calling step).calls (Extend f) l (own (Extend f)) answer
unfolding step
extend-made f l answer = refl

pub drop-made : (f : FileName) (l : Lent) (answer : List ℕ)
    → called (λ m. drop_file m f) l [] answer ≡ (calling step).calls (Drop f) l (own (Drop f)) answer
unfolding step
drop-made f l answer = refl

pub inserted-made : (position : ℕ) (l : Lent) (answer : List ℕ)
    → called (λ m. log_inserted m position) l [] answer ≡ (calling step).calls (LogInserted position) l (own (LogInserted position)) answer
unfolding step
inserted-made position l answer = refl

pub flushed-made : (position : ℕ) (l : Lent) (answer : List ℕ)
    → called (λ m. log_flushed m position) l [] answer ≡ (calling step).calls (LogFlushed position) l (own (LogFlushed position)) answer
unfolding step
flushed-made position l answer = refl
