-- The pins of a list of calls, and which of them a call may name.
use Rattle.std.specs.Prelude.{ℕ, zero, suc, ◌≡◌, Bool, true, false, not, ◌&&◌, eqb}
use Rattle.shelf.specs.Shelf.{with}
use Rattle.twopools.specs.Asked.{
  Asked,
  AskPin,
  AskUnpin,
  AskRead,
  AskWrite,
  AskFlush,
  AskGiveBack,
  AskCheckpoint,
  AskPeek,
  AskExtend,
  AskDrop,
  AskInserted,
  AskFlushed,
}

-- how many calls were made; of the pin of call k the buffer number that it got, its holder, and whether it is not yet given back
pub record Pins : Type 0 where
  pub made : ℕ
  pub number : ℕ → ℕ
  pub holder : ℕ → ℕ
  pub held : ℕ → Bool

unfoldable pub no_pins : Pins
no_pins = record { made = 0; number = λ k. 0; holder = λ k. 0; held = λ k. false }

-- ---- a call on a buffer names one of its holder's pins not yet given back
pub record Mine (p : Pins) (h k : ℕ) : Type 0 where
  pub held : p.held k ≡ true
  pub by : p.holder k ≡ h

abbrev pub Names : Pins → Asked → Type 0
Names p (AskPin h n) = Unit {0}
Names p (AskUnpin h k) = Mine p h k
Names p (AskRead h k from out) = Mine p h k
Names p (AskWrite h k from bytes at) = Mine p h k
Names p (AskFlush h k) = Mine p h k
Names p (AskGiveBack h) = Unit {0}
Names p AskCheckpoint = Unit {0}
Names p (AskPeek n) = Unit {0}
Names p (AskExtend f) = Unit {0}
Names p (AskDrop f) = Unit {0}
Names p (AskInserted q) = Unit {0}
Names p (AskFlushed q) = Unit {0}

-- ---- the pins after a call
abbrev next : Pins → (ℕ → Bool) → Pins
next p held = record { made = suc p.made; number = p.number; holder = p.holder; held = held }

-- an accepted pin that got buffer b is a further one; an accepted unpin gives back the pin that it names, an accepted give back all pins
-- of its holder
unfoldable pub entered : Pins → Asked → ℕ → Pins
entered p (AskPin h n) b =
    record {
      made = suc p.made;
      number = with p.made b p.number;
      holder = with p.made h p.holder;
      held = with p.made true p.held;
    }
entered p (AskUnpin h k) b = next p (with k false p.held)
entered p (AskRead h k from out) b = next p p.held
entered p (AskWrite h k from bytes at) b = next p p.held
entered p (AskFlush h k) b = next p p.held
entered p (AskGiveBack h) b = next p (λ k. p.held k && not (eqb (p.holder k) h))
entered p AskCheckpoint b = next p p.held
entered p (AskPeek n) b = next p p.held
entered p (AskExtend f) b = next p p.held
entered p (AskDrop f) b = next p p.held
entered p (AskInserted q) b = next p p.held
entered p (AskFlushed q) b = next p p.held

-- a refused call is counted and changes no pin
unfoldable pub pins_after : Pins → Asked → ℕ → ℕ → Pins
pins_after p c zero b = entered p c b
pins_after p c (suc k) b = next p p.held
