-- Isolation, a theorem of its own beside demand 3 (document 02): while a holder has a pin on a page, no list of calls that name other
-- holders or none moves that page to another buffer or changes that holder's count of it.
use Rattle.std.specs.Prelude.{ℕ, ◌+◌, ◌*◌, ◌^◌, ◌<◌, ◌≡◌, ◌≢◌, List, [], ◌∷◌, length, get_or}
use Rattle.buftag.specs.declared.name.PageName.{PageName}
use Rattle.bufmodel.specs.Memory.{word_of, name_of}
use Rattle.bufmodel.specs.Step.{
  Call,
  Pin,
  Unpin,
  Read,
  Write,
  Flush,
  GiveBack,
  Checkpoint,
  Peek,
  Extend,
  Drop,
  LogInserted,
  LogFlushed,
  step,
}
use Rattle.bufmodel.specs.Lent.{Lent, answer_words, opened}
use Rattle.shelf.specs.Statement.{own, FitsLent, Made, FitsMade, Pool, calling}

-- a call that names another holder than h, or none: a holder of 64 or above, which is refused, is another
abbrev pub Without : ℕ → Call → Type 0
Without h (Pin o n) = o ≢ h
Without h (Unpin o b) = o ≢ h
Without h (Read o b from out) = o ≢ h
Without h (Write o b from bytes at) = o ≢ h
Without h (Flush o b) = o ≢ h
Without h (GiveBack o) = o ≢ h
Without h Checkpoint = Unit {0}
Without h (Peek n) = Unit {0}
Without h (Extend f) = Unit {0}
Without h (Drop f) = Unit {0}
Without h (LogInserted p) = Unit {0}
Without h (LogFlushed p) = Unit {0}

abbrev pub Others : ℕ → List Made → Type 0
Others h [] = Unit {0}
Others h (c ∷ cs) = Without h c.call × Others h cs

-- the lent memory as a list of calls leaves it
abbrev pub lent_after : Pool → Lent → List Made → Lent
lent_after pool m [] = m
lent_after pool m (c ∷ cs) = lent_after pool (pool.calls c.call m (own c.call) c.answer).lent cs

-- page n is in buffer i, which is in use
abbrev pub In : Lent → PageName → ℕ → Type 0
In m n i = (word_of (opened m) i ≢ 0) × (name_of (opened m) i ≡ n)

-- holder h's count of buffer i
abbrev pub count_in : Lent → ℕ → ℕ → ℕ
count_in m h i = get_or m.counts (i * 64 + h) 0

-- ISOLATION, of a pool: for every lent memory, every accepted set-up, every list of calls and every list of other holders' after it. That
-- it holds while the holder has the pin needs no word: what comes after a list may be any beginning of one
abbrev pub IsolationFor : Pool → Type 0
IsolationFor pool =
    (m : Lent) (p at cap : ℕ) (answer : List ℕ) (before others : List Made) → FitsLent m → p < 2 ^ 64 → at < 2 ^ 64 → cap < 2 ^ 64
    → length answer ≡ answer_words → FitsMade before → FitsMade others
    → let r = pool.sets_up p at cap m answer in
    r.result ≡ 0
    → let x = lent_after pool r.lent before in
    let y = lent_after pool x others in
    (h i : ℕ) (n : PageName) → h < 64 → Others h others → In x n i → count_in x h i ≢ 0
    → In y n i × (count_in y h i ≡ count_in x h i)

-- and of this one
abbrev pub Isolation : Type 0
Isolation = IsolationFor (calling step)
