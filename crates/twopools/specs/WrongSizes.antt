-- Wrong statements of two sizes: each says one thing otherwise than `TwoSizesFor`, and one list of calls shows that it is false of the
-- right pool.
use Rattle.std.specs.Prelude.{ℕ, ◌+◌, ◌-◌, ◌*◌, ◌^◌, ◌≤◌, ◌<◌, ◌≡◌, Bool, false, ◌||◌, cond, List, [], ◌∷◌, ◌++◌, get_or, replicate, eqb}
use Rattle.buftag.specs.declared.name.FileName.{FileName}
use Rattle.bufmodel.specs.Memory.{with_rows, with_store}
use Rattle.bufmodel.specs.Outcome.{Outcome}
use Rattle.bufmodel.specs.Calls.{part}
use Rattle.bufmodel.specs.Lent.{opened, closed}
use Rattle.shelf.specs.Statement.{Pool, outcome_of}
use Rattle.shelf.specs.Trial.{size, bench, block_with, sales, block_of}
use Rattle.twopools.specs.Asked.{
  Asked,
  AskPin,
  AskUnpin,
  AskRead,
  AskWrite,
  AskFlush,
  AskGiveBack,
  AskCheckpoint,
  AskPeek,
  AskExtend,
  AskDrop,
  AskInserted,
  AskFlushed,
  FitsAsked,
}
use Rattle.twopools.specs.Pins.{Pins, Names}
use Rattle.twopools.specs.Receipts.{Receipt, Turn, receipts_of, Named, NeverSix}
use Rattle.twopools.specs.TwoSizes.{Setup, FitsSetup, buffers_of, set_up_in, served_in}

-- ---- the statement with its parts left open: what is assumed of the two set-ups, which pins a call names, what is never answered, and
-- what is the same in both
abbrev pub Sizes : {A : Type 0} → (Setup → Setup → Type 0) → (List Turn → Type 0) → (List Turn → List Turn → Type 0) → (List Turn → A)
    → Pool
    → Type 0
Sizes setups named never shown pool =
    (p at : ℕ) (small large : Setup) (calls : List Asked) → p < 2 ^ 64 → at < 2 ^ 64 → FitsSetup small → FitsSetup large → FitsAsked calls
    → setups small large
    → (set_up_in pool p at small).result ≡ 0
    → (set_up_in pool p at large).result ≡ 0
    → named (served_in pool p at small calls)
    → never (served_in pool p at small calls) (served_in pool p at large calls)
    → shown (served_in pool p at small calls) ≡ shown (served_in pool p at large calls)

-- the right parts: with them it is `TwoSizesFor` (`right-parts`)
abbrev pub Fewer : Setup → Setup → Type 0
Fewer small large = buffers_of small ≤ buffers_of large

abbrev pub OneRows : Setup → Setup → Type 0
OneRows small large = small.lent.rows ≡ large.lent.rows

abbrev pub OneStore : Setup → Setup → Type 0
OneStore small large = small.lent.store ≡ large.lent.store

abbrev pub Setups : Setup → Setup → Type 0
Setups small large = Fewer small large × OneRows small large × OneStore small large

abbrev pub SmallNever : List Turn → List Turn → Type 0
SmallNever small large = NeverSix small

abbrev pub RightParts : Pool → Type 0
RightParts = Sizes Setups Named SmallNever receipts_of

-- ---- of the two set-ups
-- any numbers of buffers; any stores; any rows
abbrev pub AnySizes : Pool → Type 0
AnySizes = Sizes (λ small large. OneRows small large × OneStore small large) Named SmallNever receipts_of

abbrev pub AnyStores : Pool → Type 0
AnyStores = Sizes (λ small large. Fewer small large × OneRows small large) Named SmallNever receipts_of

abbrev pub AnyRows : Pool → Type 0
AnyRows = Sizes (λ small large. Fewer small large × OneStore small large) Named SmallNever receipts_of

-- set up with any two positions. Two block sizes are not to be had: where there is a block at all, rows and store say what its size is
-- (`one-block-size`)
abbrev pub AnyPositions : Pool → Type 0
AnyPositions pool =
    (p at to : ℕ) (small large : Setup) (calls : List Asked) → p < 2 ^ 64 → at < 2 ^ 64 → to < 2 ^ 64 → FitsSetup small → FitsSetup large
    → FitsAsked calls
    → Setups small large
    → (set_up_in pool p at small).result ≡ 0
    → (set_up_in pool p to large).result ≡ 0
    → Named (served_in pool p at small calls)
    → NeverSix (served_in pool p at small calls)
    → receipts_of (served_in pool p at small calls) ≡ receipts_of (served_in pool p to large calls)

-- ---- of the pins
-- those given back too: all that were held before this call or before one of those before it
abbrev pub with_held : (ℕ → Bool) → Pins → Pins
with_held held p = record { made = p.made; number = p.number; holder = p.holder; held = held }

unfoldable pub NamedSince : (ℕ → Bool) → List Turn → Type 0
NamedSince ever [] = Unit {0}
NamedSince ever (t ∷ ts) =
    let now : ℕ → Bool = λ k. t.pins.held k || ever k in
    Names (with_held now t.pins) t.asked × NamedSince now ts

abbrev pub GivenBackToo : Pool → Type 0
GivenBackToo = Sizes Setups (NamedSince (λ k. false)) SmallNever receipts_of

-- any call's, be it a pin or not, refused or not
abbrev pub AnyPins : Pool → Type 0
AnyPins = Sizes Setups (λ ts. Unit {0}) SmallNever receipts_of

-- any holder's: as if all pins were of one holder, whoever it is
abbrev pub with_holder : ℕ → Pins → Pins
with_holder h p = record { made = p.made; number = p.number; holder = λ k. h; held = p.held }

unfoldable pub NamedByAny : List Turn → Type 0
NamedByAny [] = Unit {0}
NamedByAny (t ∷ ts) = ((h : ℕ) × Names (with_holder h t.pins) t.asked) × NamedByAny ts

abbrev pub AnyHolders : Pool → Type 0
AnyHolders = Sizes Setups NamedByAny SmallNever receipts_of

-- ---- of 6
-- it may be answered; the larger never answers it, but the smaller may
abbrev pub EvenAtSix : Pool → Type 0
EvenAtSix = Sizes Setups Named (λ small large. Unit {0}) receipts_of

abbrev pub LargeNever : Pool → Type 0
LargeNever = Sizes Setups Named (λ small large. NeverSix large) receipts_of

-- ---- of the receipts: with something more in each
unfoldable pub each : {A : Type 0} → (Asked → Outcome → A) → List Turn → List A
each f [] = []
each f (t ∷ ts) = f t.asked (outcome_of t.ended) ∷ each f ts

abbrev pub Showing : {A : Type 0} → (Asked → Outcome → A) → Pool → Type 0
Showing {A} f = Sizes {A = List Receipt × List A} Setups Named SmallNever (λ ts. (receipts_of ts, each f ts))

-- the calls whose answers have words that are left out: pin, flush and checkpoint, peek
abbrev pub pinning : ℕ
pinning = 1

abbrev pub writing : ℕ
writing = 2

abbrev pub peeking : ℕ
peeking = 3

unfoldable pub kind_of : Asked → ℕ
kind_of (AskPin h n) = pinning
kind_of (AskUnpin h k) = 0
kind_of (AskRead h k from out) = 0
kind_of (AskWrite h k from bytes at) = 0
kind_of (AskFlush h k) = writing
kind_of (AskGiveBack h) = 0
kind_of AskCheckpoint = writing
kind_of (AskPeek n) = peeking
kind_of (AskExtend f) = 0
kind_of (AskDrop f) = 0
kind_of (AskInserted p) = 0
kind_of (AskFlushed p) = 0

-- word i of the answers of one kind
unfoldable pub answer_word : ℕ → ℕ → Asked → Outcome → ℕ
answer_word kind i c o = cond (eqb (kind_of c) kind) (get_or o.answer i 0) 0

-- of a pin the buffer number, hit, wrote and probes
abbrev pub SameNumbers : Pool → Type 0
SameNumbers = Showing (answer_word pinning 0)

abbrev pub SameHits : Pool → Type 0
SameHits = Showing (answer_word pinning 1)

abbrev pub SameWrote : Pool → Type 0
SameWrote = Showing (answer_word pinning 2)

abbrev pub SameProbes : Pool → Type 0
SameProbes = Showing (answer_word pinning 3)

-- the count of pages that a flush or checkpoint has written
abbrev pub SameCounts : Pool → Type 0
SameCounts = Showing (answer_word writing 0)

-- whether a peek has found its page in the pool
abbrev pub SamePlaces : Pool → Type 0
SamePlaces = Showing (answer_word peeking 0)

-- the bytes with a page's 8 and 9
unfoldable pub whole_bytes : Asked → Outcome → List ℕ
whole_bytes c o = let page = part o in cond (eqb (kind_of c) peeking) page o.bytes

abbrev pub SameBytes : Pool → Type 0
SameBytes = Showing whole_bytes

-- ---- set-ups: a file of sales, with so many blocks of its 3, and a file of stock, with this block; n buffers, and a cap and slices that
-- go by n too
abbrev pub rows_with : ℕ → List ℕ
rows_with blocks = 1663 ∷ 5 ∷ 16384 ∷ 0 ∷ blocks ∷ 3 ∷ 1663 ∷ 5 ∷ 16385 ∷ 0 ∷ 1 ∷ 1 ∷ []

unfoldable pub setup_with : ℕ → List ℕ → ℕ → Setup
setup_with blocks page n =
    record {
      lent = closed (with_rows (rows_with blocks) (with_store (replicate (3 * size) 0 ++ page) (opened (bench n))));
      cap = 7 - n;
      answer = replicate 4 n;
      slices = λ i. replicate 4 (n + i);
    }

abbrev pub setup : ℕ → Setup
setup = setup_with 2 (replicate size 0)

-- with another block of stock; with one block of sales
abbrev pub stocked : ℕ → Setup
stocked = setup_with 2 (block_with 15 223 77)

abbrev pub shorter : ℕ → Setup
shorter = setup_with 1 (replicate size 0)

-- ---- lists
abbrev pub ask_pin : ℕ → FileName → ℕ → Asked
ask_pin h f b = AskPin h (block_of f b)

abbrev pub both : List Asked
both = ask_pin 0 sales 0 ∷ ask_pin 0 sales 1 ∷ []

-- one page after another, the first one dirty; then the first one again
abbrev pub one_by_one : List Asked
one_by_one =
    ask_pin 0 sales 0
    ∷ AskWrite 0 0 10 (77 ∷ []) 100
    ∷ AskUnpin 0 0
    ∷ ask_pin 0 sales 1
    ∷ AskPeek (block_of sales 0)
    ∷ AskCheckpoint
    ∷ AskUnpin 0 3
    ∷ ask_pin 0 sales 0
    ∷ []

-- a pin that was given back is named when its buffer may have another page
abbrev pub after_unpin : List Asked
after_unpin = ask_pin 0 sales 0 ∷ AskUnpin 0 0 ∷ ask_pin 0 sales 1 ∷ AskRead 0 0 10 (0 ∷ []) ∷ []

-- so is holder 1's own pin, which went with the unpin that named holder 0's
abbrev pub after_other : List Asked
after_other =
    ask_pin 0 sales 0
    ∷ ask_pin 1 sales 0
    ∷ AskUnpin 1 0
    ∷ AskGiveBack 0
    ∷ ask_pin 1 sales 1
    ∷ AskRead 1 1 10 (0 ∷ [])
    ∷ []
