-- Demand 3: one claim about a whole list of calls after one accepted set-up, as the till program makes them. Each clause stands under
-- the sentence that it is, of document 01 or of the demand.
use Rattle.std.specs.Prelude.{ℕ, zero, suc, ◌+◌, ◌*◌, ◌^◌, ◌≤◌, ◌<◌, ◌≡◌, ◌≢◌, ◌⊎◌, ◌↔◌, true, false, cond, List, [], ◌∷◌, length, get_or, take, drop, ℤ, pos, negsuc, eqb}
use Rattle.std.specs.Int.Signed.{mag}
use Rattle.laws.specs.First.{found, missing}
use Rattle.laws.specs.Block.{block}
use Rattle.buftag.specs.declared.name.PageName.{PageName}
use Rattle.buftag.specs.Name.{FitsFile, Fits}
use Rattle.buftag.specs.Names.{no_name}
use Rattle.bufmodel.specs.Position.{position}
use Rattle.bufmodel.specs.Checksum.{bare, bare_from}
use Rattle.bufmodel.specs.Rows.{files, blocks_at, row_of, start_of, store_blocks, place_of}
use Rattle.bufmodel.specs.Memory.{Memory, buffers, word_of, name_of, page_of}
use Rattle.bufmodel.specs.Sizes.{SizedFor}
use Rattle.bufmodel.specs.Books.{BooksSound}
use Rattle.bufmodel.specs.Outcome.{Outcome, zeros, one, two}
use Rattle.bufmodel.specs.Calls.{set_up, part}
use Rattle.bufmodel.specs.Step.{
  Call,
  Pin,
  Unpin,
  Read,
  Write,
  Flush,
  GiveBack,
  Checkpoint,
  Peek,
  Extend,
  Drop,
  LogInserted,
  LogFlushed,
  step,
}
use Rattle.bufmodel.specs.Lent.{Lent, Called, answer_words, opened, called}
use Rattle.shelf.specs.Sums.{fails}
use Rattle.shelf.specs.Shelf.{Shelf, first_of, has_pins, pinned_pages, above, refuses}
use Rattle.shelf.specs.Ledger.{Ledger, first_ledger, buffer_in, ledger_after, puts}
use Rattle.shelf.specs.Published.{Marks, marks_of, list_end, Alike, Published}

-- ---- all that is assumed of numbers: the lists lent and the calls' arguments hold what their C types can hold
abbrev pub Below : ℕ → List ℕ → Type 0
Below k xs = (i : ℕ) → i < length xs → get_or xs i 0 < k

abbrev pub Signed : List ℤ → Type 0
Signed xs = (i : ℕ) → i < length xs → mag (get_or xs i (pos 0)) < 2 ^ 31

pub record FitsLent (m : Lent) : Type 0 where
  pub control : Below (2 ^ 64) m.control
  pub states : Below (2 ^ 32) m.states
  pub names : Below (2 ^ 32) m.names
  pub pool : Below (2 ^ 8) m.pool
  pub free : Signed m.free
  pub heads : Signed m.heads
  pub chain : Signed m.chain
  pub rows : Below (2 ^ 32) m.rows
  pub store : Below (2 ^ 8) m.store
  pub counts : Below (2 ^ 16) m.counts

abbrev pub FitsCall : Call → Type 0
FitsCall (Pin h n) = (h < 2 ^ 64) × Fits n
FitsCall (Unpin h b) = (h < 2 ^ 64) × (b < 2 ^ 64)
FitsCall (Read h b from out) = (h < 2 ^ 64) × (b < 2 ^ 64) × (from < 2 ^ 64) × Below (2 ^ 8) out
FitsCall (Write h b from bytes at) = (h < 2 ^ 64) × (b < 2 ^ 64) × (from < 2 ^ 64) × Below (2 ^ 8) bytes × (at < 2 ^ 64)
FitsCall (Flush h b) = (h < 2 ^ 64) × (b < 2 ^ 64)
FitsCall (GiveBack h) = h < 2 ^ 64
FitsCall Checkpoint = Unit {0}
FitsCall (Peek n) = Fits n
FitsCall (Extend f) = FitsFile f
FitsCall (Drop f) = FitsFile f
FitsCall (LogInserted p) = p < 2 ^ 64
FitsCall (LogFlushed p) = p < 2 ^ 64

-- ---- a read's out and a write's bytes are each call's own
abbrev pub own : Call → List ℕ
own (Pin h n) = []
own (Unpin h b) = []
own (Read h b from out) = out
own (Write h b from bytes at) = bytes
own (Flush h b) = []
own (GiveBack h) = []
own Checkpoint = []
own (Peek n) = []
own (Extend f) = []
own (Drop f) = []
own (LogInserted p) = []
own (LogFlushed p) = []

-- ---- the answer's parts, in the order named, in four words, unused ones 0; calls with no answer named answer only done
abbrev pub Answers : Outcome → Call → Type 0
Answers o (Pin h n) = (b hit wrote probes : ℕ) × (o.answer ≡ b ∷ hit ∷ wrote ∷ probes ∷ [])
Answers o (Unpin h b) = o.answer ≡ zeros
Answers o (Read h b from out) = o.answer ≡ zeros
Answers o (Write h b from bytes at) = o.answer ≡ zeros
Answers o (Flush h b) = (count : ℕ) × (o.answer ≡ one count)
Answers o (GiveBack h) = o.answer ≡ zeros
Answers o Checkpoint = (count : ℕ) × (o.answer ≡ one count)
Answers o (Peek n) = (which offset : ℕ) × (o.answer ≡ two which offset)
Answers o (Extend f) = (b : ℕ) × (o.answer ≡ one b)
Answers o (Drop f) = o.answer ≡ zeros
Answers o (LogInserted p) = o.answer ≡ zeros
Answers o (LogFlushed p) = o.answer ≡ zeros

-- ---- what an accepted call shows is the shelf's. Bytes 8 and 9 of a page are left out when reads, peeks and store, and the pool's pages,
-- are compared with the shelf, and nowhere else; what they are is demand 2's
module _ (s : Shelf) (o : Outcome) where
  -- Its buffer number is the program's: if the page had pins, the number already holding it, else one below N that holds none
  pub record PinRule (g : ℕ) : Type 0 where
    pub below : buffer_in o.answer < s.buffers
    pub had : has_pins s g ≡ true → s.holds (buffer_in o.answer) ≡ found g
    pub fresh : has_pins s g ≡ false → s.holds (buffer_in o.answer) ≡ missing

  abbrev pub Shows : Call → Type 0
  Shows (Pin h n) = (g : ℕ) × (place_of s.rows n ≡ found g) × PinRule g × (o.bytes ≡ [])
  Shows (Unpin h b) = o.bytes ≡ []
  -- the bytes that a read fills
  Shows (Read h b from out) =
      (g : ℕ) × (s.holds b ≡ found g) × (bare_from from o.bytes ≡ take (length out) (drop from (bare (s.bytes g))))
  Shows (Write h b from bytes at) = o.bytes ≡ bytes
  Shows (Flush h b) = o.bytes ≡ []
  Shows (GiveBack h) = o.bytes ≡ []
  Shows Checkpoint = o.bytes ≡ []
  -- or a peek hands back
  Shows (Peek n) = (g : ℕ) × (place_of s.rows n ≡ found g) × (bare (part o) ≡ bare (s.bytes g)) × (o.bytes ≡ [])
  -- an extend's block number
  Shows (Extend f) = (r : ℕ) × (row_of s.rows f ≡ found r) × (get_or o.answer 0 0 ≡ blocks_at s.rows r) × (o.bytes ≡ [])
  Shows (Drop f) = o.bytes ≡ []
  Shows (LogInserted p) = o.bytes ≡ []
  Shows (LogFlushed p) = o.bytes ≡ []

-- ---- the claim for one call: m the memory before it, l the ledger before it, o its outcome, l' the ledger after it
pub record Agrees (m : Memory) (l : Ledger) (c : Call) (o : Outcome) (l' : Ledger) : Type 0 where
  -- Equal to the shelf's are, at each call, the refusal number (0 if accepted)
  pub number : o.refusal ≡ refuses l.shelf c
  -- that none of its calls answers 1 or 2 is part of it
  pub neither : (o.refusal ≢ 1) × (o.refusal ≢ 2)
  -- the answer's parts in four words, unused ones 0
  pub answers : o.refusal ≡ 0 → Answers o c
  -- the bytes that a read fills or a peek hands back, an extend's block number; an accepted pin's buffer number keeps the rule; the
  -- caller's bytes are touched by a read alone
  pub shows : o.refusal ≡ 0 → Shows l.shelf o c
  -- a refusal gives the number, other parts of the answer zero, and changes nothing in the caller's buffer; that it changes nothing in
  -- the pool or the store: `Left.same`. A refused peek hands back an empty part by the definition of `part`
  pub blank : o.refusal ≢ 0 → o.answer ≡ zeros
  pub kept : o.refusal ≢ 0 → o.bytes ≡ own c
  -- and afterwards all rows and inserted
  pub rows : o.after.rows ≡ l'.shelf.rows
  pub inserted : o.after.control.inserted ≡ l'.shelf.inserted
  -- the cap is the one given at set up
  pub cap : o.after.control.cap ≡ l'.cap
  -- so 6 exactly when N pages have pins and the wanted one is not among them, at a pin that no place above the victim's refuses
  pub six : (h : ℕ) (n : PageName) → c ≡ Pin h n → first_of (above l.shelf h n) ≡ 0 → (g : ℕ) → place_of l.shelf.rows n ≡ found g
      → (o.refusal ≡ 6) ↔ ((pinned_pages l.shelf ≡ l.shelf.buffers) × (has_pins l.shelf g ≡ false))
  -- flushed is the largest of the set-up's, accepted log flushed calls' and written-back pages' positions
  pub flushed : o.after.control.flushed ≡ l'.flushed
  -- every block put into the store by then is at or below flushed
  pub ordered : (g : ℕ) → l'.put g ≡ true → position (block l.shelf.size g o.after.store) ≤ l'.flushed
  -- no call of the list changes any other block of the store, or its length
  pub others : (g : ℕ) → g < store_blocks l.shelf.rows → puts l c o.answer o.refusal g ≡ false
      → block l.shelf.size g o.after.store ≡ block l.shelf.size g m.store
  pub long : length o.after.store ≡ length m.store
  -- the blocks that it puts there, and the page of each buffer in use, are the shelf's
  pub stored : (g : ℕ) → g < store_blocks l.shelf.rows → puts l c o.answer o.refusal g ≡ true
      → bare (block l.shelf.size g o.after.store) ≡ bare (l'.shelf.bytes g)
  pub held : (i g : ℕ) → i < buffers o.after → word_of o.after i ≢ 0 → place_of o.after.rows (name_of o.after i) ≡ found g
      → bare (page_of o.after i) ≡ bare (l'.shelf.bytes g)
  -- and each holder's count of that buffer is the shelf's of the page
  pub counts : (h i g : ℕ) → h < 64 → i < buffers o.after → word_of o.after i ≢ 0
      → place_of o.after.rows (name_of o.after i) ≡ found g
      → get_or o.after.counts (i * 64 + h) 0 ≡ l'.shelf.counts h g
  -- a block of the store below its file's block count fails its checksum exactly if the shelf counts it as bad
  pub sums : (n : PageName) (g : ℕ) → place_of o.after.rows n ≡ found g
      → fails n.block.0 (block l.shelf.size g o.after.store) ≡ l'.shelf.bad g
  -- after an accepted checkpoint also, in the store, every byte of each block below its file's block count
  pub settled : c ≡ Checkpoint → o.refusal ≡ 0 → (r b : ℕ) → r < files l.shelf.rows → b < blocks_at l.shelf.rows r
      → let g = start_of l.shelf.rows r + b in
      bare (block l.shelf.size g o.after.store) ≡ bare (l.shelf.bytes g)

-- ---- and for the memory as it is lent: m before the call, r what it ended with, l' the ledger after it
-- −1 as 64 one bits
abbrev pub top_word : ℤ → ℕ
top_word (pos i) = i
top_word (negsuc k) = 0xFFFFFFFFFFFFFFFF

pub record Left (m : Lent) (r : Called) (l' : Ledger) : Type 0 where
  -- a refusal changes nothing in the pool or the store, to the letter
  pub same : r.result ≢ 0 → r.lent ≡ m
  -- none of the calls answers 1 or 2: sizes and rows keep the rules and the books are sound, whichever call comes next
  pub sizes : SizedFor l'.shelf.size (opened r.lent)
  pub books : BooksSound (opened r.lent)
  -- the control record as 64-bit words in the order P, hand, top of the free list, inserted, flushed, cap; hand and top are as `opened`
  -- reads them, and what they are is demand 2's
  pub control : let k = (opened r.lent).control in
      r.lent.control ≡ l'.shelf.size ∷ k.hand ∷ top_word k.top ∷ l'.shelf.inserted ∷ l'.flushed ∷ l'.cap ∷ []

-- ---- set up, before the list
-- the books of n empty buffers: free list 0, 1, .. n − 1; hand 0; all chains empty; all counts 0
abbrev pub fresh_marks : ℕ → Marks
fresh_marks n =
    record {
      word = λ i. 0;
      name = λ i. no_name;
      link = λ i. cond (eqb (suc i) n) list_end (pos (suc i));
      chain = λ i. list_end;
      head = λ b. list_end;
      count = λ i h. 0;
      hand = 0;
      top = pos 0;
    }

pub record Fresh (m k : Lent) (p at cap : ℕ) : Type 0 where
  pub many : length k.states ≡ length m.states
  pub wide : length k.heads ≡ length m.heads
  pub sizes : SizedFor p (opened k)
  pub alike : Alike (length m.states) (length m.heads) (marks_of (opened k)) (fresh_marks (length m.states))
  pub control : k.control ≡ p ∷ 0 ∷ 0 ∷ at ∷ at ∷ cap ∷ []
  pub pool : k.pool ≡ m.pool
  pub rows : k.rows ≡ m.rows
  pub store : k.store ≡ m.store

-- lengths and rows keep the rules, with P as it is given
abbrev pub Lends : Lent → ℕ → Type 0
Lends m p = SizedFor p (opened m) × (length m.control ≡ 6)

-- the cap is from 1 to 15
abbrev pub Capped : ℕ → Type 0
Capped cap = (1 ≤ cap) × (cap ≤ 15)

-- accepted exactly where both hold; else 1, or, after 1, 18, and nothing changed
pub record SetsUp (m : Lent) (p at cap : ℕ) (r : Called) : Type 0 where
  pub accepted : (r.result ≡ 0) ↔ (Lends m p × Capped cap)
  pub fresh : r.result ≡ 0 → Fresh m r.lent p at cap
  pub number : r.result ≢ 0 → ((r.result ≡ 1) × (Lends m p → ⊥)) ⊎ ((r.result ≡ 18) × Lends m p)
  pub refused : r.result ≢ 0 → r.lent ≡ m
  pub answer : r.answer ≡ zeros
  pub bytes : r.bytes ≡ []

-- ---- the claim for a list
-- a call as the till program makes it, with an answer slice of its own
pub record Made : Type 0 where
  pub call : Call
  pub answer : List ℕ

abbrev pub FitsMade : List Made → Type 0
FitsMade [] = Unit {0}
FitsMade (c ∷ cs) = FitsCall c.call × (length c.answer ≡ answer_words) × FitsMade cs

-- what the till program sees of it: result, answer, its own bytes and the lent memory, the control record taken apart
abbrev pub outcome_of : Called → Outcome
outcome_of r = record { refusal = r.result; answer = r.answer; bytes = r.bytes; after = opened r.lent }

-- a pool as the till program calls it: set up with P, a log position, a cap and an answer slice; a call with the caller's own bytes and an
-- answer slice; both over the lent memory
pub record Pool : Type 0 where
  pub sets_up : ℕ → ℕ → ℕ → Lent → List ℕ → Called
  pub calls : Call → Lent → List ℕ → List ℕ → Called

-- the pool of a function over the memory, with the right set up
abbrev pub calling : (Memory → Call → Outcome) → Pool
calling f = record { sets_up = λ p at cap m. called (λ k. set_up k p at cap) m []; calls = λ c. called (λ m. f m c) }

-- each call gets all the lent memory, the control record too, as the call before left it
abbrev pub ClaimFor : Pool → Lent → Ledger → List Made → Type 0
ClaimFor pool m l [] = Unit {0}
ClaimFor pool m l (c ∷ cs) =
    let r = pool.calls c.call m (own c.call) c.answer in
    let o = outcome_of r in
    let l' = ledger_after l c.call o.answer o.refusal in
    Agrees (opened m) l c.call o l' × Left m r l' × Published (opened m) l.cap l.shelf.buffers c.call o
    × ClaimFor pool r.lent l' cs

-- DEMAND 3, of a pool: for every lent memory, every set-up and, where it is accepted, every list of calls
abbrev pub Demand3For : Pool → Type 0
Demand3For pool =
    (m : Lent) (p at cap : ℕ) (answer : List ℕ) (calls : List Made) → FitsLent m → p < 2 ^ 64 → at < 2 ^ 64 → cap < 2 ^ 64
    → length answer ≡ answer_words → FitsMade calls
    → let r = pool.sets_up p at cap m answer in
    SetsUp m p at cap r × (r.result ≡ 0 → ClaimFor pool r.lent (first_ledger (opened m) p at cap) calls)

-- and of this one
abbrev pub Demand3 : Type 0
Demand3 = Demand3For (calling step)

-- ---- what the till program gets: from set up, and, where that is accepted, from each call of the list
abbrev pub receipts : Pool → Lent → List Made → List Called
receipts pool m [] = []
receipts pool m (c ∷ cs) =
    let r = pool.calls c.call m (own c.call) c.answer in
    r ∷ receipts pool r.lent cs

abbrev pub if_accepted : ℕ → List Called → List Called
if_accepted zero rs = rs
if_accepted (suc k) rs = []

abbrev pub received : Pool → ℕ → ℕ → ℕ → Lent → List ℕ → List Made → List Called
received pool p at cap m answer calls =
    let r = pool.sets_up p at cap m answer in
    r ∷ if_accepted r.result (receipts pool r.lent calls)

-- DEMAND 3 LEAVES ONE POOL: whichever meets it gives the till program what this one gives, to the last byte of the lent memory
abbrev pub OnePool : Type 0
OnePool =
    (pool : Pool) → Demand3For pool → (m : Lent) (p at cap : ℕ) (answer : List ℕ) (calls : List Made) → FitsLent m → p < 2 ^ 64
    → at < 2 ^ 64
    → cap < 2 ^ 64
    → length answer ≡ answer_words
    → FitsMade calls
    → received pool p at cap m answer calls ≡ received (calling step) p at cap m answer calls
