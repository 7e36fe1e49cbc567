-- Demand 2: each pin's buffer, probe count and state words are those of the published free list and clock sweep; and what every other call
-- leaves of the books, the pages and the store, and answers. That names, state words, log positions and checksums are packed as published:
-- `Numbers`.
use Rattle.std.specs.Prelude.{ℕ, zero, suc, ◌+◌, ◌-◌, ◌*◌, ◌^◌, ◌≤◌, ◌<◌, ◌≡◌, ◌≢◌, Bool, not, ◌&&◌, cond, List, [], ◌∷◌, length, get_or, take, drop, replicate, ℤ, pos, negsuc, eqb, ltb}
use Rattle.laws.specs.Sum.{count}
use Rattle.laws.specs.First.{Found, found, missing}
use Rattle.laws.specs.Block.{block}
use Rattle.buftag.specs.declared.link.Link.TheVariants.{To, End}
use Rattle.std.specs.Prelude.{Some, None}
use Rattle.buftag.specs.declared.number.BufferNumber.{BufferNumber}
use Rattle.buftag.specs.declared.name.FileName.{FileName}
use Rattle.buftag.specs.declared.name.PageName.{PageName}
use Rattle.buftag.specs.Name.{bucket_of, same_file}
use Rattle.buftag.specs.Names.{no_name}
use Rattle.buftag.specs.Link.{number_at, link_of, is_to}
use Rattle.bufmodel.specs.Word.{usage, dirty}
use Rattle.bufmodel.specs.Rows.{blocks_at, row_of, start_of, store_blocks, place_of}
use Rattle.bufmodel.specs.Memory.{Memory, buffers, size, cap_of, word_of, name_of, page_of}
use Rattle.bufmodel.specs.Sizes.{SizedFor}
use Rattle.bufmodel.specs.Books.{BooksSound}
use Rattle.bufmodel.specs.Sweep.{Swept, Sweeps}
use Rattle.bufmodel.specs.Outcome.{Outcome, one, two}
use Rattle.bufmodel.specs.Pin.{held_in}
use Rattle.bufmodel.specs.Step.{
  Call,
  Pin,
  Unpin,
  Read,
  Write,
  Flush,
  GiveBack,
  Checkpoint,
  Peek,
  Extend,
  Drop,
  LogInserted,
  LogFlushed,
  step,
}
use Rattle.shelf.specs.Sums.{goes_out}
use Rattle.shelf.specs.Shelf.{with, written_page}

-- ---- state words: the pin count is in bits 0 to 17, the usage count in bits 18 to 21; dirty is bit 23, just dirtied bit 28
-- pin count + 1, usage + 1 where it is below the cap
unfoldable pub more_pins : ℕ → ℕ → ℕ
more_pins cap w = cond (ltb (usage w) cap) (w + 1 + 0x40000) (w + 1)

-- dirty and just dirtied set, and both cleared
unfoldable pub dirtied : ℕ → ℕ
dirtied w = cond (dirty w) w (w + 0x10800000)

unfoldable pub cleaned : ℕ → ℕ
cleaned w = cond (dirty w) (w - 0x10800000) w

-- pin and usage counts are 1, clean
abbrev pub just_loaded : ℕ
just_loaded = 0x83040001

-- ---- the books, place by place: each buffer's word, name, free link and chain link, each bucket's head, each holder's count of each
-- buffer, the hand, the free list's top
pub record Marks : Type 0 where
  pub word : ℕ → ℕ
  pub name : ℕ → PageName
  pub link : ℕ → ℤ
  pub chain : ℕ → ℤ
  pub head : ℕ → ℤ
  -- buffer, holder
  pub count : ℕ → ℕ → ℕ
  pub hand : ℕ
  pub top : ℤ

abbrev pub marks_of : Memory → Marks
marks_of m =
    record {
      word = word_of m;
      name = name_of m;
      link = number_at m.free;
      chain = number_at m.chain;
      head = number_at m.heads;
      count = λ i h. get_or m.counts (i * 64 + h) 0;
      hand = m.control.hand;
      top = m.control.top;
    }

-- other words, and another hand
abbrev pub with_words : (ℕ → ℕ) → ℕ → Marks → Marks
with_words word hand k =
    record {
      word = word;
      name = k.name;
      link = k.link;
      chain = k.chain;
      head = k.head;
      count = k.count;
      hand = hand;
      top = k.top;
    }

-- another word and another count by holder h at each buffer
abbrev pub with_pins : (ℕ → ℕ) → ℕ → (ℕ → ℕ) → Marks → Marks
with_pins word h count k =
    record {
      word = word;
      name = k.name;
      link = k.link;
      chain = k.chain;
      head = k.head;
      count = λ i. with h (count i) (k.count i);
      hand = k.hand;
      top = k.top;
    }

-- −1 ends a list, −2 means not in it
abbrev pub list_end : ℤ
list_end = negsuc 0

abbrev pub unlisted : ℤ
unlisted = negsuc 1

-- a link that led to buffer i leads to where its own does
abbrev pub led_past : ℕ → ℤ → ℤ → ℤ
led_past i own link = cond (is_to i (link_of link)) own link

-- buffer i is emptied, its chain entry goes, and it is put on top of the free list
unfoldable pub emptied : ℕ → Marks → Marks
emptied i k =
    record {
      word = with i 0 k.word;
      name = with i no_name k.name;
      link = with i k.top k.link;
      chain = with i list_end (λ j. led_past i (k.chain i) (k.chain j));
      head = λ b. led_past i (k.chain i) (k.head b);
      count = k.count;
      hand = k.hand;
      top = pos i;
    }

-- page n comes into buffer i, the free list's top, for holder h: the name enters at the head of bucket b; pin and usage counts are 1,
-- clean; the holder's count is 1
unfoldable pub loaded_into : ℕ → ℕ → PageName → ℕ → Marks → Marks
loaded_into b h n i k =
    record {
      word = with i just_loaded k.word;
      name = with i n k.name;
      link = with i unlisted k.link;
      chain = with i (k.head b) k.chain;
      head = with b (pos i) k.head;
      count = with i (with h 1 (k.count i)) k.count;
      hand = k.hand;
      top = k.link i;
    }

-- two of them are alike for n buffers and b buckets
pub record Alike (n b : ℕ) (k l : Marks) : Type 0 where
  pub words : (i : ℕ) → i < n → k.word i ≡ l.word i
  pub names : (i : ℕ) → i < n → k.name i ≡ l.name i
  pub links : (i : ℕ) → i < n → k.link i ≡ l.link i
  pub chains : (i : ℕ) → i < n → k.chain i ≡ l.chain i
  pub heads : (j : ℕ) → j < b → k.head j ≡ l.head j
  pub counts : (i h : ℕ) → i < n → h < 64 → k.count i h ≡ l.count i h
  pub hand : k.hand ≡ l.hand
  pub top : k.top ≡ l.top

module _ (m : Memory) where
  abbrev pub buckets : ℕ
  buckets = length m.heads

  -- ---- the store, place by place, as it is, and with another block at a place
  abbrev pub blocks_of : ℕ → List ℕ
  blocks_of g = block (size m) g m.store

  unfoldable pub put_in : Found → List ℕ → (ℕ → List ℕ) → ℕ → List ℕ
  put_in (found g) page store = with g page store
  put_in missing page store = store

  -- buffer i's page written back if it is dirty: in the store it has its checksum. The page in the pool keeps its own two bytes: no page of
  -- the pool changes but where one is loaded or written to
  unfoldable pub backed : ℕ → (ℕ → List ℕ) → ℕ → List ℕ
  backed i store =
      cond (dirty (word_of m i)) (put_in (place_of m.rows (name_of m i)) (goes_out (name_of m i).block.0 (page_of m i)) store) store

  -- the buffers below j, rising
  unfoldable pub backed_to : ℕ → ℕ → List ℕ
  backed_to zero = blocks_of
  backed_to (suc j) = backed j (backed_to j)

  -- the next block of the file in a row becomes zeros
  unfoldable pub extended_by : Found → ℕ → List ℕ
  extended_by (found r) = with (start_of m.rows r + blocks_at m.rows r) (replicate (size m) 0) blocks_of
  extended_by missing = blocks_of

  -- ---- what an accepted call leaves: as many buffers and buckets, the books so, the pages and the blocks of the store so
  pub record Leaves (o : Outcome) (k : Marks) (page store : ℕ → List ℕ) : Type 0 where
    pub many : buffers o.after ≡ buffers m
    pub wide : length o.after.heads ≡ buckets
    pub alike : Alike (buffers m) buckets (marks_of o.after) k
    pub pages : (i : ℕ) → i < buffers m → page_of o.after i ≡ page i
    pub blocks : (g : ℕ) → g < store_blocks m.rows → block (size m) g o.after.store ≡ store g

  -- other words, other blocks in the store, and nothing else
  abbrev pub Words : Outcome → (ℕ → ℕ) → (ℕ → List ℕ) → Type 0
  Words o word = Leaves o (with_words word m.control.hand (marks_of m)) (page_of m)

  -- other words, other counts by holder h, and nothing else
  abbrev pub Pins : Outcome → (ℕ → ℕ) → ℕ → (ℕ → ℕ) → Type 0
  Pins o word h count = Leaves o (with_pins word h count (marks_of m)) (page_of m) blocks_of

  -- holder h's count of each buffer
  abbrev pub counts_by : ℕ → ℕ → ℕ
  counts_by h i = get_or m.counts (i * 64 + h) 0

  -- a hit of holder h on buffer i: its count rises, and with its first pin the word
  abbrev pub Hits : ℕ → ℕ → ℕ → Outcome → Type 0
  Hits cap h i o =
      let c = counts_by h i in
      Pins o (with i (cond (eqb c 0) (more_pins cap (word_of m i)) (word_of m i)) (word_of m)) h (with i (c + 1) (counts_by h))

  -- ---- A pin's probes are the buffers that its sweep looks at, each time counted
  module _ (h : ℕ) (n : PageName) where
    -- page n comes into buffer i
    abbrev pub loaded : ℕ → Marks → Marks
    loaded = loaded_into (bucket_of n buckets) h n

    pub data Probes (cap : ℕ) (o : Outcome) : ℕ → Type 0 where
      -- none on a hit: the buffer that has the page; hit, nothing written
      hit : {b : BufferNumber} → held_in m n ≡ Some b → o.refusal ≡ 0 → o.answer ≡ b.0 ∷ 1 ∷ 0 ∷ 0 ∷ []
          → Hits cap h b.0 o
          → Probes cap o 0
      -- or from the free list: its top; loaded from the store, nothing written
      free : {i g : ℕ} → held_in m n ≡ None → link_of m.control.top ≡ To i → o.refusal ≡ 0 → o.answer ≡ i ∷ 0 ∷ 0 ∷ 0 ∷ []
          → place_of m.rows n ≡ found g
          → Leaves o (loaded i (marks_of m)) (with i (blocks_of g) (page_of m)) blocks_of
          → Probes cap o 0
      -- or at a refusal before a victim is sought
      early : o.refusal ≢ 0 → o.refusal ≢ 6 → Probes cap o 0
      -- those of a sweep that gave the buffer, and left words and hand; loaded, and written if the victim was dirty
      taken : {s : Swept} {v g : ℕ} → held_in m n ≡ None → link_of m.control.top ≡ End → o.refusal ≡ 0
          → Sweeps (buffers m) 0 m.control.hand m.states s
          → s.victim ≡ found v
          → o.answer ≡ v ∷ 0 ∷ cond (dirty (word_of m v)) 1 0 ∷ s.probes ∷ []
          → place_of m.rows n ≡ found g
          → Leaves o (loaded v (emptied v (with_words (λ i. get_or s.words i 0) s.hand (marks_of m))))
          (with v (blocks_of g) (page_of m)) (backed v blocks_of)
          → Probes cap o s.probes
      -- those of a sweep that found all pinned
      stuck : {s : Swept} → held_in m n ≡ None → link_of m.control.top ≡ End → o.refusal ≡ 6
          → Sweeps (buffers m) 0 m.control.hand m.states s
          → s.victim ≡ missing
          → Probes cap o s.probes

    pub record Sought (cap many : ℕ) (o : Outcome) : Type 0 where
      pub probes : ℕ
      pub looked : Probes cap o probes
      -- at most cap + 1 probes for each buffer
      pub bound : probes ≤ (cap + 1) * many
      -- N at 6; an accepted pin answers their number
      pub at_six : o.refusal ≡ 6 → probes ≡ many
      pub answered : o.refusal ≡ 0 → get_or o.answer 3 0 ≡ probes

  module _ (n : PageName) where
    -- ---- peek: 1 for the pool's page if held, 0 for the store's block, and a byte offset
    pub record Peeks (o : Outcome) : Type 0 where
      pub in_pool : (b : BufferNumber) → held_in m n ≡ Some b → o.answer ≡ two 1 (b.0 * size m)
      pub in_store : (g : ℕ) → held_in m n ≡ None → place_of m.rows n ≡ found g → o.answer ≡ two 0 (g * size m)

  -- ---- drop: the file's buffers below j, rising, are emptied
  module _ (f : FileName) where
    unfoldable pub filed : ℕ → Bool
    filed i = not (eqb (word_of m i) 0) && same_file (name_of m i).file f

    unfoldable pub dropped_to : ℕ → Marks
    dropped_to zero = marks_of m
    dropped_to (suc j) = let k = dropped_to j in cond (filed j) (emptied j k) k

  -- ---- what each call leaves where it is accepted; the bytes that a read fills, 8 and 9 among them; the count that flush and checkpoint
  -- wrote; a pin's is above
  abbrev pub Accepts : Call → Outcome → Type 0
  Accepts (Pin h n) o = Unit {0}
  Accepts (Unpin h b) o =
      let c = counts_by h b in
      Pins o (with b (cond (eqb c 1) (word_of m b - 1) (word_of m b)) (word_of m)) h (with b (c - 1) (counts_by h))
  Accepts (Read h b from out) o = Words o (word_of m) blocks_of × (o.bytes ≡ take (length out) (drop from (page_of m b)))
  Accepts (Write h b from bytes at) o =
      Leaves o (with_words (with b (dirtied (word_of m b)) (word_of m)) m.control.hand (marks_of m))
      (with b (written_page at from bytes (page_of m b)) (page_of m)) blocks_of
  Accepts (Flush h b) o =
      Words o (with b (cleaned (word_of m b)) (word_of m)) (backed b blocks_of) × (o.answer ≡ one (cond (dirty (word_of m b)) 1 0))
  Accepts (GiveBack h) o = Pins o (λ i. cond (eqb (counts_by h i) 0) (word_of m i) (word_of m i - 1)) h (λ i. 0)
  Accepts Checkpoint o =
      Words o (λ i. cleaned (word_of m i)) (backed_to (buffers m))
      × (o.answer ≡ one (count (buffers m) (λ i. dirty (word_of m i))))
  Accepts (Peek n) o = Words o (word_of m) blocks_of × Peeks n o
  Accepts (Extend f) o = Words o (word_of m) (extended_by (row_of m.rows f))
  Accepts (Drop f) o = Leaves o (dropped_to f (buffers m)) (page_of m) blocks_of
  Accepts (LogInserted p) o = Words o (word_of m) blocks_of
  Accepts (LogFlushed p) o = Words o (word_of m) blocks_of

  -- the cap and the number of buffers: in demand 2, below, the memory's, in demand 3 those given at set up
  pub record Published (cap many : ℕ) (c : Call) (o : Outcome) : Type 0 where
    pub sought : (h : ℕ) (n : PageName) → c ≡ Pin h n → Sought h n cap many o
    pub accepts : o.refusal ≡ 0 → Accepts c o
    -- no call changes the cap
    pub stays : cap_of o.after ≡ cap_of m
    -- a refusal changes nothing
    pub same : o.refusal ≢ 0 → o.after ≡ m

-- DEMAND 2, of a pool over every sound memory with words of 32 bits, whatever calls came before
abbrev pub Demand2For : (Memory → Call → Outcome) → Type 0
Demand2For pool =
    (m : Memory) (c : Call) → ((i : ℕ) → i < buffers m → word_of m i < 2 ^ 32) → SizedFor (size m) m → BooksSound m
    → Published m (cap_of m) (buffers m) c (pool m c)

-- and of this one
abbrev pub Demand2 : Type 0
Demand2 = Demand2For step
