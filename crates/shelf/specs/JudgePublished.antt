-- The tests of the judge that are demand 2's: what an accepted call answers, and what it leaves of the books, the pages and the store.
use Rattle.std.specs.Prelude.{ℕ, ◌+◌, ◌-◌, ◌*◌, Bool, false, ◌&&◌, cond, List, [], ◌∷◌, length, get_or, take, drop, eqb}
use Rattle.laws.specs.Every.{all}
use Rattle.laws.specs.Sum.{count}
use Rattle.laws.specs.First.{Found, found, missing}
use Rattle.buftag.specs.declared.link.Link.{Link}
use Rattle.buftag.specs.declared.link.Link.TheVariants.{To, End, Off, Bad}
use Rattle.buftag.specs.Lookup.{Held as HeldAt}
use Rattle.std.specs.Prelude.{Some, None}
use Rattle.buftag.specs.declared.name.PageName.{PageName}
use Rattle.buftag.specs.Link.{link_of}
use Rattle.bufmodel.specs.Word.{dirty}
use Rattle.bufmodel.specs.Rows.{row_of, store_blocks, place_of}
use Rattle.bufmodel.specs.Memory.{Memory, buffers, size, word_of, page_of}
use Rattle.bufmodel.specs.Sweep.{Swept, sweep}
use Rattle.bufmodel.specs.Outcome.{Outcome, one, two}
use Rattle.bufmodel.specs.Pin.{held_in}
use Rattle.bufmodel.specs.Step.{
  Call,
  Pin,
  Unpin,
  Read,
  Write,
  Flush,
  GiveBack,
  Checkpoint,
  Peek,
  Extend,
  Drop,
  LogInserted,
  LogFlushed,
}
use Rattle.shelf.specs.Shelf.{with, written_page}
use Rattle.shelf.specs.Published.{
  Marks,
  marks_of,
  with_words,
  with_pins,
  more_pins,
  dirtied,
  cleaned,
  emptied,
  loaded,
  dropped_to,
  blocks_of,
  backed,
  backed_to,
  extended_by,
  counts_by,
}
use Rattle.shelf.specs.Tests.{
  Probes,
  Bytes,
  Counts,
  Part,
  Words,
  Private,
  Hand,
  FreeList,
  Names,
  Chains,
  Pages,
  Store,
  Test,
  test,
  if_place,
  same_list,
  some,
  start,
  words_test,
  names_test,
  links_test,
  chains_test,
  counts_test,
}

-- the cap and the number of buffers as the statement has them
module _ (cap many : ℕ) (m : Memory) where
  abbrev pub sweep_of : Swept
  sweep_of = sweep ((cap + 1) * many) (buffers m) 0 0 m.control.hand m.states

  -- the marks that a call leaves where it is accepted. A pin: the sweep's victim; the free list's top; the buffer that has the page
  abbrev pub other_words : (ℕ → ℕ) → Marks
  other_words word = with_words word m.control.hand (marks_of m)

  abbrev pub other_pins : (ℕ → ℕ) → ℕ → (ℕ → ℕ) → Marks
  other_pins word h count = with_pins word h count (marks_of m)

  unfoldable pub swept_marks : ℕ → PageName → Swept → Found → Marks
  swept_marks h n s (found v) = loaded m h n v (emptied v (with_words (λ i. get_or s.words i 0) s.hand (marks_of m)))
  swept_marks h n s missing = marks_of m

  unfoldable pub new_marks : ℕ → PageName → Link → Marks
  new_marks h n (To i) = loaded m h n i (marks_of m)
  new_marks h n End = swept_marks h n sweep_of sweep_of.victim
  new_marks h n Off = marks_of m
  new_marks h n Bad = marks_of m

  unfoldable pub pin_marks : ℕ → PageName → HeldAt → Marks
  pin_marks h n (Some b) =
      let i = b.0 in
      let c = counts_by m h i in
      other_pins (with i (cond (eqb c 0) (more_pins cap (word_of m i)) (word_of m i)) (word_of m)) h (with i (c + 1) (counts_by m h))
  pin_marks h n None = new_marks h n (link_of m.control.top)

  unfoldable pub marks_after : Call → Marks
  marks_after (Pin h n) = pin_marks h n (held_in m n)
  marks_after (Unpin h b) =
      let c = counts_by m h b in
      other_pins (with b (cond (eqb c 1) (word_of m b - 1) (word_of m b)) (word_of m)) h (with b (c - 1) (counts_by m h))
  marks_after (Read h b from out) = other_words (word_of m)
  marks_after (Write h b from bytes at) = other_words (with b (dirtied (word_of m b)) (word_of m))
  marks_after (Flush h b) = other_words (with b (cleaned (word_of m b)) (word_of m))
  marks_after (GiveBack h) = other_pins (λ i. cond (eqb (counts_by m h i) 0) (word_of m i) (word_of m i - 1)) h (λ i. 0)
  marks_after Checkpoint = other_words (λ i. cleaned (word_of m i))
  marks_after (Peek n) = other_words (word_of m)
  marks_after (Extend f) = other_words (word_of m)
  marks_after (Drop f) = dropped_to m f (buffers m)
  marks_after (LogInserted p) = other_words (word_of m)
  marks_after (LogFlushed p) = other_words (word_of m)

  -- the pages of the pool and the blocks of the store that it leaves
  unfoldable pub loaded_pages : ℕ → Found → ℕ → List ℕ
  loaded_pages i (found g) = with i (blocks_of m g) (page_of m)
  loaded_pages i missing = page_of m

  unfoldable pub swept_pages : PageName → Found → ℕ → List ℕ
  swept_pages n (found v) = loaded_pages v (place_of m.rows n)
  swept_pages n missing = page_of m

  unfoldable pub swept_blocks : Found → ℕ → List ℕ
  swept_blocks (found v) = backed m v (blocks_of m)
  swept_blocks missing = blocks_of m

  unfoldable pub new_pages : PageName → Link → ℕ → List ℕ
  new_pages n (To i) = loaded_pages i (place_of m.rows n)
  new_pages n End = swept_pages n sweep_of.victim
  new_pages n Off = page_of m
  new_pages n Bad = page_of m

  unfoldable pub new_blocks : Link → ℕ → List ℕ
  new_blocks (To i) = blocks_of m
  new_blocks End = swept_blocks sweep_of.victim
  new_blocks Off = blocks_of m
  new_blocks Bad = blocks_of m

  unfoldable pub pin_pages : PageName → HeldAt → ℕ → List ℕ
  pin_pages n (Some b) = page_of m
  pin_pages n None = new_pages n (link_of m.control.top)

  unfoldable pub pin_blocks : HeldAt → ℕ → List ℕ
  pin_blocks (Some b) = blocks_of m
  pin_blocks None = new_blocks (link_of m.control.top)

  unfoldable pub pages_after : Call → ℕ → List ℕ
  pages_after (Pin h n) = pin_pages n (held_in m n)
  pages_after (Unpin h b) = page_of m
  pages_after (Read h b from out) = page_of m
  pages_after (Write h b from bytes at) = with b (written_page at from bytes (page_of m b)) (page_of m)
  pages_after (Flush h b) = page_of m
  pages_after (GiveBack h) = page_of m
  pages_after Checkpoint = page_of m
  pages_after (Peek n) = page_of m
  pages_after (Extend f) = page_of m
  pages_after (Drop f) = page_of m
  pages_after (LogInserted p) = page_of m
  pages_after (LogFlushed p) = page_of m

  unfoldable pub blocks_after : Call → ℕ → List ℕ
  blocks_after (Pin h n) = pin_blocks (held_in m n)
  blocks_after (Unpin h b) = blocks_of m
  blocks_after (Read h b from out) = blocks_of m
  blocks_after (Write h b from bytes at) = blocks_of m
  blocks_after (Flush h b) = backed m b (blocks_of m)
  blocks_after (GiveBack h) = blocks_of m
  blocks_after Checkpoint = backed_to m (buffers m)
  blocks_after (Peek n) = blocks_of m
  blocks_after (Extend f) = extended_by m (row_of m.rows f)
  blocks_after (Drop f) = blocks_of m
  blocks_after (LogInserted p) = blocks_of m
  blocks_after (LogFlushed p) = blocks_of m

  -- what it answers
  module _ (a : List ℕ) where
    unfoldable pub swept_test : Swept → Found → Bool
    swept_test s (found v) = same_list a (v ∷ 0 ∷ cond (dirty (word_of m v)) 1 0 ∷ s.probes ∷ [])
    swept_test s missing = false

    unfoldable pub new_test : Link → Bool
    new_test (To i) = same_list a (i ∷ 0 ∷ 0 ∷ 0 ∷ [])
    new_test End = swept_test sweep_of sweep_of.victim
    new_test Off = false
    new_test Bad = false

    unfoldable pub pin_test : HeldAt → Bool
    pin_test (Some b) = same_list a (b.0 ∷ 1 ∷ 0 ∷ 0 ∷ [])
    pin_test None = new_test (link_of m.control.top)

    unfoldable pub peek_test : PageName → HeldAt → Bool
    peek_test n (Some b) = same_list a (two 1 (b.0 * size m))
    peek_test n None = if_place (place_of m.rows n) (λ g. same_list a (two 0 (g * size m)))

    unfoldable pub said_tests : List ℕ → Call → List Test
    said_tests bytes (Pin h n) = test Probes (pin_test (held_in m n)) ∷ []
    said_tests bytes (Unpin h b) = []
    said_tests bytes (Read h b from out) = test Bytes (same_list bytes (take (length out) (drop from (page_of m b)))) ∷ []
    said_tests bytes (Write h b from new at) = []
    said_tests bytes (Flush h b) = test Counts (same_list a (one (cond (dirty (word_of m b)) 1 0))) ∷ []
    said_tests bytes (GiveBack h) = []
    said_tests bytes Checkpoint = test Counts (same_list a (one (count (buffers m) (λ i. dirty (word_of m i))))) ∷ []
    said_tests bytes (Peek n) = test Part (peek_test n (held_in m n)) ∷ []
    said_tests bytes (Extend f) = []
    said_tests bytes (Drop f) = []
    said_tests bytes (LogInserted p) = []
    said_tests bytes (LogFlushed p) = []

-- what it leaves: words, private counts, the clock and the free list; names and chains; pages and blocks
module _ (m : Memory) where
  module _ (o : Outcome) (k : Marks) where
    unfoldable pub clock_tests : List Test
    clock_tests =
        let now = marks_of o.after in
        test Words (eqb (buffers o.after) (buffers m) && words_test (buffers m) (length m.heads) now k)
        ∷ test Private (counts_test (buffers m) (length m.heads) now k)
        ∷ test Hand (eqb now.hand k.hand)
        ∷ test FreeList (links_test (buffers m) (length m.heads) now k)
        ∷ []

    unfoldable pub name_tests : List Test
    name_tests =
        let now = marks_of o.after in
        test Names (names_test (buffers m) (length m.heads) now k)
        ∷ test Chains (eqb (length o.after.heads) (length m.heads) && chains_test (buffers m) (length m.heads) now k)
        ∷ []

  module _ (o : Outcome) (page store : ℕ → List ℕ) where
    unfoldable pub page_tests : List Test
    page_tests =
        test Pages (all (buffers m) (λ i. same_list (start (size o.after) i o.after.pool) (take some (page i))))
        ∷ test Store (all (store_blocks m.rows) (λ g. same_list (start (size m) g o.after.store) (take some (store g))))
        ∷ []
