-- The statement of demand 3 as a test: of a pool, a set up and a list of calls, the first clause that fails. One test for each clause,
-- which passes where the clause holds.
use Rattle.std.specs.Prelude.{ℕ, zero, suc, ◌+◌, Bool, true, not, ◌&&◌, cond, List, [], ◌∷◌, length, get_or, take, drop, eqb, leb, ltb}
use Rattle.std.specs.Bool.{beq}
use Rattle.laws.specs.Every.{all}
use Rattle.laws.specs.First.{Found, found, missing}
use Rattle.laws.specs.Block.{block}
use Rattle.bufmodel.specs.Position.{position}
use Rattle.bufmodel.specs.Checksum.{bare, bare_from}
use Rattle.bufmodel.specs.Rows.{files, blocks_at, row_of, start_of, store_blocks, place_of}
use Rattle.bufmodel.specs.Memory.{Memory, buffers, size, word_of, name_of}
use Rattle.bufmodel.specs.Sizes.{sized_for}
use Rattle.bufmodel.specs.Books.{is_found, sound}
use Rattle.bufmodel.specs.Outcome.{Outcome, zeros, one, two}
use Rattle.bufmodel.specs.Calls.{part}
use Rattle.bufmodel.specs.Step.{
  Call,
  Pin,
  Unpin,
  Read,
  Write,
  Flush,
  GiveBack,
  Checkpoint,
  Peek,
  Extend,
  Drop,
  LogInserted,
  LogFlushed,
}
use Rattle.bufmodel.specs.Lent.{Lent, Called, answer_words, opened}
use Rattle.shelf.specs.Sums.{fails}
use Rattle.shelf.specs.Shelf.{Shelf, first_of, has_pins, pinned_pages, above, refuses}
use Rattle.shelf.specs.Ledger.{Ledger, first_ledger, is_place, buffer_in, ledger_after, puts}
use Rattle.shelf.specs.Published.{marks_of}
use Rattle.shelf.specs.Statement.{Pool, Made, own, outcome_of, top_word, fresh_marks}
use Rattle.shelf.specs.Tests.{
  Accepted,
  Fresh,
  Begun,
  Untouched,
  Refused,
  Zeros,
  Neither,
  Six,
  Number,
  Answers,
  Shows,
  Blank,
  Kept,
  Rows,
  Inserted,
  Cap,
  Flushed,
  Ordered,
  Others,
  Long,
  Sums,
  Settled,
  Stored,
  Held,
  Holders,
  Same,
  Control,
  Sizes,
  Books,
  Verdict,
  Fine,
  Test,
  test,
  failing,
  if_done,
  if_refused,
  at_place,
  if_place,
  same_list,
  same_lent,
  some,
  start,
  few,
  words_test,
  names_test,
  links_test,
  chains_test,
  counts_test,
}
use Rattle.shelf.specs.JudgePublished.{marks_after, pages_after, blocks_after, said_tests, clock_tests, name_tests, page_tests}

-- ---- SetsUp
unfoldable pub fresh_test : Lent → ℕ → Lent → Bool
fresh_test m p k =
    let n = length m.states in
    let b = length m.heads in
    let now = marks_of (opened k) in
    eqb (length k.states) n && eqb (length k.heads) b && sized_for p (opened k) && words_test n b now (fresh_marks n)
    && names_test n b now (fresh_marks n)
    && links_test n b now (fresh_marks n)
    && chains_test n b now (fresh_marks n)
    && counts_test n b now (fresh_marks n)

unfoldable pub set_up_tests : Lent → ℕ → ℕ → ℕ → Called → List Test
set_up_tests m p at cap r =
    let lends = sized_for p (opened m) && eqb (length m.control) 6 in
    let same = eqb r.result (cond lends 18 1) && same_lent r.lent m in
    test Accepted (beq (eqb r.result 0) (lends && (leb 1 cap && leb cap 15)))
    ∷ test Fresh (if_done r.result (fresh_test m p r.lent))
    ∷ test Begun (if_done r.result (same_list r.lent.control (p ∷ 0 ∷ 0 ∷ at ∷ at ∷ cap ∷ [])))
    ∷ test Untouched
    (if_done r.result
    (same_list (take some r.lent.pool) (take some m.pool) && same_list r.lent.rows m.rows
    && same_list (take some r.lent.store) (take some m.store)))
    ∷ test Refused (if_refused r.result same)
    ∷ test Zeros (same_list r.answer zeros && same_list r.bytes [])
    ∷ []

-- ---- Agrees
unfoldable pub answers_test : List ℕ → Call → Bool
answers_test a (Pin h n) = eqb (length a) answer_words
answers_test a (Unpin h b) = same_list a zeros
answers_test a (Read h b from out) = same_list a zeros
answers_test a (Write h b from bytes at) = same_list a zeros
answers_test a (Flush h b) = same_list a (one (get_or a 0 0))
answers_test a (GiveBack h) = same_list a zeros
answers_test a Checkpoint = same_list a (one (get_or a 0 0))
answers_test a (Peek n) = same_list a (two (get_or a 0 0) (get_or a 1 0))
answers_test a (Extend f) = same_list a (one (get_or a 0 0))
answers_test a (Drop f) = same_list a zeros
answers_test a (LogInserted p) = same_list a zeros
answers_test a (LogFlushed p) = same_list a zeros

module _ (s : Shelf) (o : Outcome) where
  unfoldable pub pin_rule_test : ℕ → Bool
  pin_rule_test g =
      let b = buffer_in o.answer in
      ltb b s.buffers && cond (has_pins s g) (is_place (s.holds b) g) (not (is_found (s.holds b)))

  unfoldable pub shows_test : Call → Bool
  shows_test (Pin h n) = at_place (place_of s.rows n) pin_rule_test && same_list o.bytes []
  shows_test (Unpin h b) = same_list o.bytes []
  shows_test (Read h b from out) =
      at_place (s.holds b) (λ g. same_list (bare_from from o.bytes) (take (length out) (drop from (bare (s.bytes g)))))
  shows_test (Write h b from bytes at) = same_list o.bytes bytes
  shows_test (Flush h b) = same_list o.bytes []
  shows_test (GiveBack h) = same_list o.bytes []
  shows_test Checkpoint = same_list o.bytes []
  shows_test (Peek n) =
      at_place (place_of s.rows n) (λ g. same_list (bare (take some (part o))) (bare (take some (s.bytes g)))) && same_list o.bytes []
  shows_test (Extend f) =
      at_place (row_of s.rows f) (λ r. eqb (get_or o.answer 0 0) (blocks_at s.rows r)) && same_list o.bytes []
  shows_test (Drop f) = same_list o.bytes []
  shows_test (LogInserted p) = same_list o.bytes []
  shows_test (LogFlushed p) = same_list o.bytes []

  -- 6 at the page's place, if it has one
  unfoldable pub six_at : Found → Bool
  six_at (found g) = beq (eqb o.refusal 6) (eqb (pinned_pages s) s.buffers && not (has_pins s g))
  six_at missing = true

  unfoldable pub six_test : Call → Bool
  six_test (Pin h n) = cond (eqb (first_of (above s h n)) 0) (six_at (place_of s.rows n)) true
  six_test (Unpin h b) = true
  six_test (Read h b from out) = true
  six_test (Write h b from bytes at) = true
  six_test (Flush h b) = true
  six_test (GiveBack h) = true
  six_test Checkpoint = true
  six_test (Peek n) = true
  six_test (Extend f) = true
  six_test (Drop f) = true
  six_test (LogInserted p) = true
  six_test (LogFlushed p) = true

  unfoldable pub settled_all : Bool
  settled_all =
      all (files s.rows) (λ r. all (blocks_at s.rows r) (λ b. let g = start_of s.rows r + b in
      same_list (bare (start s.size g o.after.store)) (bare (take some (s.bytes g)))))

  unfoldable pub settled_test : Call → Bool
  settled_test (Pin h n) = true
  settled_test (Unpin h b) = true
  settled_test (Read h b from out) = true
  settled_test (Write h b from bytes at) = true
  settled_test (Flush h b) = true
  settled_test (GiveBack h) = true
  settled_test Checkpoint = settled_all
  settled_test (Peek n) = true
  settled_test (Extend f) = true
  settled_test (Drop f) = true
  settled_test (LogInserted p) = true
  settled_test (LogFlushed p) = true

module _ (m : Memory) (l : Ledger) (c : Call) (o : Outcome) (l' : Ledger) where
  unfoldable pub ordered_test : Bool
  ordered_test =
      all (store_blocks l.shelf.rows)
      (λ g. let low = leb (position (block l.shelf.size g o.after.store)) l'.flushed in cond (l'.put g) low true)

  unfoldable pub others_test : Bool
  others_test =
      all (store_blocks l.shelf.rows)
      (λ g. let same = same_list (start l.shelf.size g o.after.store) (start l.shelf.size g m.store) in
      cond (puts l c o.answer o.refusal g) true same)

  unfoldable pub stored_test : Bool
  stored_test =
      all (store_blocks l.shelf.rows)
      (λ g. let same = same_list (bare (start l.shelf.size g o.after.store)) (bare (take some (l'.shelf.bytes g))) in
      cond (puts l c o.answer o.refusal g) same true)

  unfoldable pub held_test : Bool
  held_test =
      all (buffers o.after)
      (λ i. let same = if_place (place_of o.after.rows (name_of o.after i))
      (λ g. same_list (bare (start (size o.after) i o.after.pool)) (bare (take some (l'.shelf.bytes g)))) in
      cond (eqb (word_of o.after i) 0) true same)

  -- a buffer in use, its page at place g
  unfoldable pub holders_at : ℕ → ℕ → Bool
  holders_at i g = all few (λ h. eqb ((marks_of o.after).count i h) (l'.shelf.counts h g))

  unfoldable pub holders_test : Bool
  holders_test =
      all (buffers o.after)
      (λ i. let same = if_place (place_of o.after.rows (name_of o.after i)) (holders_at i) in
      cond (eqb (word_of o.after i) 0) true same)

  -- of the blocks that it puts there, those of pages held before it
  unfoldable pub sums_test : Bool
  sums_test =
      all (buffers m)
      (λ i. let n = name_of m i in
      if_place (place_of o.after.rows n)
      (λ g. let same = beq (fails n.block.0 (block l.shelf.size g o.after.store)) (l'.shelf.bad g) in
      cond (puts l c o.answer o.refusal g) same true))

  -- what `Neither` and `Six` say follows from `Number`: they stand before it
  unfoldable pub agrees_tests : List Test
  agrees_tests =
      test Neither (not (eqb o.refusal 1) && not (eqb o.refusal 2))
      ∷ test Six (six_test l.shelf o c)
      ∷ test Number (eqb o.refusal (refuses l.shelf c))
      ∷ test Answers (if_done o.refusal (answers_test o.answer c))
      ∷ test Shows (if_done o.refusal (shows_test l.shelf o c))
      ∷ test Blank (if_refused o.refusal (same_list o.answer zeros))
      ∷ test Kept (if_refused o.refusal (same_list o.bytes (own c)))
      ∷ test Rows (same_list o.after.rows l'.shelf.rows)
      ∷ test Inserted (eqb o.after.control.inserted l'.shelf.inserted)
      ∷ test Cap (eqb o.after.control.cap l'.cap)
      ∷ test Flushed (eqb o.after.control.flushed l'.flushed)
      ∷ test Ordered ordered_test
      ∷ test Others others_test
      ∷ test Long (eqb (length o.after.store) (length m.store))
      ∷ test Settled (if_done o.refusal (settled_test l.shelf o c))
      ∷ test Stored stored_test
      ∷ test Held held_test
      ∷ test Holders holders_test
      ∷ test Sums sums_test
      ∷ []

-- ---- Left
unfoldable pub left_tests : Lent → Called → Ledger → List Test
left_tests m r l' =
    let k = opened r.lent in
    let same = same_lent r.lent m in
    test Same (if_refused r.result same)
    ∷ test Control
    (same_list r.lent.control
    (l'.shelf.size ∷ k.control.hand ∷ top_word k.control.top ∷ l'.shelf.inserted ∷ l'.flushed ∷ l'.cap ∷ []))
    ∷ test Sizes (sized_for l'.shelf.size k)
    ∷ test Books (sound k)
    ∷ []

-- tests of accepted calls alone
abbrev pub when_done : ℕ → List Test → List Test
when_done zero ts = ts
when_done (suc k) ts = []

-- ---- the verdict
-- on a list of calls. Names and chains say more than `Books`: it stands before them
unfoldable pub judge_calls : Pool → Lent → Ledger → List Made → Verdict
judge_calls pool m l [] = Fine
judge_calls pool m l (c ∷ cs) =
    let r = pool.calls c.call m (own c.call) c.answer in
    let o = outcome_of r in
    let l' = ledger_after l c.call o.answer o.refusal in
    let cap = l.cap in
    let n = l.shelf.buffers in
    let k = marks_after cap n (opened m) c.call in
    let on = judge_calls pool r.lent l' cs in
    failing (agrees_tests (opened m) l c.call o l')
    (failing (when_done o.refusal (said_tests cap n (opened m) o.answer o.bytes c.call))
    (failing (when_done o.refusal (clock_tests (opened m) o k))
    (failing (left_tests m r l')
    (failing (when_done o.refusal (name_tests (opened m) o k))
    (failing
    (when_done o.refusal (page_tests (opened m) o (pages_after cap n (opened m) c.call) (blocks_after cap n (opened m) c.call)))
    on)))))

-- on a set up and, where it is accepted, a list of calls
abbrev pub if_accepted : ℕ → Verdict → Verdict
if_accepted zero v = v
if_accepted (suc k) v = Fine

unfoldable pub judge : Pool → Lent → ℕ → ℕ → ℕ → List ℕ → List Made → Verdict
judge pool m p at cap answer calls =
    let r = pool.sets_up p at cap m answer in
    let on = if_accepted r.result (judge_calls pool r.lent (first_ledger (opened m) p at cap) calls) in
    failing (set_up_tests m p at cap r) on
