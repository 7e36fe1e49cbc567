-- Wrong pools: each does one thing wrong. The lent memory as a list of calls shows it, and set ups.
use Rattle.std.specs.Prelude.{ℕ, suc, ◌*◌, ◌%◌, ◌^◌, cond, List, [], ◌∷◌, ◌++◌, length, get_or, take, set, replicate, pos, eqb}
use Rattle.buftag.specs.Link.{none}
use Rattle.bufmodel.specs.Rows.{set_blocks}
use Rattle.bufmodel.specs.Memory.{
  Memory,
  with_control,
  with_states,
  with_names,
  with_pool,
  with_free,
  with_heads,
  with_rows,
  with_store,
  with_hand,
  with_top,
  with_inserted,
  with_flushed,
}
use Rattle.bufmodel.specs.Step.{Checkpoint, LogInserted, LogFlushed}
use Rattle.bufmodel.specs.Lent.{Lent, opened, closed}
use Rattle.shelf.specs.Tests.{
  Accepted,
  Fresh,
  Begun,
  Untouched,
  Refused,
  Zeros,
  Answers,
  Blank,
  Inserted,
  Others,
  Long,
  Same,
  Control,
  Sizes,
  Words,
  Hand,
  FreeList,
  Chains,
  Pages,
}
use Rattle.shelf.specs.Trial.{size, log, bench, sales, pin, unpin, slice, Wrong, wrong, wrong_set_up}
use Rattle.shelf.specs.Changes.{
  if_accepted,
  calls,
  leaving,
  lending,
  with_control_words,
  lends,
  leaves,
  refuses,
  slices,
  ended,
  sets_up,
  sets_up_to,
}

-- another block size in the control record
abbrev with_size : ℕ → Memory → Memory
with_size p m = let c = m.control in
    with_control
    (record { size = p; hand = c.hand; top = c.top; inserted = c.inserted; flushed = c.flushed; cap = c.cap }) m

-- both rows of the bench are of the file of sales
abbrev two_rows : Lent
two_rows = let m = opened (bench 1) in closed (with_rows (take 6 m.rows ++ take 6 m.rows) m)

-- ---- the lent memory
unfoldable pub wrong_lent : List Wrong
wrong_lent =
    -- the store grows
    wrong (calls (if_accepted (λ m c o. leaving (λ k. with_store (k.store ++ (0 ∷ [])) k) o))) 1 (Checkpoint ∷ []) Long
    -- another block size goes into the control record
    ∷ wrong (calls (if_accepted (λ m c o. leaving (with_size 2048) o))) 1 (Checkpoint ∷ []) Control
    -- inserted and flushed are exchanged in the control record
    ∷ wrong (lends (λ m. let k = opened m in closed (with_inserted k.control.flushed (with_flushed k.control.inserted k)))) 1
    (LogInserted 200 ∷ []) Inserted
    -- a refused call writes into the pool
    ∷ wrong (refuses (λ m. with_pool (set m.pool 0 1) m)) 1 (unpin 0 ∷ []) Same
    -- a refused call moves the hand
    ∷ wrong (refuses (with_hand 1)) 2 (unpin 0 ∷ []) Same
    -- a refused call writes into the store
    ∷ wrong (refuses (λ m. with_store (set m.store 8 1) m)) 1 (unpin 0 ∷ []) Others
    -- a refused log inserted sets inserted
    ∷ wrong (refuses (with_inserted 50)) 1 (LogInserted 50 ∷ []) Inserted
    -- the pool's bytes grow
    ∷ wrong (calls (λ m c o. leaving (λ k. with_pool (k.pool ++ (0 ∷ [])) k) o)) 1 (Checkpoint ∷ []) Sizes
    -- the names grow
    ∷ wrong (calls (λ m c o. leaving (λ k. with_names (k.names ++ (0 ∷ [])) k) o)) 1 (Checkpoint ∷ []) Sizes
    -- the free links grow
    ∷ wrong (calls (λ m c o. leaving (λ k. with_free (k.free ++ (none ∷ [])) k) o)) 1 (Checkpoint ∷ []) Sizes
    -- there is a bucket more
    ∷ wrong (calls (λ m c o. leaving (λ k. with_heads (k.heads ++ (none ∷ [])) k) o)) 1 (Checkpoint ∷ []) Chains
    -- there is a buffer more
    ∷ wrong (calls (λ m c o. leaving (λ k. with_states (k.states ++ (0 ∷ [])) k) o)) 1 (Checkpoint ∷ []) Words
    -- an empty buffer's page is written over
    ∷ wrong (calls (λ m c o. leaving (λ k. with_pool (set k.pool 0 1) k) o)) 1 (Checkpoint ∷ []) Pages
    -- the control record gets a seventh word
    ∷ wrong (leaves (λ m. with_control_words (m.control ++ (0 ∷ [])) m)) 1 (Checkpoint ∷ []) Control
    -- hand and top are exchanged in the control record
    ∷ wrong (lends (λ m. let w = m.control in with_control_words (set (set w 1 (get_or w 2 0)) 2 (get_or w 1 0)) m)) 2 (pin sales 0 ∷ []) Hand
    -- the empty free list's top is 32 one bits
    ∷ wrong (leaves (λ m. with_control_words (set m.control 2 (get_or m.control 2 0 % 2 ^ 32)) m)) 1 (pin sales 0 ∷ []) FreeList
    -- a refused call leaves the answer slice as it was
    ∷ wrong (slices (λ a r. cond (eqb r.result 0) r.answer a)) 1 (unpin 0 ∷ []) Blank
    -- a call that answers only done leaves the answer slice as it was
    ∷ wrong (slices (λ a r. cond (eqb r.result 0) a r.answer)) 1 (LogFlushed 100 ∷ []) Answers
    ∷ []

-- ---- set up
unfoldable pub wrong_set_ups : List Wrong
wrong_set_ups =
    -- every set up is refused
    wrong_set_up (sets_up (λ p at cap m r. ended 1 m r)) (bench 1) size log Accepted
    -- log position 0 is refused
    ∷ wrong_set_up (sets_up (λ p at cap m r. cond (eqb at 0) (ended 1 m r) r)) (bench 1) size 0 Accepted
    -- no buffers are accepted
    ∷ wrong_set_up (sets_up (λ p at cap m r. cond (eqb (length m.states) 0) (ended 0 m r) r)) (bench 0) size log Accepted
    -- so are blocks of 1,000 bytes
    ∷ wrong_set_up (sets_up (λ p at cap m r. cond (eqb p 1000) (ended 0 m r) r)) (bench 1) 1000 log Accepted
    -- so is a control record of five words
    ∷ wrong_set_up (sets_up (λ p at cap m r. ended 0 m r)) (with_control_words (replicate 5 0) (bench 1)) size log Accepted
    -- so are two rows of one file
    ∷ wrong_set_up (sets_up (λ p at cap m r. ended 0 m r)) two_rows size log Accepted
    -- the free list is falling
    ∷ wrong_set_up (sets_up_to (λ m k. with_top (pos 1) (with_free (none ∷ pos 0 ∷ []) k))) (bench 2) size log Fresh
    -- state words are left
    ∷ wrong_set_up (sets_up_to (λ m k. with_states m.states k)) (bench 1) size log Fresh
    -- names are left
    ∷ wrong_set_up (sets_up_to (λ m k. with_names m.names k)) (bench 1) size log Fresh
    -- chains are left
    ∷ wrong_set_up (sets_up_to (λ m k. with_heads m.heads k)) (bench 1) size log Fresh
    -- the pool's bytes grow
    ∷ wrong_set_up (sets_up_to (λ m k. with_pool (k.pool ++ (0 ∷ [])) k)) (bench 1) size log Fresh
    -- hand 1
    ∷ wrong_set_up (sets_up_to (λ m k. with_hand 1 k)) (bench 2) size log Begun
    -- flushed 0
    ∷ wrong_set_up (sets_up_to (λ m k. with_flushed 0 k)) (bench 1) size log Begun
    -- inserted one too many
    ∷ wrong_set_up (sets_up_to (λ m k. with_inserted (suc k.control.inserted) k)) (bench 1) size log Begun
    -- the store is touched
    ∷ wrong_set_up (sets_up_to (λ m k. with_store (set k.store 8 1) k)) (bench 1) size log Untouched
    -- the pool is touched
    ∷ wrong_set_up (sets_up_to (λ m k. with_pool (set k.pool 0 1) k)) (bench 1) size log Untouched
    -- the files are emptied
    ∷ wrong_set_up (sets_up_to (λ m k. with_rows (set_blocks k.rows 0 0) k)) (bench 1) size log Untouched
    -- refused with 2
    ∷ wrong_set_up (sets_up (λ p at cap m r. ended (2 * r.result) r.lent r)) (bench 0) size log Refused
    -- a refused set up writes the control record
    ∷ wrong_set_up (sets_up (λ p at cap m r. lending (with_control_words (p ∷ 0 ∷ 0 ∷ at ∷ at ∷ cap ∷ []) m) r)) (bench 0) size log Refused
    -- the answer slice is left as it was
    ∷ wrong_set_up (sets_up (λ p at cap m r. record { result = r.result; answer = slice; bytes = r.bytes; lent = r.lent })) (bench 1) size
    log Zeros
    ∷ []
