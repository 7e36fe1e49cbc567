-- Wrong pools: each does one thing wrong, which a short list of calls shows. Refusals, the store and the log, answers, pages.
use Rattle.std.specs.Prelude.{suc, ◌+◌, ◌-◌, cond, List, [], ◌∷◌, ◌++◌, map, length, get_or, take, drop, set, pos, eqb, ltb}
use Rattle.laws.specs.Sum.{count}
use Rattle.laws.specs.Block.{put_block}
use Rattle.buftag.specs.Name.{file_of}
use Rattle.buftag.specs.Link.{none}
use Rattle.bufmodel.specs.Word.{dirty, pinned}
use Rattle.bufmodel.specs.Position.{position_bytes}
use Rattle.bufmodel.specs.Rows.{blocks_at, capacity_at}
use Rattle.bufmodel.specs.Memory.{
  buffers,
  word_of,
  page_of,
  with_states,
  with_names,
  with_pool,
  with_free,
  with_heads,
  with_rows,
  with_store,
  with_hand,
  with_top,
  with_inserted,
  with_flushed,
}
use Rattle.bufmodel.specs.Moves.{write_back, write_up_to, release}
use Rattle.bufmodel.specs.Outcome.{zeros, two, done, refused}
use Rattle.bufmodel.specs.Step.{Pin, Read, Write, Checkpoint, Extend, Drop, LogInserted, LogFlushed, step}
use Rattle.shelf.specs.Tests.{
  Neither,
  Six,
  Number,
  Shows,
  Blank,
  Kept,
  Rows,
  Inserted,
  Flushed,
  Ordered,
  Others,
  Settled,
  Stored,
  Held,
  Holders,
  Books,
  Probes,
  Counts,
  Part,
  Words,
  Hand,
  FreeList,
  Pages,
}
use Rattle.shelf.specs.Trial.{
  size,
  log,
  unsummed,
  sales,
  stock,
  pin,
  unpin,
  flush,
  peek,
  write,
  read,
  read_position,
  unpinned,
  exchange,
  Wrong,
  wrong_on,
  wrong,
}
use Rattle.shelf.specs.Changes.{
  if_refused,
  if_accepted,
  calls,
  pins,
  unpins,
  reads,
  writes,
  flushes,
  checkpoints,
  peeks,
  extends,
  drops,
  log_inserts,
  log_flushes,
  answering,
  saying,
  filling,
  leaving,
  unwritten,
  said,
}

-- ---- refusals
unfoldable pub wrong_refusals : List Wrong
wrong_refusals =
    -- 6 while one buffer is unpinned
    wrong (pins (λ m c o. cond (eqb (suc (count (buffers m) (λ i. pinned (word_of m i)))) (buffers m)) (refused 6 [] m) o)) 2
    (pin sales 0 ∷ pin sales 1 ∷ []) Six
    -- 6 always
    ∷ wrong (pins (λ m c o. refused 6 [] m)) 1 (pin sales 0 ∷ []) Six
    -- 5 at the second pin
    ∷ wrong (pins (λ m c o. cond (eqb (said o 1) 1) (refused 5 [] m) o)) 1 (pin sales 0 ∷ pin sales 0 ∷ []) Number
    -- every call is refused
    ∷ wrong (calls (λ m c o. refused 2 o.bytes m)) 1 (Checkpoint ∷ []) Neither
    -- 13 one block early
    ∷ wrong (extends (λ m c o. cond (eqb (suc (blocks_at m.rows 1)) (capacity_at m.rows 1)) (refused 13 [] m) o)) 1
    (Drop stock ∷ Extend stock ∷ []) Number
    -- 13 for a file that has no row
    ∷ wrong (extends (if_refused (λ m c o. refused 13 [] m))) 1 (Extend (file_of 1 2 3 0) ∷ []) Number
    -- 8 before 7
    ∷ wrong (unpins (if_refused (λ m c o. refused 8 [] m))) 1 (unpin 1 ∷ []) Number
    -- 10 before 9
    ∷ wrong (writes (λ m c o. cond (eqb (length o.bytes) 0) (refused 10 [] m) o)) 1 (pin sales 0 ∷ Write 0 0 7 [] 100 ∷ []) Number
    -- log flushed above inserted is accepted
    ∷ wrong (log_flushes (if_refused (λ m c o. done zeros [] (with_flushed c.number m)))) 1 (LogFlushed 101 ∷ []) Number
    -- a refused call answers
    ∷ wrong (calls (if_refused (λ m c o. saying 0 1 o))) 1 (unpin 0 ∷ []) Blank
    -- a refused read changes out
    ∷ wrong (reads (if_refused (λ m c o. filling (map suc o.bytes) o))) 1 (read 0 ∷ []) Kept
    -- 6 for a page that has pins, once every buffer is pinned
    ∷ wrong (pins (λ m c o. cond (pinned (word_of m 0)) (refused 6 [] m) o)) 1 (pin sales 0 ∷ pin sales 0 ∷ []) Six
    -- 3 for a block that its file does not have
    ∷ wrong (pins (if_refused (λ m c o. refused 3 [] m))) 1 (pin sales 1 ∷ []) Number
    -- a read beyond the page's end is accepted
    ∷ wrong (reads (if_refused (λ m c o. done zeros o.bytes m))) 1 (pin sales 0 ∷ Read 0 0 1023 (0 ∷ 0 ∷ []) ∷ []) Number
    -- a write above inserted is accepted
    ∷ wrong (writes (if_refused (λ m c o. done zeros o.bytes m))) 1 (pin sales 0 ∷ write 0 77 101 ∷ []) Number
    -- and one below the page's own position
    ∷ wrong (writes (if_refused (λ m c o. done zeros o.bytes m))) 1 (pin sales 0 ∷ write 0 77 100 ∷ write 0 78 99 ∷ []) Number
    -- log inserted goes back
    ∷ wrong (log_inserts (if_refused (λ m c o. done zeros [] (with_inserted c.number m)))) 1 (LogInserted 99 ∷ []) Number
    -- a file with a pinned page is dropped
    ∷ wrong (drops (if_refused (λ m c o. done zeros [] m))) 1 (pin stock 0 ∷ Drop stock ∷ []) Number
    ∷ []

-- ---- flush
unfoldable pub wrong_flushes : List Wrong
wrong_flushes =
    -- a flush writes nothing
    wrong (flushes (λ m c o. unwritten m o)) 1 (pin sales 0 ∷ write 0 77 100 ∷ flush 0 ∷ []) Stored
    -- a flush leaves its page dirty
    ∷ wrong (flushes (λ m c o. leaving (with_states m.states) o)) 1 (pin sales 0 ∷ write 0 77 100 ∷ flush 0 ∷ []) Words
    -- a flush counts 0
    ∷ wrong (flushes (λ m c o. saying 0 0 o)) 1 (pin sales 0 ∷ write 0 77 100 ∷ flush 0 ∷ []) Counts
    -- a flush leaves flushed as it was
    ∷ wrong (flushes (λ m c o. leaving (with_flushed m.control.flushed) o)) 1
    (LogInserted 200 ∷ pin sales 0 ∷ write 0 77 200 ∷ flush 0 ∷ []) Flushed
    -- a flush puts a forged position into the store
    ∷ wrong (flushes (λ m c o. leaving (λ k. with_store (position_bytes 101 ++ drop 8 k.store) k) o)) 1
    (pin sales 0 ∷ write 0 77 100 ∷ flush 0 ∷ []) Ordered
    -- a flush puts the page at the next block
    ∷ wrong (flushes (λ m c o. leaving (with_store (put_block size 1 (page_of m 0) m.store)) o)) 1
    (pin sales 0 ∷ write 0 77 100 ∷ flush 0 ∷ []) Others
    -- a flush writes every dirty page
    ∷ wrong (flushes (λ m c o. leaving (λ k. write_up_to (buffers m) m) o)) 2
    (pin sales 0 ∷ pin sales 1 ∷ write 0 77 100 ∷ write 1 78 100 ∷ flush 0 ∷ []) Others
    -- a flush puts the page without the bytes behind its position
    ∷ wrong (flushes (λ m c o. leaving (λ k. with_store (take 8 k.store ++ drop 8 m.store) k) o)) 1
    (pin sales 0 ∷ write 0 77 100 ∷ flush 0 ∷ []) Stored
    -- a flush clears the dirty bit alone
    ∷ wrong (flushes (λ m c o. leaving (λ k. with_states (map (λ w. w + 0x10000000) k.states) k) o)) 1
    (pin sales 0 ∷ write 0 77 100 ∷ flush 0 ∷ []) Words
    ∷ []

-- ---- checkpoint, what else is written back, and the log
unfoldable pub wrong_backs : List Wrong
wrong_backs =
    -- a checkpoint writes nothing
    wrong (checkpoints (λ m c o. unwritten m o)) 1 (pin sales 0 ∷ write 0 77 100 ∷ Checkpoint ∷ []) Settled
    -- a checkpoint writes only the first time: as long as flushed is the set-up's
    ∷ wrong (checkpoints (λ m c o. cond (ltb log m.control.flushed) (unwritten m o) o)) 1
    (LogInserted 200 ∷ pin sales 0 ∷ write 0 77 200 ∷ Checkpoint ∷ write 0 78 200 ∷ Checkpoint ∷ []) Settled
    -- a checkpoint counts one too few
    ∷ wrong (checkpoints (λ m c o. saying 0 (said o 0 - 1) o)) 1 (pin sales 0 ∷ write 0 77 100 ∷ Checkpoint ∷ []) Counts
    -- a checkpoint empties an unpinned buffer
    ∷ wrong (checkpoints (λ m c o. leaving (λ k. release k 0) o)) 1 (pin sales 0 ∷ unpin 0 ∷ Checkpoint ∷ []) Words
    -- log flushed lowers flushed
    ∷ wrong (log_flushes (λ m c o. leaving (with_flushed c.number) o)) 1 (LogFlushed 50 ∷ []) Flushed
    -- log inserted raises flushed
    ∷ wrong (log_inserts (λ m c o. leaving (with_flushed c.number) o)) 1 (LogInserted 200 ∷ []) Flushed
    -- log inserted does nothing
    ∷ wrong (log_inserts (λ m c o. leaving (λ k. m) o)) 1 (LogInserted 200 ∷ []) Inserted
    -- log flushed puts the hand back
    ∷ wrong (log_flushes (λ m c o. leaving (with_hand 0) o)) 2 (unpinned ++ (pin stock 0 ∷ LogFlushed 100 ∷ [])) Hand
    -- log flushed sets inserted
    ∷ wrong (log_flushes (λ m c o. leaving (with_inserted c.number) o)) 1 (LogFlushed 50 ∷ []) Inserted
    -- log flushed does nothing at the fifth call
    ∷ wrong (log_flushes (λ m c o. cond (ltb 103 m.control.flushed) (leaving (λ k. m) o) o)) 1
    (LogInserted 200 ∷ LogFlushed 102 ∷ LogFlushed 103 ∷ LogFlushed 104 ∷ LogFlushed 105 ∷ []) Flushed
    -- a checkpoint leaves pinned pages
    ∷ wrong (checkpoints (λ m c o. cond (pinned (word_of m 0)) (done zeros [] m) o)) 1
    (pin sales 0 ∷ write 0 77 100 ∷ Checkpoint ∷ []) Settled
    -- a checkpoint leaves flushed as it was
    ∷ wrong (checkpoints (λ m c o. leaving (with_flushed m.control.flushed) o)) 1
    (LogInserted 200 ∷ pin sales 0 ∷ write 0 77 200 ∷ Checkpoint ∷ []) Flushed
    -- a victim's write-back leaves flushed as it was
    ∷ wrong (pins (λ m c o. leaving (with_flushed m.control.flushed) o)) 1
    (LogInserted 200 ∷ pin sales 0 ∷ write 0 77 200 ∷ unpin 0 ∷ pin stock 0 ∷ []) Flushed
    -- a write goes to the store at once
    ∷ wrong (writes (λ m c o. leaving (λ k. write_back k 0) o)) 1 (pin sales 0 ∷ write 0 77 100 ∷ []) Others
    -- so does a dirty page at its last unpin
    ∷ wrong (unpins (λ m c o. leaving (λ k. write_back k 0) o)) 1 (pin sales 0 ∷ write 0 77 100 ∷ unpin 0 ∷ []) Others
    -- log inserted puts the hand back
    ∷ wrong (log_inserts (λ m c o. leaving (with_hand 0) o)) 2 (unpinned ++ (pin stock 0 ∷ LogInserted 100 ∷ [])) Hand
    ∷ []

-- ---- what a pin answers
unfoldable pub wrong_answers : List Wrong
wrong_answers =
    -- buffer 0 always
    wrong (pins (λ m c o. saying 0 0 o)) 2 (pin sales 0 ∷ pin sales 1 ∷ []) Shows
    -- another number for a pinned page
    ∷ wrong (pins (λ m c o. saying 0 (said o 0 + said o 1) o)) 2 (pin sales 0 ∷ pin sales 0 ∷ []) Shows
    -- the number N
    ∷ wrong (pins (λ m c o. saying 0 (buffers m) o)) 1 (pin sales 0 ∷ []) Shows
    -- an invented probe
    ∷ wrong (pins (λ m c o. saying 3 (suc (said o 3)) o)) 1 (pin sales 0 ∷ []) Probes
    -- a hit that says loaded
    ∷ wrong (pins (λ m c o. saying 1 0 o)) 1 (pin sales 0 ∷ pin sales 0 ∷ []) Probes
    -- a load that says hit
    ∷ wrong (pins (λ m c o. saying 1 1 o)) 1 (pin sales 0 ∷ []) Probes
    -- wrote, where nothing was written
    ∷ wrong (pins (λ m c o. saying 2 1 o)) 1 (pin sales 0 ∷ []) Probes
    -- a victim written back, and not said
    ∷ wrong (pins (λ m c o. saying 2 0 o)) 1 exchange Others
    -- a pin touches the caller's bytes
    ∷ wrong (pins (λ m c o. filling (1 ∷ []) o)) 1 (pin sales 0 ∷ []) Shows
    ∷ []

-- ---- read, write, peek
unfoldable pub wrong_pages : List Wrong
wrong_pages =
    -- a read fills other bytes
    wrong (reads (if_accepted (λ m c o. filling (map suc o.bytes) o))) 1 (pin sales 0 ∷ read 0 ∷ []) Shows
    -- a write copies nothing
    ∷ wrong (writes (λ m c o. leaving (λ k. with_pool (set k.pool 10 (get_or m.pool 10 0)) k) o)) 1
    (pin sales 0 ∷ write 0 77 100 ∷ []) Held
    -- a write sets no position
    ∷ wrong (writes (λ m c o. leaving (λ k. with_pool (take 8 m.pool ++ drop 8 k.pool) k) o)) 1
    (pin sales 0 ∷ write 0 77 100 ∷ []) Held
    -- a write sets the position's low word first
    ∷ wrong (writes (λ m c o. leaving (λ k. with_pool (take 4 (drop 4 k.pool) ++ (take 4 k.pool ++ drop 8 k.pool)) k) o)) 1
    (LogInserted 0x200000000 ∷ pin sales 0 ∷ write 0 77 1 ∷ []) Held
    -- a write leaves its page clean
    ∷ wrong (writes (λ m c o. leaving (with_states m.states) o)) 1 (pin sales 0 ∷ write 0 77 100 ∷ []) Words
    -- a peek hands back the store's block of a dirty page
    ∷ wrong (peeks (λ m c o. answering (two 0 0) o)) 1 (pin sales 0 ∷ write 0 77 100 ∷ peek sales 0 ∷ []) Shows
    -- a peek hands back the store's block of a clean page
    ∷ wrong (peeks (λ m c o. cond (dirty (word_of m 0)) o (answering (two 0 0) o))) 1 (pin sales 0 ∷ peek sales 0 ∷ []) Part
    -- a peek loads the page
    ∷ wrong (peeks (λ m c o. leaving (λ k. (step k (Pin 0 c.page)).after) o)) 1 (peek sales 0 ∷ []) Holders
    -- a peek counts as a use
    ∷ wrong (peeks (λ m c o. leaving (λ k. with_states (map (λ w. w + 0x40000) k.states) k) o)) 1
    (pin sales 0 ∷ peek sales 0 ∷ []) Words
    -- a read gives a position's low word first
    ∷ wrong (reads (λ m c o. filling (drop 4 o.bytes ++ take 4 o.bytes) o)) 1
    (pin sales 0 ∷ write 0 77 100 ∷ read_position 0 ∷ []) Shows
    -- a read counts as a use
    ∷ wrong (reads (λ m c o. leaving (λ k. with_states (map (λ w. w + 0x40000) k.states) k) o)) 1 (pin sales 0 ∷ read 0 ∷ []) Words
    -- a write copies one byte too many
    ∷ wrong (writes (λ m c o. leaving (λ k. with_pool (set k.pool 11 1) k) o)) 1 (pin sales 0 ∷ write 0 77 100 ∷ []) Held
    -- a write touches the caller's bytes
    ∷ wrong (writes (if_accepted (λ m c o. filling (map suc o.bytes) o))) 1 (pin sales 0 ∷ write 0 77 100 ∷ []) Shows
    -- a peek of the store gives another block, of equal bytes
    ∷ wrong (peeks (λ m c o. answering (two 0 size) o)) 2 (Drop sales ∷ Extend sales ∷ Extend sales ∷ peek sales 0 ∷ []) Part
    ∷ []

-- ---- extend and drop
unfoldable pub wrong_files : List Wrong
wrong_files =
    -- an extend changes another block
    wrong (extends (λ m c o. leaving (λ k. with_store (set k.store 8 1) k) o)) 1 (Drop stock ∷ Extend stock ∷ []) Others
    -- an extend leaves the old bytes
    ∷ wrong_on (unsummed 1) (extends (λ m c o. unwritten m o)) (Drop stock ∷ Extend stock ∷ []) Stored
    -- an extend answers another number
    ∷ wrong (extends (λ m c o. saying 0 1 o)) 1 (Drop stock ∷ Extend stock ∷ []) Shows
    -- a drop writes dirty pages
    ∷ wrong (drops (λ m c o. leaving (with_store (write_up_to (buffers m) m).store) o)) 1
    (pin sales 0 ∷ write 0 77 100 ∷ unpin 0 ∷ Drop sales ∷ []) Others
    -- a drop changes the store
    ∷ wrong (drops (λ m c o. leaving (λ k. with_store (map (λ b. 1) k.store) k) o)) 1 (Drop stock ∷ []) Others
    -- a drop leaves the blocks
    ∷ wrong (drops (λ m c o. leaving (with_rows m.rows) o)) 1 (Drop stock ∷ []) Rows
    -- a drop puts its buffers on the free list falling
    ∷ wrong (drops (λ m c o. leaving (λ k. with_top (pos 0) (with_free (pos 1 ∷ none ∷ []) k)) o)) 2
    (unpinned ++ (Drop sales ∷ [])) FreeList
    -- a drop keeps its buffers' words
    ∷ wrong (drops (λ m c o. leaving (with_states m.states) o)) 1 (pin sales 0 ∷ unpin 0 ∷ Drop sales ∷ []) Words
    -- a drop puts the hand back
    ∷ wrong (drops (λ m c o. leaving (with_hand 0) o)) 2 (unpinned ++ (pin stock 0 ∷ Drop sales ∷ [])) Hand
    -- a drop empties the other file's buffers
    ∷ wrong (drops (λ m c o. leaving (λ k. release k 0) o)) 1 (pin sales 0 ∷ unpin 0 ∷ Drop stock ∷ []) Words
    -- a drop leaves names in empty buffers
    ∷ wrong (drops (λ m c o. leaving (with_names m.names) o)) 1 (pin sales 0 ∷ unpin 0 ∷ Drop sales ∷ []) Books
    -- a drop leaves its buffers in their chains
    ∷ wrong (drops (λ m c o. leaving (with_heads m.heads) o)) 1 (pin sales 0 ∷ unpin 0 ∷ Drop sales ∷ []) Books
    -- a drop clears its buffers' pages
    ∷ wrong (drops (λ m c o. leaving (λ k. with_pool (map (λ b. 0) k.pool) k) o)) 1
    (pin sales 0 ∷ write 0 77 100 ∷ unpin 0 ∷ Drop sales ∷ []) Pages
    -- an extend adds two blocks
    ∷ wrong (extends (λ m c o. leaving (λ k. (step k (Extend sales)).after) o)) 2 (Drop sales ∷ Extend sales ∷ []) Rows
    -- an extend loads the new page
    ∷ wrong (extends (λ m c o. leaving (λ k. (step k (pin stock 0)).after) o)) 1 (Drop stock ∷ Extend stock ∷ []) Holders
    ∷ []
