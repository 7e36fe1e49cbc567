-- Wrong pools: each does one thing wrong, which a short list of calls shows. Where pages go, the sweep, words, names and chains.
use Rattle.std.specs.Prelude.{ℕ, zero, suc, ◌+◌, ◌%◌, ◌^◌, Bool, true, false, cond, List, [], ◌∷◌, ◌++◌, map, length, get_or, take, drop, set, pos, eqb, ltb}
use Rattle.laws.specs.Sum.{sum}
use Rattle.laws.specs.First.{found, missing}
use Rattle.laws.specs.Block.{put_block}
use Rattle.buftag.specs.Names.{name_words, words_of}
use Rattle.buftag.specs.Link.{none}
use Rattle.bufmodel.specs.Word.{usage, pinned, pin_more, use_less, make_clean}
use Rattle.bufmodel.specs.Memory.{
  Memory,
  word_of,
  page_of,
  with_states,
  with_names,
  with_pool,
  with_free,
  with_heads,
  with_chain,
  with_store,
  with_hand,
  with_top,
}
use Rattle.bufmodel.specs.Sweep.{Swept, swept, next, sweep, sweep_all}
use Rattle.bufmodel.specs.Moves.{release}
use Rattle.bufmodel.specs.Step.{Pin, LogFlushed, step}
use Rattle.shelf.specs.Tests.{Six, Answers, Stored, Held, Holders, Books, Probes, Words, Hand, Names, Chains}
use Rattle.shelf.specs.Trial.{
  size,
  unsummed,
  sales,
  stock,
  block_of,
  pin,
  unpin,
  write,
  hits,
  unpinned,
  exchange,
  Wrong,
  wrong_on,
  wrong,
}
use Rattle.shelf.specs.Changes.{if_accepted, pins, unpins, log_flushes, saying, leaving, unwritten, said, pins_again, sweeps}

-- both of two buffers are free; the free list 1, 0 of two buffers
abbrev both_free : Memory → Bool
both_free m = eqb (sum 2 (word_of m)) 0

abbrev other_end : Memory → Memory
other_end m = with_top (pos 1) (with_free (none ∷ pos 0 ∷ []) m)

-- document 004's sweep: each try lowers an unpinned buffer's usage first and tests it after
unfoldable pub lowers_first : ℕ → ℕ → List ℕ → ℕ → Swept
lowers_first zero probes words hand = swept missing words hand probes
lowers_first (suc tries) probes words hand =
    let w = get_or words hand 0 in
    let less = set words hand (use_less w) in
    let on = next (length words) hand in
    elim (pinned w) [
      | true ↦ lowers_first tries (suc probes) words on
      | false ↦
          elim (ltb 1 (usage w)) [
            | true ↦ lowers_first tries (suc probes) less on
            | false ↦ swept (found hand) less on (suc probes)
          ]
    ]

-- a sweep after which pinned buffers have one usage less
abbrev lowers_pinned : Swept → Swept
lowers_pinned s = swept s.victim (map (λ w. cond (pinned w) (use_less w) w) s.words) s.hand s.probes

-- a chain of two buffers, 0 before 1, in bucket 0
abbrev rising : Memory → Memory
rising m = with_heads (set m.heads 0 (pos 0)) (with_chain (pos 1 ∷ none ∷ []) m)

-- two buffers exchanged, each in a chain of its own
abbrev exchanged : Memory → Memory
exchanged m =
    with_states (drop 1 m.states ++ take 1 m.states)
    (with_names (drop name_words m.names ++ take name_words m.names)
    (with_pool (drop size m.pool ++ take size m.pool) (with_heads (drop 1 m.heads ++ take 1 m.heads) m)))

-- ---- where a page goes
unfoldable pub wrong_buffers : List Wrong
wrong_buffers =
    -- the last place of the free list is taken
    wrong (pins (λ m c o. cond (both_free m) (step (other_end m) (Pin c.holder c.page)) o)) 2 (pin sales 0 ∷ []) Probes
    -- a dirty victim is not written back
    ∷ wrong (pins (λ m c o. unwritten m o)) 1 exchange Stored
    -- a dirty victim's buffer is loaded before it is written back
    ∷ wrong (pins (λ m c o. cond (eqb (said o 2) 1) (leaving (λ k. with_store (put_block size 0 (page_of k 0) k.store) k) o) o)) 1
    exchange Stored
    -- a load takes the next block
    ∷ wrong_on (unsummed 1) (pins (λ m c o. leaving (λ k. with_pool (drop size k.store) k) o)) (pin sales 0 ∷ []) Held
    -- a load leaves the buffer's bytes
    ∷ wrong (pins (λ m c o. leaving (with_pool m.pool) o)) 1 (pin sales 0 ∷ []) Held
    -- a hit loads the page again
    ∷ wrong (pins (λ m c o. leaving (λ k. with_pool (take size k.store) k) o)) 1 (pin sales 0 ∷ write 0 77 100 ∷ pin sales 0 ∷ []) Held
    -- a load moves the hand
    ∷ wrong (pins (λ m c o. leaving (with_hand 1) o)) 2 (pin sales 0 ∷ []) Hand
    -- ---- names and chains: sales 1 and stock 0 fall in one bucket of two
    -- a name enters another bucket
    ∷ wrong (pins (λ m c o. leaving (λ k. with_heads (drop 1 k.heads ++ take 1 k.heads) k) o)) 2 (pin sales 1 ∷ []) Books
    -- a name enters at its chain's tail
    ∷ wrong (pins (λ m c o. cond (eqb (said o 0) 1) (leaving rising o) o)) 2 (pin sales 1 ∷ pin stock 0 ∷ []) Chains
    -- log flushed reorders a chain
    ∷ wrong (log_flushes (λ m c o. leaving rising o)) 2 (pin sales 1 ∷ pin stock 0 ∷ LogFlushed 100 ∷ []) Chains
    -- a buffer gets another name when its last pin goes
    ∷ wrong_on (unsummed 1) (unpins (λ m c o. leaving (with_names (words_of (block_of stock 0))) o)) (pin sales 0 ∷ unpin 0 ∷ []) Held
    -- it gets the other name and its page, and the next pin of its own is a load
    ∷ wrong_on (unsummed 1) (unpins (λ m c o. leaving (λ k. with_names (words_of (block_of stock 0)) (with_pool (drop size k.store) k)) o))
    (pin sales 0 ∷ unpin 0 ∷ []) Names
    -- log flushed exchanges two buffers
    ∷ wrong (log_flushes (λ m c o. leaving exchanged o)) 2 (unpinned ++ (LogFlushed 100 ∷ [])) Names
    ∷ []

-- ---- the sweep
unfoldable pub wrong_counts : List Wrong
wrong_counts =
    -- document 004's lowers first and tests after
    wrong (sweeps (λ cap words hand. lowers_first (length words) 0 words hand)) 1 (pin sales 0 ∷ unpin 0 ∷ pin stock 0 ∷ []) Probes
    -- and gives up after N tries
    ∷ wrong (sweeps (λ cap words hand. sweep (length words) (length words) 0 0 hand words)) 1
    (pin sales 0 ∷ unpin 0 ∷ pin stock 0 ∷ []) Six
    -- a sweep lowers the usage of pinned buffers
    ∷ wrong (sweeps (λ cap words hand. lowers_pinned (sweep_all cap words hand))) 2
    (pin sales 0 ∷ pin sales 1 ∷ unpin 1 ∷ pin stock 0 ∷ []) Words
    -- a sweep leaves the hand
    ∷ wrong (pins (λ m c o. leaving (with_hand m.control.hand) o)) 2 (unpinned ++ (pin stock 0 ∷ [])) Hand
    -- ---- pins and usage
    -- usage is never raised
    ∷ wrong (pins_again (λ cap w. w + 1)) 1 (hits 2) Words
    -- usage has no cap
    ∷ wrong (pins_again (λ cap w. w + 1 + 0x40000)) 1 (hits 6) Words
    -- usage has a cap of 7
    ∷ wrong (pins_again (λ cap w. cond (ltb (usage w) 7) (w + 1 + 0x40000) (w + 1))) 1 (hits 6) Words
    -- unpin does nothing
    ∷ wrong (unpins (λ m c o. leaving (λ k. m) o)) 1 (pin sales 0 ∷ unpin 0 ∷ []) Holders
    -- unpin lowers the usage
    ∷ wrong (unpins (λ m c o. leaving (λ k. with_states (map use_less k.states) k) o)) 1 (pin sales 0 ∷ unpin 0 ∷ []) Words
    -- unpin answers a number
    ∷ wrong (unpins (if_accepted (λ m c o. saying 0 1 o))) 1 (pin sales 0 ∷ unpin 0 ∷ []) Answers
    -- the fifth pin is not counted
    ∷ wrong (pins_again (λ cap w. cond (eqb (w % 2 ^ 18) 4) w (pin_more cap w))) 1 (hits 5) Words
    -- a page just loaded has usage 0
    ∷ wrong (pins (λ m c o. leaving (λ k. with_states (map use_less k.states) k) o)) 1 (pin sales 0 ∷ []) Words
    -- unpin empties the buffer
    ∷ wrong (unpins (λ m c o. leaving (λ k. release k 0) o)) 1 (pin sales 0 ∷ unpin 0 ∷ []) Words
    -- unpin loses a write
    ∷ wrong (unpins (λ m c o. leaving (λ k. with_states (map make_clean k.states) k) o)) 1
    (pin sales 0 ∷ write 0 77 100 ∷ unpin 0 ∷ []) Words
    ∷ []
