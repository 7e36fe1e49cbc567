-- Wrong pools: each does one thing wrong, which a set up or a short list of calls shows. Holders, their private counts, give back.
use Rattle.std.specs.Prelude.{ℕ, suc, ◌+◌, ◌-◌, ◌*◌, ◌%◌, not, ◌&&◌, cond, List, [], ◌∷◌, ◌++◌, map, length, set, replicate, eqb, leb}
use Rattle.laws.specs.First.{Found, found, missing, first}
use Rattle.buftag.specs.Name.{file_of}
use Rattle.bufmodel.specs.Word.{pins as pin_count, pinned, pin_more, pin_less, use_less}
use Rattle.bufmodel.specs.Memory.{Memory, buffers, cap_of, word_of, with_states, with_counts}
use Rattle.bufmodel.specs.Counts.{count_at, has_pin}
use Rattle.bufmodel.specs.Moves.{write_back, release}
use Rattle.bufmodel.specs.Outcome.{Outcome, zeros, done, refused}
use Rattle.bufmodel.specs.Pin.{held_in, pin_to}
use Rattle.bufmodel.specs.Calls.{give_up_to}
use Rattle.bufmodel.specs.Step.{Pin, Unpin, Read, Flush, GiveBack, Checkpoint, Drop, step}
use Rattle.bufmodel.specs.Lent.{Lent, opened, closed}
use Rattle.shelf.specs.Statement.{Pool}
use Rattle.shelf.specs.Tests.{Accepted, Fresh, Number, Answers, Shows, Six, Others, Holders, Same, Sizes, Words, Private}
use Rattle.shelf.specs.Trial.{
  size,
  log,
  bench,
  sales,
  stock,
  pin_by,
  pin,
  unpin,
  write,
  hits,
  Wrong,
  wrong,
  wrong_set_up,
}
use Rattle.shelf.specs.Changes.{
  Change,
  if_refused,
  if_accepted,
  calls,
  pins,
  unpins,
  reads,
  writes,
  flushes,
  drops,
  gives_back,
  saying,
  leaving,
  said,
  refuses,
  ended,
  sets_up,
  sets_up_to,
}

-- ---- what they are made of
-- other counts in the lent memory
abbrev pub with_count_words : List ℕ → Lent → Lent
with_count_words x m = closed (with_counts x (opened m))

-- this holder's count of the buffer that a pin answered
abbrev count_of : Memory → ℕ → Outcome → ℕ
count_of m h o = count_at m.counts (said o 0) h

-- another word, of the cap and the former word, for a page on which the holder has pins already
abbrev pins_on : (ℕ → ℕ → ℕ) → Pool
pins_on word =
    pins
    (λ m c o.
    let b = said o 0 in
    let o' = leaving (with_states (set m.states b (word (cap_of m) (word_of m b)))) o in
    cond (eqb (said o 1) 1 && not (eqb (count_of m c.holder o) 0)) o' o)

-- another count, of the former one, by the holder that pins
abbrev counts : (ℕ → ℕ) → Pool
counts f =
    pins
    (if_accepted
    (λ m c o. leaving (with_counts (set m.counts (said o 0 * 64 + c.holder) (f (count_of m c.holder o)))) o))

-- a refused call on a pinned buffer, whoever has the pins, is accepted
abbrev by_the_word : Change
by_the_word = if_refused (λ m c o. let o' = done zeros o.bytes m in cond (pinned (word_of m c.number)) o' o)

-- the first holder that has a pin on a buffer unpins it
unfoldable pub unpinned_by : Memory → ℕ → Outcome → Found → Outcome
unpinned_by m b o (found h) = step m (Unpin h b)
unpinned_by m b o missing = o

-- nobody has pins
abbrev nobody : Memory → Memory
nobody m = with_counts (map (λ c. 0) m.counts) (with_states (map (λ w. w - pin_count w) m.states) m)

-- pins to which only holder 1's pins are in the way, which go; give back for all
abbrev pub evicts : Pool
evicts = pins (λ m c o. let o' = step (give_up_to 1 (buffers m) m) (Pin c.holder c.page) in cond (eqb o.refusal 6) o' o)

abbrev pub empties_all : Pool
empties_all = gives_back (if_accepted (λ m c o. leaving nobody o))

-- another place refuses first
abbrev first_by : (Memory → Outcome) → Memory → ℕ → Outcome → Outcome
first_by call m k o = let o' = call m in cond (eqb o'.refusal k) o' o

-- a bench whose counts are one too many
abbrev one_more : Lent
one_more = with_count_words (replicate 65 0) (bench 1)

-- ---- pins and unpins
unfoldable pub wrong_holders : List Wrong
wrong_holders =
    -- a page that another holder than the first has pinned gives way
    wrong evicts 1 (pin_by 1 sales 0 ∷ pin stock 0 ∷ []) Six
    -- it does while another buffer is unpinned
    ∷ wrong (pins (λ m c o. let o' = step (give_up_to 1 (buffers m) m) (Pin c.holder c.page) in cond (eqb (said o 3) 0) o o')) 2
    (pin_by 1 sales 0 ∷ pin sales 1 ∷ unpin 1 ∷ pin stock 0 ∷ []) Shows
    -- each pin raises usage; each raises the word's pin count; each raises both
    ∷ wrong (pins_on (λ cap w. w + 0x40000)) 1 (pin sales 0 ∷ pin sales 0 ∷ []) Words
    ∷ wrong (pins_on (λ cap w. w + 1)) 1 (pin sales 0 ∷ pin sales 0 ∷ []) Words
    ∷ wrong (pins_on pin_more) 1 (pin sales 0 ∷ pin sales 0 ∷ []) Words
    -- no pin is counted but in the word; a hit is not
    ∷ wrong (counts (λ c. c)) 1 (pin sales 0 ∷ []) Holders
    ∷ wrong (counts (λ c. 1)) 1 (pin sales 0 ∷ pin sales 0 ∷ []) Holders
    -- each pin is holder 0's
    ∷ wrong (pins (λ m c o. step m (Pin 0 c.page))) 1 (pin_by 1 sales 0 ∷ []) Holders
    -- counts stand holder by holder
    ∷ wrong (pins (if_accepted (λ m c o. leaving (with_counts (set m.counts (c.holder * buffers m + said o 0) 1)) o))) 2 (hits 2) Holders
    -- an unpin lowers the first count that isn't 0
    ∷ wrong (unpins (λ m c o. let b = c.number in unpinned_by m b o (first 64 (has_pin m.counts b)))) 1
    (pin sales 0 ∷ pin_by 1 sales 0 ∷ Unpin 1 0 ∷ []) Holders
    -- each unpin lowers the word
    ∷ wrong (unpins (λ m c o. leaving (with_states (map pin_less m.states)) o)) 1 (pin sales 0 ∷ pin sales 0 ∷ unpin 0 ∷ []) Words
    -- only the last holder's does
    ∷ wrong (unpins (λ m c o. cond (leb (pin_count (word_of m 0)) 1) o (leaving (with_states m.states) o))) 1
    (pin sales 0 ∷ pin_by 1 sales 0 ∷ unpin 0 ∷ []) Words
    -- an unpin gives all of the holder's pins back
    ∷ wrong (unpins (if_accepted (λ m c o. leaving (λ k. give_up_to c.holder (buffers m) m) o))) 1
    (pin sales 0 ∷ pin sales 0 ∷ unpin 0 ∷ []) Holders
    ∷ []

-- ---- 8, 14 and 19
unfoldable pub wrong_owners : List Wrong
wrong_owners =
    -- any holder's pin suffices for an unpin, a read, a write, a flush
    wrong (unpins by_the_word) 1 (pin_by 1 sales 0 ∷ unpin 0 ∷ []) Number
    ∷ wrong (reads by_the_word) 1 (pin_by 1 sales 0 ∷ Read 0 0 10 (0 ∷ []) ∷ []) Number
    ∷ wrong (writes by_the_word) 1 (pin_by 1 sales 0 ∷ write 0 77 100 ∷ []) Number
    ∷ wrong (flushes by_the_word) 1 (pin_by 1 sales 0 ∷ Flush 0 0 ∷ []) Number
    -- a file is dropped whose page another holder than the first has pinned
    ∷ wrong (drops (if_refused (λ m c o. cond (has_pin m.counts 0 0) o (done zeros [] m)))) 1 (pin_by 1 stock 0 ∷ Drop stock ∷ []) Number
    -- 63 holders; 65
    ∷ wrong (pins (λ m c o. cond (leb 63 c.holder) (refused 19 [] m) o)) 1 (pin_by 63 sales 0 ∷ []) Number
    ∷ wrong (pins (λ m c o. let o' = pin_to m 64 c.page (held_in m c.page) in cond (eqb c.holder 64) o' o)) 1
    (pin_by 64 sales 0 ∷ []) Number
    -- holders are counted modulo 64
    ∷ wrong (pins (λ m c o. step m (Pin (c.holder % 64) c.page))) 1 (pin_by 64 sales 0 ∷ []) Number
    -- 19 stands behind 3; behind 7; behind 8
    ∷ wrong (pins (λ m c o. first_by (λ k. step k (Pin 0 c.page)) m 3 o)) 1 (pin_by 64 (file_of 1 2 3 0) 0 ∷ []) Number
    ∷ wrong (unpins (λ m c o. first_by (λ k. step k (Unpin 0 c.number)) m 7 o)) 1 (Unpin 64 1 ∷ []) Number
    ∷ wrong (flushes (λ m c o. first_by (λ k. step k (Flush 0 c.number)) m 8 o)) 1 (Flush 64 0 ∷ []) Number
    -- give back has no 19
    ∷ wrong (gives_back (if_refused (λ m c o. done zeros [] m))) 1 (GiveBack 64 ∷ []) Number
    ∷ []

-- ---- give back
unfoldable pub wrong_given : List Wrong
wrong_given =
    -- all holders' pins are given back
    wrong empties_all 1 (pin sales 0 ∷ pin_by 1 sales 0 ∷ GiveBack 0 ∷ []) Holders
    -- none are
    ∷ wrong (gives_back (λ m c o. leaving (λ k. m) o)) 1 (pin sales 0 ∷ GiveBack 0 ∷ []) Holders
    -- another holder's are
    ∷ wrong (gives_back (λ m c o. step m (GiveBack (suc c.holder)))) 1 (pin sales 0 ∷ pin_by 1 sales 0 ∷ GiveBack 0 ∷ []) Holders
    -- one of each page's is
    ∷ wrong (gives_back (λ m c o. step m (Unpin c.holder 0))) 1 (pin sales 0 ∷ pin sales 0 ∷ GiveBack 0 ∷ []) Holders
    -- those of the first page are
    ∷ wrong (gives_back (λ m c o. leaving (λ k. give_up_to c.holder 1 m) o)) 2 (pin sales 0 ∷ pin sales 1 ∷ GiveBack 0 ∷ []) Holders
    -- the words stay
    ∷ wrong (gives_back (λ m c o. leaving (with_states m.states) o)) 1 (pin sales 0 ∷ GiveBack 0 ∷ []) Words
    -- words lose a pin whoever has it
    ∷ wrong (gives_back (λ m c o. leaving (with_states (map pin_less m.states)) o)) 1 (pin_by 1 sales 0 ∷ GiveBack 0 ∷ []) Words
    -- usage falls
    ∷ wrong (gives_back (λ m c o. leaving (λ k. with_states (map use_less k.states) k) o)) 1 (pin sales 0 ∷ GiveBack 0 ∷ []) Words
    -- the buffer is emptied
    ∷ wrong (gives_back (λ m c o. leaving (λ k. release k 0) o)) 1 (pin sales 0 ∷ GiveBack 0 ∷ []) Words
    -- a dirty page is written back
    ∷ wrong (gives_back (λ m c o. leaving (λ k. write_back k 0) o)) 1 (pin sales 0 ∷ write 0 77 100 ∷ GiveBack 0 ∷ []) Others
    -- a holder that has nothing is refused
    ∷ wrong (gives_back (λ m c o. cond (has_pin m.counts 0 c.holder) o (refused 8 [] m))) 1 (GiveBack 0 ∷ []) Number
    -- it answers how many
    ∷ wrong (gives_back (λ m c o. saying 0 1 o)) 1 (pin sales 0 ∷ GiveBack 0 ∷ []) Answers
    ∷ []

-- ---- the lent counts, and set up
unfoldable pub wrong_private : List Wrong
wrong_private =
    -- an empty buffer's count changes
    wrong (calls (λ m c o. leaving (λ k. with_counts (set k.counts 1 1) k) o)) 1 (Checkpoint ∷ []) Private
    -- a refused call changes one
    ∷ wrong (refuses (λ m. with_counts (set m.counts 0 1) m)) 1 (unpin 0 ∷ []) Same
    -- the counts grow
    ∷ wrong (calls (λ m c o. leaving (λ k. with_counts (k.counts ++ (0 ∷ [])) k) o)) 1 (Checkpoint ∷ []) Sizes
    -- set up leaves them
    ∷ wrong_set_up (sets_up_to (λ m k. with_counts m.counts k)) (bench 1) size log Fresh
    -- it clears those of holder 0 alone
    ∷ wrong_set_up (sets_up_to (λ m k. with_counts (set m.counts 0 0) k)) (bench 1) size log Fresh
    -- 65 for one buffer are accepted
    ∷ wrong_set_up (sets_up (λ p at cap m r. cond (eqb (length m.counts) 65) (ended 0 m r) r)) one_more size log Accepted
    ∷ []
