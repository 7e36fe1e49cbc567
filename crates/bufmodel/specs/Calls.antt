-- The other calls, each a function from the lent memory and its arguments to its outcome.
use Rattle.std.specs.Prelude.{ℕ, zero, suc, ◌+◌, ◌-◌, ◌*◌, max, Bool, false, not, ◌&&◌, ◌||◌, cond, List, [], ◌∷◌, length, get_or, take, drop, set, replicate, ℤ, pos, eqb, leb, ltb}
use Rattle.laws.specs.Every.{any}
use Rattle.laws.specs.Sum.{ind, count}
use Rattle.laws.specs.First.{Found, found, missing}
use Rattle.laws.specs.Block.{put_block}
use Rattle.buftag.specs.Lookup.{Held}
use Rattle.std.specs.Prelude.{Some, None}
use Rattle.buftag.specs.declared.name.FileName.{FileName}
use Rattle.buftag.specs.declared.name.PageName.{PageName}
use Rattle.buftag.specs.Names.{name_words}
use Rattle.buftag.specs.Link.{none}
use Rattle.bufmodel.specs.Word.{sound_cap, pinned, dirty, pin_less, make_dirty}
use Rattle.bufmodel.specs.Position.{position, written}
use Rattle.bufmodel.specs.Rows.{blocks_at, capacity_at, set_blocks, row_of, start_of, place_of}
use Rattle.bufmodel.specs.Memory.{
  Memory,
  buffers,
  size,
  word_of,
  page_of,
  with_states,
  with_pool,
  with_rows,
  with_store,
  with_counts,
  with_inserted,
  with_flushed,
}
use Rattle.bufmodel.specs.Counts.{count_at, set_count, has_pin}
use Rattle.bufmodel.specs.Sizes.{sized_for}
use Rattle.bufmodel.specs.Moves.{write_back, write_up_to, of_file, release_up_to}
use Rattle.bufmodel.specs.Outcome.{Outcome, Place, place, refusal_of, checked, zeros, one, two, done, outcome}
use Rattle.bufmodel.specs.Pin.{holder_place, no_row, page_places, held_in}

-- ---- set up: all buffers and chains empty; free list 0, 1, .. N−1; hand 0; both positions and the cap as given; all counts 0.
-- Pool, rows and store untouched
-- n free links, the first of buffer i, each to the next buffer
unfoldable pub free_links : ℕ → ℕ → List ℤ
free_links i zero = []
free_links i (suc zero) = none ∷ []
free_links i (suc (suc n)) = pos (suc i) ∷ free_links (suc i) (suc n)

unfoldable pub fresh : Memory → ℕ → ℕ → ℕ → Memory
fresh m p at cap =
    record {
      control = record { size = p; hand = 0; top = pos 0; inserted = at; flushed = at; cap = cap };
      states = replicate (buffers m) 0;
      names = replicate (name_words * buffers m) 0;
      pool = m.pool;
      free = free_links 0 (buffers m);
      heads = replicate (length m.heads) none;
      chain = replicate (length m.chain) none;
      rows = m.rows;
      store = m.store;
      counts = replicate (length m.counts) 0;
    }

-- 1, sizes or rows; after it 18, cap outside 1 to 15 (document 02)
unfoldable pub set_up : Memory → ℕ → ℕ → ℕ → Outcome
set_up m p at cap =
    outcome (refusal_of (place 1 (not (sized_for p m)) ∷ place 18 (not (sound_cap cap)) ∷ [])) [] m (done zeros [] (fresh m p at cap))

-- ---- calls on a buffer
-- 19, no such holder; 7, ≥ N; 8, this holder has no pin on it
unfoldable pub buffer_places : Memory → ℕ → ℕ → List Place → List Place
buffer_places m h i later = holder_place h ∷ place 7 (leb (buffers m) i) ∷ place 8 (not (has_pin m.counts i h)) ∷ later

-- the word of a buffer on which a holder had c pins and unpins one: with its last one pin count − 1
unfoldable pub less_word : ℕ → ℕ → ℕ
less_word c w = cond (eqb c 1) (pin_less w) w

-- this holder's count − 1, and with its last pin the word
unfoldable pub unpin_at : Memory → ℕ → ℕ → Memory
unpin_at m h i =
    let c = count_at m.counts i h in
    with_counts (set_count m.counts i h (c - 1)) (with_states (set m.states i (less_word c (word_of m i))) m)

unfoldable pub unpin : Memory → ℕ → ℕ → Outcome
unpin m h i = outcome (checked m (buffer_places m h i [])) [] m (done zeros [] (unpin_at m h i))

-- fills out from the page
unfoldable pub read : Memory → ℕ → ℕ → ℕ → List ℕ → Outcome
read m h i from out =
    outcome (checked m (buffer_places m h i (place 9 (ltb (size m) (from + length out)) ∷ []))) out m
    (done zeros (take (length out) (drop from (page_of m i))) m)

-- copies the bytes, sets the page's log position, sets dirty and just dirtied
unfoldable pub write_places : Memory → ℕ → ℕ → ℕ → List ℕ → ℕ → List Place
write_places m h i from bytes at =
    buffer_places m h i
    (place 9 (ltb (size m) (from + length bytes) || ltb from 8)
    ∷ place 10 (eqb (length bytes) 0)
    ∷ place 11 (ltb m.control.inserted at)
    ∷ place 12 (ltb at (position (page_of m i)))
    ∷ [])

unfoldable pub write_to : Memory → ℕ → ℕ → List ℕ → ℕ → Memory
write_to m i from bytes at =
    with_pool (put_block (size m) i (written at from bytes (page_of m i)) m.pool)
    (with_states (set m.states i (make_dirty (word_of m i))) m)

unfoldable pub write : Memory → ℕ → ℕ → ℕ → List ℕ → ℕ → Outcome
write m h i from bytes at =
    outcome (checked m (write_places m h i from bytes at)) bytes m (done zeros bytes (write_to m i from bytes at))

-- answers the count written
unfoldable pub flush : Memory → ℕ → ℕ → Outcome
flush m h i = outcome (checked m (buffer_places m h i [])) [] m (done (one (ind (dirty (word_of m i)))) [] (write_back m i))

-- ---- give back: everything that a holder has
-- the word of a buffer on which a holder had c pins and has none now
unfoldable pub given_word : ℕ → ℕ → ℕ
given_word c w = cond (eqb c 0) w (pin_less w)

unfoldable pub give_at : Memory → ℕ → ℕ → Memory
give_at m h i =
    with_counts (set_count m.counts i h 0)
    (with_states (set m.states i (given_word (count_at m.counts i h) (word_of m i))) m)

-- the first k buffers, rising
unfoldable pub give_up_to : ℕ → ℕ → Memory → Memory
give_up_to h zero m = m
give_up_to h (suc k) m = give_at (give_up_to h k m) h k

-- nothing else is looked at: a holder that has nothing gives nothing back
unfoldable pub give_back : Memory → ℕ → Outcome
give_back m h = outcome (checked m (holder_place h ∷ [])) [] m (done zeros [] (give_up_to h (buffers m) m))

-- every buffer, rising
unfoldable pub checkpoint : Memory → Outcome
checkpoint m =
    outcome (checked m []) [] m (done (one (count (buffers m) (λ i. dirty (word_of m i)))) [] (write_up_to (buffers m) m))

-- ---- peek: the pool's page if held, else the store's block if it passes, as 1 or 0 and a byte offset
unfoldable pub offset_of : Memory → Found → ℕ
offset_of m (found g) = g * size m
offset_of m missing = 0

unfoldable pub part_of : Memory → PageName → Held → List ℕ
part_of m n (Some b) = two 1 (b.0 * size m)
part_of m n None = two 0 (offset_of m (place_of m.rows n))

-- the part that an answer hands back: P bytes of the store (0) or the pool (1) from an offset; refused: an empty part
unfoldable pub part_in : Memory → ℕ → ℕ → List ℕ
part_in m zero offset = take (size m) (drop offset m.store)
part_in m (suc zero) offset = take (size m) (drop offset m.pool)
part_in m (suc (suc k)) offset = []

unfoldable pub part_at : ℕ → Outcome → List ℕ
part_at zero o = part_in o.after (get_or o.answer 0 0) (get_or o.answer 1 0)
part_at (suc k) o = []

unfoldable pub part : Outcome → List ℕ
part o = part_at o.refusal o

unfoldable pub peek : Memory → PageName → Outcome
peek m n = outcome (checked m (page_places m n [])) [] m (done (part_of m n (held_in m n)) [] m)

-- ---- calls on a file
-- 13, blocks = capacity
unfoldable pub file_full : List ℕ → Found → Bool
file_full rows (found r) = eqb (blocks_at rows r) (capacity_at rows r)
file_full rows missing = false

-- the next block becomes zeros in the store, blocks + 1; answers its number
unfoldable pub extend_at : Memory → Found → Outcome
extend_at m (found r) =
    let b = blocks_at m.rows r in
    done (one b) []
    (with_store (put_block (size m) (start_of m.rows r + b) (replicate (size m) 0) m.store)
    (with_rows (set_blocks m.rows r (suc b)) m))
extend_at m missing = done zeros [] m

unfoldable pub extend : Memory → FileName → Outcome
extend m f =
    let r = row_of m.rows f in
    outcome (checked m (place 3 (no_row r) ∷ place 13 (file_full m.rows r) ∷ [])) [] m (extend_at m r)

-- 14, one of its pages pinned
unfoldable pub file_pinned : Memory → FileName → Bool
file_pinned m f = any (buffers m) (λ i. of_file m f i && pinned (word_of m i))

-- its buffers, rising, are emptied and put on top of the free list; hand and pool bytes keep; blocks becomes 0
unfoldable pub drop_at : Memory → FileName → Found → Outcome
drop_at m f (found r) = done zeros [] (with_rows (set_blocks m.rows r 0) (release_up_to f (buffers m) m))
drop_at m f missing = done zeros [] m

unfoldable pub drop_file : Memory → FileName → Outcome
drop_file m f =
    let r = row_of m.rows f in
    outcome (checked m (place 3 (no_row r) ∷ place 14 (file_pinned m f) ∷ [])) [] m (drop_at m f r)

-- ---- log positions
-- 15, p below inserted; sets inserted
unfoldable pub log_inserted : Memory → ℕ → Outcome
log_inserted m p = outcome (checked m (place 15 (ltb p m.control.inserted) ∷ [])) [] m (done zeros [] (with_inserted p m))

-- 16, p above inserted; raises flushed if p is above it
unfoldable pub log_flushed : Memory → ℕ → Outcome
log_flushed m p =
    outcome (checked m (place 16 (ltb m.control.inserted p) ∷ [])) [] m (done zeros [] (with_flushed (max m.control.flushed p) m))
