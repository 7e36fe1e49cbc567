-- Pin, and the places that it shares with peek, extend and drop.
use Rattle.std.specs.Prelude.{ℕ, ◌+◌, Bool, false, not, cond, List, [], ◌∷◌, set, eqb, leb}
use Rattle.laws.specs.Every.{all}
use Rattle.laws.specs.Sum.{ind}
use Rattle.laws.specs.First.{Found, found, missing}
use Rattle.laws.specs.Block.{block}
use Rattle.buftag.specs.declared.link.Link.{Link}
use Rattle.buftag.specs.declared.link.Link.TheVariants.{To, End, Off, Bad}
use Rattle.buftag.specs.Lookup.{Held}
use Rattle.std.specs.Prelude.{Some, None}
use Rattle.buftag.specs.declared.name.PageName.{PageName}
use Rattle.buftag.specs.Link.{link_of}
use Rattle.buftag.specs.Lookup.{held}
use Rattle.bufmodel.specs.Word.{pinned, dirty, pin_more}
use Rattle.bufmodel.specs.Checksum.{passes}
use Rattle.bufmodel.specs.Rows.{blocks_at, row_of, place_of}
use Rattle.bufmodel.specs.Memory.{Memory, buffers, size, cap_of, word_of, with_states, with_counts, with_hand}
use Rattle.bufmodel.specs.Counts.{max_holders, max_count, count_at, set_count}
use Rattle.bufmodel.specs.Books.{is_found}
use Rattle.bufmodel.specs.Sweep.{Swept, sweep_all}
use Rattle.bufmodel.specs.Moves.{write_back, release, load}
use Rattle.bufmodel.specs.Outcome.{Outcome, Place, place, checked, done, refused, outcome}

-- ---- the places
-- 19, holder 64 or above: the first of a call's own places (document 02)
unfoldable pub holder_place : ℕ → Place
holder_place h = place 19 (leb max_holders h)

-- 3, no row with these four numbers; 4, block ≥ blocks
unfoldable pub no_row : Found → Bool
no_row r = not (is_found r)

unfoldable pub no_block : List ℕ → ℕ → Found → Bool
no_block rows b (found r) = leb (blocks_at rows r) b
no_block rows b missing = false

-- 17, not held, and the store's block at its place does not pass as this block of its file
unfoldable pub sum_differs : Memory → PageName → Found → Held → Bool
sum_differs m n (found g) (Some b) = false
sum_differs m n (found g) None = not (passes n.block.0 (block (size m) g m.store))
sum_differs m n missing h = false

-- 5, held, and this holder's count of it is full
unfoldable pub count_full : Memory → ℕ → Held → Bool
count_full m h (Some b) = eqb (count_at m.counts b.0 h) max_count
count_full m h None = false

-- 6, not held, and every buffer is pinned
unfoldable pub no_victim : Memory → Held → Bool
no_victim m (Some b) = false
no_victim m None = all (buffers m) (λ i. pinned (word_of m i))

-- the buffer that has the page, or that none has
unfoldable pub held_in : Memory → PageName → Held
held_in m n = held m.states m.names n

unfoldable pub name_places : List ℕ → PageName → List Place → List Place
name_places rows n later =
    let r = row_of rows n.file in
    place 3 (no_row r) ∷ place 4 (no_block rows n.block.0 r) ∷ later

-- those of a page that is loaded or handed back
unfoldable pub page_places : Memory → PageName → List Place → List Place
page_places m n later = name_places m.rows n (place 17 (sum_differs m n (place_of m.rows n) (held_in m n)) ∷ later)

unfoldable pub pin_places : Memory → ℕ → PageName → List Place
pin_places m h n =
    let b = held_in m n in
    holder_place h ∷ page_places m n (place 5 (count_full m h b) ∷ place 6 (no_victim m b) ∷ [])

-- ---- what it does where it is accepted
-- the word of a held page, whose holder had c pins on it: at its first one pin count + 1, and usage + 1 where it is below the cap
unfoldable pub held_word : ℕ → ℕ → ℕ → ℕ
held_word cap c w = cond (eqb c 0) (pin_more cap w) w

-- held: this holder's count + 1, and with its first pin the word; probes 0
unfoldable pub pin_held : Memory → ℕ → ℕ → Outcome
pin_held m h i =
    let c = count_at m.counts i h in
    done (i ∷ 1 ∷ 0 ∷ 0 ∷ []) []
    (with_counts (set_count m.counts i h (c + 1)) (with_states (set m.states i (held_word (cap_of m) c (word_of m i))) m))

-- not held: the top of the free list, probes 0. Of all counts of a free buffer, which are 0, this holder's becomes 1
unfoldable pub pin_free : Memory → ℕ → PageName → ℕ → Outcome
pin_free m h n i = done (i ∷ 0 ∷ 0 ∷ 0 ∷ []) [] (with_counts (set_count m.counts i h 1) (load m n))

-- or, if that list is empty, the victim of a sweep: a dirty one is written back, its chain entry goes, the page is loaded. On the way the
-- victim is on top of the free list, from which load takes it. N probes in a row that find pinned mean 6, which place 6 says already
unfoldable pub pin_victim : Memory → ℕ → PageName → Swept → Found → Outcome
pin_victim m h n s (found v) =
    let swept = with_hand s.hand (with_states s.words m) in
    done (v ∷ 0 ∷ ind (dirty (word_of m v)) ∷ s.probes ∷ []) []
    (with_counts (set_count m.counts v h 1) (load (release (write_back swept v) v) n))
pin_victim m h n s missing = refused 6 [] m

unfoldable pub pin_swept : Memory → ℕ → PageName → Swept → Outcome
pin_swept m h n s = pin_victim m h n s s.victim

unfoldable pub pin_new : Memory → ℕ → PageName → Link → Outcome
pin_new m h n (To i) = pin_free m h n i
pin_new m h n End = pin_swept m h n (sweep_all (cap_of m) m.states m.control.hand)
pin_new m h n Off = pin_swept m h n (sweep_all (cap_of m) m.states m.control.hand)
pin_new m h n Bad = pin_swept m h n (sweep_all (cap_of m) m.states m.control.hand)

unfoldable pub pin_to : Memory → ℕ → PageName → Held → Outcome
pin_to m h n (Some b) = pin_held m h b.0
pin_to m h n None = pin_new m h n (link_of m.control.top)

unfoldable pub pin : Memory → ℕ → PageName → Outcome
pin m h n = outcome (checked m (pin_places m h n)) [] m (pin_to m h n (held_in m n))
