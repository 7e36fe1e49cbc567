-- The plain shelf: document 01's term for what a pool of pages is, without buffers, books or a store to write back to.
-- A page is known by its place, the index of its block in the store. The shelf's checks, their order and a written page are its own words;
-- what it shares with the pool is which row and place a name has, where rows, blocks and log positions lie, and the checksum.
use Rattle.std.specs.Prelude.{ℕ, suc, ◌+◌, ◌-◌, Bool, true, false, not, ◌&&◌, ◌||◌, cond, List, [], ◌∷◌, ◌++◌, length, take, drop, replicate, eqb, leb, ltb}
use Rattle.laws.specs.Every.{any}
use Rattle.laws.specs.Sum.{count}
use Rattle.laws.specs.First.{Found, found, missing, first}
use Rattle.laws.specs.Block.{block}
use Rattle.buftag.specs.declared.name.PageName.{PageName}
use Rattle.bufmodel.specs.Position.{position, position_bytes}
use Rattle.bufmodel.specs.Rows.{files, blocks_at, capacity_at, set_blocks, row_of, start_of, store_blocks, place_of}
use Rattle.bufmodel.specs.Memory.{Memory, buffers}
use Rattle.bufmodel.specs.Outcome.{Place, place}
use Rattle.bufmodel.specs.Step.{
  Call,
  Pin,
  Unpin,
  Read,
  Write,
  Flush,
  GiveBack,
  Checkpoint,
  Peek,
  Extend,
  Drop,
  LogInserted,
  LogFlushed,
}
use Rattle.shelf.specs.Sums.{fails}

-- N, P, inserted, rows; for each block its P bytes, and whether it counts as bad; for each holder and page a pin count; for some buffer
-- numbers the page held there. A holder is document 02's word for who pins: one of 64
pub record Shelf : Type 0 where
  pub buffers : ℕ
  pub size : ℕ
  pub inserted : ℕ
  pub rows : List ℕ
  pub bytes : ℕ → List ℕ
  -- holder, page
  pub counts : ℕ → ℕ → ℕ
  pub holds : ℕ → Found
  pub bad : ℕ → Bool

-- a function with another value at one place
abbrev pub with : {A : Type 0} → ℕ → A → (ℕ → A) → ℕ → A
with k v f j = cond (eqb j k) v (f j)

-- ---- blocks that came in bad
-- the file of a block at place g below its block count
unfoldable pub file_with : List ℕ → ℕ → Found
file_with rows g = first (files rows) (λ r. leb (start_of rows r) g && ltb g (start_of rows r + blocks_at rows r))

-- a block below its file's block count at set-up that came in bad; g - start is its number in the file
unfoldable pub bad_in : ℕ → List ℕ → List ℕ → ℕ → Found → Bool
bad_in p rows store g (found r) = fails (g - start_of rows r) (block p g store)
bad_in p rows store g missing = false

-- page g is of the file in this row
unfoldable pub in_row : List ℕ → Found → ℕ → Bool
in_row rows (found r) g = leb (start_of rows r) g && ltb g (start_of rows r + capacity_at rows r)
in_row rows missing g = false

-- it starts from the rows, store and log position at set-up, no pins
unfoldable pub first_shelf : Memory → ℕ → ℕ → Shelf
first_shelf m p at =
    record {
      buffers = buffers m;
      size = p;
      inserted = at;
      rows = m.rows;
      bytes = λ g. block p g m.store;
      counts = λ h g. 0;
      holds = λ b. missing;
      bad = λ g. bad_in p m.rows m.store g (file_with m.rows g);
    }

-- checked downwards: the first place that refuses gives its number
unfoldable pub first_of : List Place → ℕ
first_of [] = 0
first_of (p ∷ ps) = let later = first_of ps in cond p.refuses p.number later

-- 3, no row with these four
unfoldable pub no_file : Found → Bool
no_file (found r) = false
no_file missing = true

-- a page is pinned, or has pins, while any holder's count isn't 0
unfoldable pub pins_in : (ℕ → ℕ → ℕ) → ℕ → Bool
pins_in counts g = any 64 (λ h. not (eqb (counts h g) 0))

module _ (s : Shelf) where
  unfoldable pub has_pins : ℕ → Bool
  has_pins g = pins_in s.counts g

  -- how many pages have pins
  unfoldable pub pinned_pages : ℕ
  pinned_pages = count (store_blocks s.rows) has_pins

  -- ---- the checks
  -- 4, block ≥ blocks
  unfoldable pub no_page : ℕ → Found → Bool
  no_page b (found r) = leb (blocks_at s.rows r) b
  no_page b missing = false

  -- 17, a bad block
  unfoldable pub is_bad : Found → Bool
  is_bad (found g) = s.bad g
  is_bad missing = false

  -- 5 if this holder's count is full; 6 if the page has no pins and N pages have
  unfoldable pub count_full : ℕ → Found → Bool
  count_full h (found g) = eqb (s.counts h g) 65535
  count_full h missing = false

  unfoldable pub no_buffer : Found → Bool
  no_buffer (found g) = not (has_pins g) && eqb pinned_pages s.buffers
  no_buffer missing = false

  -- 8, the number holds none, or this holder has no pin on the page that it holds
  unfoldable pub no_pin : ℕ → Found → Bool
  no_pin h (found g) = eqb (s.counts h g) 0
  no_pin h missing = true

  -- 19, holder 64 or above; 7, ≥ N; 8
  unfoldable pub number_places : ℕ → ℕ → List Place → List Place
  number_places h b later = place 19 (leb 64 h) ∷ place 7 (leb s.buffers b) ∷ place 8 (no_pin h (s.holds b)) ∷ later

  -- 12, position below the page's own
  unfoldable pub too_low : ℕ → Found → Bool
  too_low at (found g) = ltb at (position (s.bytes g))
  too_low at missing = false

  -- 13, blocks = capacity
  unfoldable pub no_room : Found → Bool
  no_room (found r) = eqb (blocks_at s.rows r) (capacity_at s.rows r)
  no_room missing = false

  -- 14, one of the pages of the file in this row pinned
  unfoldable pub file_pinned : Found → Bool
  file_pinned (found r) = any (blocks_at s.rows r) (λ b. has_pins (start_of s.rows r + b))
  file_pinned missing = false

  -- a page's three places; those of a pin above the victim's
  unfoldable pub page_first : PageName → List Place → List Place
  page_first n later =
      let r = row_of s.rows n.file in
      place 3 (no_file r) ∷ place 4 (no_page n.block.0 r) ∷ place 17 (is_bad (place_of s.rows n)) ∷ later

  unfoldable pub above : ℕ → PageName → List Place
  above h n = place 19 (leb 64 h) ∷ page_first n (place 5 (count_full h (place_of s.rows n)) ∷ [])

  unfoldable pub places : Call → List Place
  places (Pin h n) = above h n ++ (place 6 (no_buffer (place_of s.rows n)) ∷ [])
  places (Unpin h b) = number_places h b []
  places (Read h b from out) = number_places h b (place 9 (ltb s.size (from + length out)) ∷ [])
  places (Write h b from bytes at) =
      number_places h b
      (place 9 (ltb s.size (from + length bytes) || ltb from 8)
      ∷ place 10 (eqb (length bytes) 0)
      ∷ place 11 (ltb s.inserted at)
      ∷ place 12 (too_low at (s.holds b))
      ∷ [])
  places (Flush h b) = number_places h b []
  places (GiveBack h) = place 19 (leb 64 h) ∷ []
  places Checkpoint = []
  places (Peek n) = page_first n []
  places (Extend f) = let r = row_of s.rows f in place 3 (no_file r) ∷ place 13 (no_room r) ∷ []
  places (Drop f) = let r = row_of s.rows f in place 3 (no_file r) ∷ place 14 (file_pinned r) ∷ []
  places (LogInserted p) = place 15 (ltb p s.inserted) ∷ []
  places (LogFlushed p) = place 16 (ltb s.inserted p) ∷ []

  -- the refusal number, 0 if accepted
  unfoldable pub refuses : Call → ℕ
  refuses c = first_of (places c)

-- ---- what an accepted call does
-- the shelf with other counts and held pages, with other bytes, with other rows, with another position, with other bad blocks
abbrev pub with_pins : (ℕ → ℕ → ℕ) → (ℕ → Found) → Shelf → Shelf
with_pins c h s =
    record {
      buffers = s.buffers;
      size = s.size;
      inserted = s.inserted;
      rows = s.rows;
      bytes = s.bytes;
      counts = c;
      holds = h;
      bad = s.bad;
    }

abbrev pub with_bytes : (ℕ → List ℕ) → Shelf → Shelf
with_bytes x s =
    record {
      buffers = s.buffers;
      size = s.size;
      inserted = s.inserted;
      rows = s.rows;
      bytes = x;
      counts = s.counts;
      holds = s.holds;
      bad = s.bad;
    }

abbrev pub with_rows : List ℕ → Shelf → Shelf
with_rows x s =
    record {
      buffers = s.buffers;
      size = s.size;
      inserted = s.inserted;
      rows = x;
      bytes = s.bytes;
      counts = s.counts;
      holds = s.holds;
      bad = s.bad;
    }

abbrev pub with_inserted : ℕ → Shelf → Shelf
with_inserted x s =
    record {
      buffers = s.buffers;
      size = s.size;
      inserted = x;
      rows = s.rows;
      bytes = s.bytes;
      counts = s.counts;
      holds = s.holds;
      bad = s.bad;
    }

abbrev pub with_bad : (ℕ → Bool) → Shelf → Shelf
with_bad x s =
    record {
      buffers = s.buffers;
      size = s.size;
      inserted = s.inserted;
      rows = s.rows;
      bytes = s.bytes;
      counts = s.counts;
      holds = s.holds;
      bad = x;
    }

-- other pins of holder h on page g
unfoldable pub count_with : ℕ → ℕ → ℕ → (ℕ → ℕ → ℕ) → ℕ → ℕ → ℕ
count_with h g c counts = with h (with g c (counts h)) counts

-- a pin of holder h that got buffer number b: its count + 1, and b holds the page
unfoldable pub pinned_at : Shelf → ℕ → ℕ → Found → Shelf
pinned_at s h b (found g) = with_pins (count_with h g (s.counts h g + 1) s.counts) (with b (found g) s.holds) s
pinned_at s h b missing = s

-- a number holds its page while that has pins
unfoldable pub still_held : (ℕ → ℕ → ℕ) → Found → Found
still_held counts (found g) = cond (pins_in counts g) (found g) missing
still_held counts missing = missing

-- unpin lowers this holder's count; where no holder has a pin left, the number holds none
unfoldable pub unpinned_at : Shelf → ℕ → ℕ → Found → Shelf
unpinned_at s h b (found g) =
    let now = count_with h g (s.counts h g - 1) s.counts in
    with_pins now (with b (still_held now (found g)) s.holds) s
unpinned_at s h b missing = s

-- give back: holder h has no pins; numbers whose pages have none then hold none
unfoldable pub given_back : Shelf → ℕ → Shelf
given_back s h =
    let now = with h (λ g. 0) s.counts in
    with_pins now (λ b. still_held now (s.holds b)) s

-- a page with a position and bytes written: the position, what stood between it and the bytes, the bytes, what stands behind them
unfoldable pub written_page : ℕ → ℕ → List ℕ → List ℕ → List ℕ
written_page at from bytes page = position_bytes at ++ (take (from - 8) (drop 8 page) ++ (bytes ++ drop (from + length bytes) page))

unfoldable pub written_at : Shelf → ℕ → List ℕ → ℕ → Found → Shelf
written_at s from bytes at (found g) = with_bytes (with g (written_page at from bytes (s.bytes g)) s.bytes) s
written_at s from bytes at missing = s

-- the place of the next block of the file in row r
unfoldable pub next_block : Shelf → ℕ → ℕ
next_block s r = start_of s.rows r + blocks_at s.rows r

unfoldable pub extended_at : Shelf → Found → Shelf
extended_at s (found r) =
    with_bytes (with (next_block s r) (replicate s.size 0) s.bytes) (with_rows (set_blocks s.rows r (suc (blocks_at s.rows r))) s)
extended_at s missing = s

-- a dropped file's blocks are bad no more
unfoldable pub dropped_at : Shelf → Found → Shelf
dropped_at s (found r) = with_bad (λ g. not (in_row s.rows (found r) g) && s.bad g) (with_rows (set_blocks s.rows r 0) s)
dropped_at s missing = s

-- the shelf after an accepted call; at a pin, b is the buffer number that the program answered
unfoldable pub shelf_after : Shelf → Call → ℕ → Shelf
shelf_after s (Pin h n) b = pinned_at s h b (place_of s.rows n)
shelf_after s (Unpin h i) b = unpinned_at s h i (s.holds i)
shelf_after s (Read h i from out) b = s
shelf_after s (Write h i from bytes at) b = written_at s from bytes at (s.holds i)
shelf_after s (Flush h i) b = s
shelf_after s (GiveBack h) b = given_back s h
shelf_after s Checkpoint b = s
shelf_after s (Peek n) b = s
shelf_after s (Extend f) b = extended_at s (row_of s.rows f)
shelf_after s (Drop f) b = dropped_at s (row_of s.rows f)
shelf_after s (LogInserted p) b = with_inserted p s
shelf_after s (LogFlushed p) b = s
