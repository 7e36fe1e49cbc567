-- Document 01's own numbers, document 02's, and the public header's of a checksum: what the statement and the pool both use, each as an
-- equation for all arguments, under its sentence. −1 is `negsuc 0`, −2 is `negsuc 1`.
use Rattle.std.specs.Prelude.{ℕ, suc, ◌+◌, ◌-◌, ◌*◌, ◌/◌, ◌%◌, ◌≤◌, ◌<◌, ◌≡◌, ◌≢◌, ◌⊎◌, ◌↔◌, true, not, ◌&&◌, cond, List, [], ◌∷◌, length, get_or, take, drop, set, pos, negsuc, eqb, ltb}
use Rattle.std.specs.Int.Bits.{bit_xor}
use Rattle.laws.specs.Sum.{count}
use Rattle.laws.specs.First.{found, missing, first}
use Rattle.laws.specs.Block.{block}
use Rattle.buftag.specs.declared.link.Link.TheVariants.{To, End, Off, Bad}
use Rattle.std.specs.Prelude.{Some, None}
use Rattle.buftag.specs.declared.number.BufferNumber.{BufferNumber}
use Rattle.buftag.specs.declared.name.FileName.{FileName}
use Rattle.buftag.specs.declared.name.PageName.{PageName}
use Rattle.buftag.specs.Name.{file_of, name_of, Fits, name_bytes, hash_of, bucket_of, same_file}
use Rattle.buftag.specs.Names.{name_at, no_name}
use Rattle.buftag.specs.Link.{link_of}
use Rattle.bufmodel.specs.Word.{pins, usage, dirty, valid, tag_valid, just_dirtied, permanent, empty, sound_word, pinned, use_less}
use Rattle.bufmodel.specs.Position.{position, position_bytes}
use Rattle.bufmodel.specs.Checksum.{bare_from, sum_starts, sums, mix_sum, words_in, sum_to, sum_of, fold_to, checksum}
use Rattle.bufmodel.specs.Rows.{files, file_at, blocks_at, capacity_at, set_blocks, row_of, start_of, store_blocks, place_of}
use Rattle.bufmodel.specs.Memory.{Memory, memory, page_of, with_counts}
use Rattle.bufmodel.specs.Counts.{holders_of}
use Rattle.bufmodel.specs.Sizes.{RowsSound, SizedFor}
use Rattle.bufmodel.specs.Books.{BooksSound}
use Rattle.bufmodel.specs.Sweep.{next}
use Rattle.bufmodel.specs.Outcome.{zeros, one, two, done, refused}
use Rattle.bufmodel.specs.Pin.{held_in}
use Rattle.bufmodel.specs.Calls.{part}
use Rattle.bufmodel.specs.Lent.{Lent, answer_words, opened}

-- for each byte, exclusive-or it in, then multiply by 16777619, keeping the low 32 bits
abbrev pub fnv1a : List ℕ → ℕ → ℕ
fnv1a [] h = h
fnv1a (x ∷ xs) h = fnv1a xs (bit_xor x h * 16777619 % 4294967296)

pub record Numbers : Type 0 where
  -- ---- Page names
  -- A name is five 32-bit numbers: tablespace, database, relation, fork, block
  pub fits : (t d r f b : ℕ)
      → Fits (name_of t d r f b) ↔ ((t < 4294967296) × (d < 4294967296) × (r < 4294967296) × (f < 4294967296) × (b < 4294967296))
  -- As bytes: 20, in this order, with fork before block. Words are little-endian in bytes
  pub bytes : (t d r f b : ℕ) → name_bytes (name_of t d r f b)
      ≡ t % 256 ∷ t / 256 % 256 ∷ t / 65536 % 256 ∷ t / 16777216 % 256
      ∷ d % 256 ∷ d / 256 % 256 ∷ d / 65536 % 256 ∷ d / 16777216 % 256
      ∷ r % 256 ∷ r / 256 % 256 ∷ r / 65536 % 256 ∷ r / 16777216 % 256
      ∷ f % 256 ∷ f / 256 % 256 ∷ f / 65536 % 256 ∷ f / 16777216 % 256
      ∷ b % 256 ∷ b / 256 % 256 ∷ b / 65536 % 256 ∷ b / 16777216 % 256 ∷ []
  -- The hash is 32-bit FNV-1a over these bytes: start from 2166136261
  pub hash : (n : PageName) → hash_of n ≡ fnv1a (name_bytes n) 2166136261
  -- Bucket = hash modulo B
  pub bucket : (n : PageName) (b : ℕ) → bucket_of n b ≡ hash_of n % b
  -- A look-up answers either the buffer that has the page or that none has
  pub held : (m : Memory) (n : PageName) (b : BufferNumber) → held_in m n ≡ Some b
      → (b.0 < length m.states) × (get_or m.states b.0 0 ≢ 0) × (name_at m.names b.0 ≡ n)
  pub nowhere : (m : Memory) (n : PageName) → held_in m n ≡ None → (i : ℕ) → get_or m.states i 0 ≢ 0 → name_at m.names i ≢ n
  -- ---- State word
  -- Bits 0 to 17 pin count, 18 to 21 usage count
  pub pin_count : (w : ℕ) → pins w ≡ w % 262144
  pub usage_count : (w : ℕ) → usage w ≡ w / 262144 % 16
  -- dirty 23, valid 24, tag valid 25, just dirtied 28, permanent 31
  pub bit23 : (w : ℕ) → dirty w ≡ eqb (w / 8388608 % 2) 1
  pub bit24 : (w : ℕ) → valid w ≡ eqb (w / 16777216 % 2) 1
  pub bit25 : (w : ℕ) → tag_valid w ≡ eqb (w / 33554432 % 2) 1
  pub bit28 : (w : ℕ) → just_dirtied w ≡ eqb (w / 268435456 % 2) 1
  pub bit31 : (w : ℕ) → permanent w ≡ eqb (w / 2147483648 % 2) 1
  -- An empty buffer has word 0
  pub empty_word : (w : ℕ) → empty w ≡ eqb w 0
  pub zero_sound : (cap : ℕ) → sound_word cap 0 ≡ true
  -- usage count at most the cap. Any other has valid, tag valid and permanent, and has dirty and just dirtied both or neither; every other
  -- flag is 0 between calls
  pub sound : (cap w : ℕ) → w ≢ 0
      → (sound_word cap w ≡ true)
      ↔ ((w / 262144 % 16 ≤ cap) × (w / 16777216 % 2 ≡ 1) × (w / 33554432 % 2 ≡ 1) × (w / 2147483648 % 2 ≡ 1)
      × (w / 8388608 % 2 ≡ w / 268435456 % 2)
      × (w / 4194304 % 2 ≡ 0)
      × (w / 67108864 % 2 ≡ 0)
      × (w / 134217728 % 2 ≡ 0)
      × (w / 536870912 % 2 ≡ 0)
      × (w / 1073741824 % 2 ≡ 0))
  -- pinned is passed
  pub pinned_word : (w : ℕ) → pinned w ≡ not (eqb (w % 262144) 0)
  -- the word counts the holders whose private count isn't 0: N × 64, buffer by buffer (document 02)
  pub holders : (counts : List ℕ) (i : ℕ) → holders_of counts i ≡ count 64 (λ h. not (eqb (get_or counts (i * 64 + h) 0) 0))
  pub counted : (m : Memory) → BooksSound m → (i : ℕ) → i < length m.states
      → get_or m.states i 0 % 262144 ≡ count 64 (λ h. not (eqb (get_or m.counts (i * 64 + h) 0) 0))
  -- unpinned with usage above 0 loses one
  pub lowered : (w : ℕ) → 0 < w / 262144 % 16 → use_less w ≡ w - 262144
  -- moves the hand on, wrapping at N
  pub onward : (n hand : ℕ) → next n hand ≡ cond (eqb (hand + 1) n) 0 (hand + 1)
  -- ---- Lent memory
  -- Control record: P, the hand, top of the free list (−1 when it is empty), inserted and flushed log positions, the cap; −1 as 64 one bits
  pub control : (m : Lent) → let c = m.control in
      opened m
      ≡ with_counts m.counts
      (memory
      (record {
        size = get_or c 0 0;
        hand = get_or c 1 0;
        top = cond (eqb (get_or c 2 0) 18446744073709551615) (negsuc 0) (pos (get_or c 2 0));
        inserted = get_or c 3 0;
        flushed = get_or c 4 0;
        cap = get_or c 5 0;
      })
      m.states m.names m.pool m.free m.heads m.chain m.rows m.store)
  -- N names (five words each); empty buffers have names of zeros
  pub names : (ws : List ℕ) (i : ℕ) → name_at ws i
      ≡ name_of (get_or ws (5 * i) 0) (get_or ws (5 * i + 1) 0) (get_or ws (5 * i + 2) 0) (get_or ws (5 * i + 3) 0) (get_or ws (5 * i + 4) 0)
  pub blank : no_name ≡ name_of 0 0 0 0 0
  -- −1 ends the list, −2 means not in it; any other negative number is no link
  pub place : (i : ℕ) → link_of (pos i) ≡ To i
  pub end : link_of (negsuc 0) ≡ End
  pub off : link_of (negsuc 1) ≡ Off
  pub bad : (k : ℕ) → link_of (negsuc (suc (suc k))) ≡ Bad
  -- F file rows of six 32-bit words: tablespace, database, relation, fork, blocks, capacity
  pub many : (rows : List ℕ) → files rows ≡ length rows / 6
  pub file : (rows : List ℕ) (r : ℕ) → file_at rows r
      ≡ file_of (get_or rows (6 * r) 0) (get_or rows (6 * r + 1) 0) (get_or rows (6 * r + 2) 0) (get_or rows (6 * r + 3) 0)
  pub blocks : (rows : List ℕ) (r : ℕ) → blocks_at rows r ≡ get_or rows (6 * r + 4) 0
  pub capacity : (rows : List ℕ) (r : ℕ) → capacity_at rows r ≡ get_or rows (6 * r + 5) 0
  pub recount : (rows : List ℕ) (r b : ℕ) → set_blocks rows r b ≡ set rows (6 * r + 4) b
  -- a row with these four
  pub row : (rows : List ℕ) (f : FileName) → row_of rows f ≡ first (length rows / 6) (λ r. same_file (file_at rows r) f)
  pub four : (t d r f u e s g : ℕ)
      → same_file (file_of t d r f) (file_of u e s g) ≡ (((eqb t u && eqb d e) && eqb r s) && eqb f g)
  -- The store: files in row order, each with its full capacity
  pub start : (rows : List ℕ) → start_of rows 0 ≡ 0
  pub later : (rows : List ℕ) (r : ℕ) → start_of rows (r + 1) ≡ start_of rows r + capacity_at rows r
  pub whole : (rows : List ℕ) → store_blocks rows ≡ start_of rows (length rows / 6)
  -- a page's place: its block in its file, if that has so many
  pub page : (rows : List ℕ) (n : PageName) (r : ℕ) → row_of rows n.file ≡ found r
      → place_of rows n ≡ cond (ltb n.block.0 (get_or rows (6 * r + 4) 0)) (found (start_of rows r + n.block.0)) missing
  pub no_page : (rows : List ℕ) (n : PageName) → row_of rows n.file ≡ missing → place_of rows n ≡ missing
  -- its P bytes, in the store and in the N × P pool bytes
  pub stored : (p g : ℕ) (xs : List ℕ) → block p g xs ≡ take p (drop (g * p) xs)
  pub pooled : (m : Memory) (i : ℕ) → page_of m i ≡ take m.control.size (drop (i * m.control.size) m.pool)
  -- ---- The log position of a page is its first 8 bytes: high 32 bits as a word, then low 32 bits as a word
  pub position8 : (a b c d e f g h : ℕ) (xs : List ℕ) → position (a ∷ b ∷ c ∷ d ∷ e ∷ f ∷ g ∷ h ∷ xs)
      ≡ a * 4294967296 + b * 1099511627776 + c * 281474976710656 + d * 72057594037927936
      + e + f * 256 + g * 65536 + h * 16777216
  pub bytes8 : (p : ℕ) → position_bytes p
      ≡ p / 4294967296 % 256 ∷ p / 1099511627776 % 256 ∷ p / 281474976710656 % 256 ∷ p / 72057594037927936 % 256
      ∷ p % 256 ∷ p / 256 % 256 ∷ p / 65536 % 256 ∷ p / 16777216 % 256 ∷ []
  -- ---- Checksum, as checksum_impl.h computes it
  -- its own two bytes, 8 and 9 of the page, count as zeros in it; these two are left out where document 02 leaves them out. Bytes from byte
  -- s of a page on have as many, and the others are as they were
  pub left_out : (s k : ℕ) (xs : List ℕ) → (s + k ≡ 8) ⊎ (s + k ≡ 9) → get_or (bare_from s xs) k 0 ≡ 0
  pub kept_in : (s k : ℕ) (xs : List ℕ) → s + k ≢ 8 → s + k ≢ 9 → get_or (bare_from s xs) k 0 ≡ get_or xs k 0
  pub as_many : (s : ℕ) (xs : List ℕ) → length (bare_from s xs) ≡ length xs
  -- 32 sums from the starting words
  pub starts : (sums ≡ 32) × (sum_starts
      ≡ 0x5B1F36E9 ∷ 0xB8525960 ∷ 0x02AB50AA ∷ 0x1DE66D2A ∷ 0x79FF467A ∷ 0x9BB9F8A3 ∷ 0x217E7CD2 ∷ 0x83E13D2C
      ∷ 0xF8D4474F ∷ 0xE39EB970 ∷ 0x42C6AE16 ∷ 0x993216FA ∷ 0x7B093B5D ∷ 0x98DAFF3C ∷ 0xF718902A ∷ 0x0B1C9CDB
      ∷ 0xE58F764B ∷ 0x187636BC ∷ 0x5D7B3BB1 ∷ 0xE73DE7DE ∷ 0x92BEC979 ∷ 0xCCA6C0B2 ∷ 0x304A0979 ∷ 0x85AA43D4
      ∷ 0x783125BB ∷ 0x6CA8EAA2 ∷ 0xE407EAC6 ∷ 0x4B5CFC3E ∷ 0x9FBF8C76 ∷ 0x15CA20BE ∷ 0xF2CA9FD3 ∷ 0x959BD756 ∷ [])
  -- CHECKSUM_COMP: exclusive-or, then the low 32 bits of the product with FNV's prime, exclusive-or the former shifted right by 17
  pub round : (v s : ℕ) → mix_sum v s ≡ bit_xor (bit_xor v s * 16777619 % 4294967296) (bit_xor v s / 131072)
  -- words are little-endian in bytes
  pub words : (a b c d : ℕ) (xs : List ℕ)
      → words_in (a ∷ b ∷ c ∷ d ∷ xs) ≡ (a + b * 256 + c * 65536 + d * 16777216) ∷ words_in xs
  pub no_words : words_in [] ≡ []
  -- each row has a word for each sum; then two rounds of zeros
  pub sum_start : (ws : List ℕ) (j : ℕ) → sum_to ws j 0 ≡ get_or sum_starts j 0
  pub sum_row : (ws : List ℕ) (j i : ℕ) → sum_to ws j (suc i) ≡ mix_sum (get_or ws (i * 32 + j) 0) (sum_to ws j i)
  pub sum_end : (ws : List ℕ) (j : ℕ) → sum_of ws j ≡ mix_sum 0 (mix_sum 0 (sum_to ws j (length ws / 32)))
  -- all exclusive-ored together, then the block number, modulo 65,535 and one more: never 0
  pub no_sums : (ws : List ℕ) → fold_to ws 0 ≡ 0
  pub one_more : (ws : List ℕ) (j : ℕ) → fold_to ws (suc j) ≡ bit_xor (fold_to ws j) (sum_of ws j)
  pub checksum_of : (b : ℕ) (page : List ℕ)
      → checksum b page ≡ bit_xor (fold_to (words_in (bare_from 0 page)) 32) b % 65535 + 1
  -- ---- Limits
  -- F from 0 to 64. Blocks ≤ capacity; capacities sum to at most 65,536; no two rows have equal first four numbers; fork ≤ 2
  pub rows : (rows : List ℕ)
      → RowsSound rows
      ↔ ((length rows % 6 ≡ 0) × (length rows / 6 ≤ 64) × (store_blocks rows ≤ 65536)
      × ((r : ℕ) → r < length rows / 6 → get_or rows (6 * r + 3) 0 ≤ 2)
      × ((r : ℕ) → r < length rows / 6 → get_or rows (6 * r + 4) 0 ≤ get_or rows (6 * r + 5) 0)
      × ((r s : ℕ) → r < length rows / 6 → s < r → file_at rows s ≢ file_at rows r))
  -- N from 1 to 1,024; P is 1024, 2048, 4096, 8192, 16384 or 32768; B from N to 4,096; the store: P × (sum of capacities) bytes; N × 64
  -- private counts
  pub sizes : (p : ℕ) (m : Memory) → let n = length m.states in
      SizedFor p m
      ↔ (((p ≡ 1024) ⊎ (p ≡ 2048) ⊎ (p ≡ 4096) ⊎ (p ≡ 8192) ⊎ (p ≡ 16384) ⊎ (p ≡ 32768))
      × (1 ≤ n) × (n ≤ 1024) × (n ≤ length m.heads) × (length m.heads ≤ 4096)
      × (length m.names ≡ 5 * n) × (length m.pool ≡ n * p) × (length m.free ≡ n) × (length m.chain ≡ n)
      × RowsSound m.rows × (length m.store ≡ store_blocks m.rows * p)
      × (length m.counts ≡ n * 64))
  -- ---- the answer's parts in four words, unused ones 0; with 1 for pool; a peeked part as pool or store and a byte offset; refused: empty
  pub answer : (answer_words ≡ 4) × (zeros ≡ 0 ∷ 0 ∷ 0 ∷ 0 ∷ [])
  pub parts : (a b : ℕ) → (one a ≡ a ∷ 0 ∷ 0 ∷ 0 ∷ []) × (two a b ≡ a ∷ b ∷ 0 ∷ 0 ∷ [])
  pub of_store : (m : Memory) (at : ℕ) (xs own : List ℕ)
      → part (done (0 ∷ at ∷ xs) own m) ≡ take m.control.size (drop at m.store)
  pub of_pool : (m : Memory) (at : ℕ) (xs own : List ℕ)
      → part (done (1 ∷ at ∷ xs) own m) ≡ take m.control.size (drop at m.pool)
  pub no_part : (m : Memory) (k : ℕ) (own : List ℕ) → part (refused (suc k) own m) ≡ []
