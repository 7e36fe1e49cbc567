-- Wrong pools: each does one thing wrong, which a short list of calls shows. Checksums, set at write-back and verified where a block comes
-- from the store.
use Rattle.std.specs.Prelude.{ℕ, suc, ◌+◌, ◌-◌, ◌*◌, ◌/◌, ◌%◌, Bool, true, ◌||◌, cond, List, [], ◌∷◌, map, get_or, take, drop, replicate, eqb}
use Rattle.std.specs.Int.Bits.{bit_xor}
use Rattle.laws.specs.Block.{put_block}
use Rattle.buftag.specs.Name.{same_file}
use Rattle.bufmodel.specs.Word.{pinned}
use Rattle.bufmodel.specs.Position.{paste}
use Rattle.bufmodel.specs.Checksum.{bare, sum_in, sums, words_in, fold_to, checksum, all_zero, sealed, passes}
use Rattle.bufmodel.specs.Rows.{set_blocks}
use Rattle.bufmodel.specs.Memory.{Memory, cap_of, word_of, page_of, with_states, with_pool, with_rows, with_store, with_hand}
use Rattle.bufmodel.specs.Sweep.{sweep_all}
use Rattle.bufmodel.specs.Outcome.{two, done, refused}
use Rattle.bufmodel.specs.Pin.{held_in, pin_to}
use Rattle.bufmodel.specs.Step.{Read, Write, Checkpoint, Extend, Drop}
use Rattle.bufmodel.specs.Lent.{Lent, opened, closed}
use Rattle.shelf.specs.Statement.{Pool}
use Rattle.shelf.specs.Tests.{Number, Others, Sums, Same, Bytes, Pages, Store}
use Rattle.shelf.specs.Trial.{
  size,
  bench_with,
  block_with,
  summed,
  unsummed,
  sales,
  stock,
  pin,
  unpin,
  flush,
  peek,
  write,
  exchange,
  Wrong,
  wrong_on,
  wrong,
}
use Rattle.shelf.specs.Changes.{
  Change,
  if_refused,
  if_accepted,
  pins,
  reads,
  writes,
  flushes,
  checkpoints,
  peeks,
  extends,
  drops,
  filling,
  leaving,
  said,
  refuses,
}

-- a page with a number in bytes 8 and 9
abbrev summed_by : ℕ → List ℕ → List ℕ
summed_by s page = paste 8 (s % 256 ∷ s / 256 ∷ []) page

-- the checksum of block 0 with the page's own two bytes in it
abbrev uncleared_sum : List ℕ → ℕ
uncleared_sum page = bit_xor (fold_to (words_in page) sums) 0 % 65535 + 1

-- buffer 0's page goes to place g of the store another way
abbrev out_as : ℕ → (List ℕ → List ℕ) → Change
out_as g f m c o = leaving (λ k. with_store (put_block size g (f (page_of m 0)) k.store) k) o

-- on a bench of one buffer: the block of stock; pins that pass it by another test; pins of stock that are always refused
abbrev stocked : Memory → List ℕ
stocked m = drop size m.store

abbrev verifies : (List ℕ → Bool) → Pool
verifies test =
    pins (λ m c o. let taken = pin_to m c.holder c.page (held_in m c.page) in cond (test (stocked m)) taken (refused 17 [] m))

abbrev always_bad : Pool
always_bad = pins (λ m c o. cond (same_file c.page.file stock) (refused 17 [] m) o)

-- a bad block of stock, at its file's block count
abbrev uncounted : Lent
uncounted = let m = opened (unsummed 1) in closed (with_rows (set_blocks m.rows 1 0) m)

-- what a sweep leaves
abbrev swept_by : Memory → Memory
swept_by m = let s = sweep_all (cap_of m) m.states m.control.hand in with_hand s.hand (with_states s.words m)

-- ---- at write-back
unfoldable pub wrong_sums : List Wrong
wrong_sums =
    -- a flush sets no checksum
    wrong (flushes (out_as 0 (λ page. page))) 1 (pin sales 0 ∷ write 0 77 100 ∷ flush 0 ∷ []) Sums
    -- a checkpoint sets none
    ∷ wrong (checkpoints (out_as 0 (λ page. page))) 1 (pin sales 0 ∷ write 0 77 100 ∷ Checkpoint ∷ []) Sums
    -- a victim gets none
    ∷ wrong (pins (λ m c o. let o' = out_as 0 (λ page. page) m c o in cond (eqb (said o 2) 1) o' o)) 1 exchange Sums
    -- the page's place in the store is taken for its block number
    ∷ wrong (flushes (out_as 1 (λ page. summed_by (checksum 1 page) page))) 1 (pin stock 0 ∷ write 0 77 100 ∷ flush 0 ∷ []) Sums
    -- the block number is left out
    ∷ wrong (flushes (out_as 1 (λ page. summed_by (checksum 0 page) page))) 2 (pin sales 1 ∷ write 0 77 100 ∷ flush 0 ∷ []) Sums
    -- the high byte comes first
    ∷ wrong (flushes (out_as 0 (λ page. let s = checksum 0 page in paste 8 (s / 256 ∷ s % 256 ∷ []) page))) 1
    (pin sales 0 ∷ write 0 77 100 ∷ flush 0 ∷ []) Sums
    -- the page's own two bytes count
    ∷ wrong (flushes (out_as 0 (λ page. summed_by (uncleared_sum page) page))) 1
    (pin sales 0 ∷ Write 0 0 8 (5 ∷ 6 ∷ []) 100 ∷ flush 0 ∷ []) Sums
    -- modulo 65,535, and not one more
    ∷ wrong (flushes (out_as 0 (λ page. summed_by (checksum 0 page - 1) page))) 1 (pin sales 0 ∷ write 0 77 100 ∷ flush 0 ∷ []) Sums
    -- a page of zeros is given a checksum
    ∷ wrong (flushes (out_as 0 (λ page. summed_by (checksum 0 page) page))) 1 (pin sales 0 ∷ write 0 0 0 ∷ flush 0 ∷ []) Store
    -- a page of zeros but for bytes 8 and 9 goes out as zeros
    ∷ wrong (flushes (out_as 0 (λ page. replicate size 0))) 1 (pin sales 0 ∷ Write 0 0 8 (5 ∷ []) 0 ∷ flush 0 ∷ []) Store
    -- the block of an extend is given a checksum
    ∷ wrong (extends (out_as 1 (λ page. let blank = replicate size 0 in summed_by (checksum 0 blank) blank))) 1
    (Drop stock ∷ Extend stock ∷ []) Store
    -- a checkpoint gives a block that came in bad its checksum
    ∷ wrong_on (unsummed 1) (checkpoints (λ m c o. leaving (λ k. with_store (put_block size 1 (sealed 0 (stocked m)) k.store) k) o))
    (Checkpoint ∷ []) Others
    ∷ []

-- ---- the page in the pool keeps its own two bytes
unfoldable pub wrong_bytes : List Wrong
wrong_bytes =
    -- a flush puts the checksum there too
    wrong (flushes (λ m c o. leaving (λ k. with_pool (take size k.store) k) o)) 1 (pin sales 0 ∷ write 0 77 100 ∷ flush 0 ∷ []) Pages
    -- so does a checkpoint
    ∷ wrong (checkpoints (λ m c o. leaving (λ k. with_pool (take size k.store) k) o)) 1
    (pin sales 0 ∷ write 0 77 100 ∷ Checkpoint ∷ []) Pages
    -- a write sets it
    ∷ wrong (writes (λ m c o. leaving (λ k. with_pool (sealed 0 k.pool) k) o)) 1 (pin sales 0 ∷ write 0 77 100 ∷ []) Pages
    -- a flush clears the two
    ∷ wrong (flushes (λ m c o. leaving (λ k. with_pool (summed_by 0 k.pool) k) o)) 1
    (pin sales 0 ∷ Write 0 0 8 (5 ∷ 6 ∷ []) 100 ∷ flush 0 ∷ []) Pages
    -- a write does not reach them
    ∷ wrong (writes (λ m c o. leaving (λ k. with_pool (summed_by 0 k.pool) k) o)) 1 (pin sales 0 ∷ Write 0 0 8 (5 ∷ 6 ∷ []) 100 ∷ []) Pages
    -- a load clears them
    ∷ wrong_on (summed 1) (pins (λ m c o. leaving (λ k. with_pool (summed_by 0 k.pool) k) o)) (pin stock 0 ∷ []) Pages
    -- a read fills others
    ∷ wrong (reads (if_accepted (λ m c o. filling (map suc o.bytes) o))) 1 (pin sales 0 ∷ Read 0 0 8 (0 ∷ 0 ∷ []) ∷ []) Bytes
    ∷ []

-- ---- verified
unfoldable pub wrong_verified : List Wrong
wrong_verified =
    -- a bad block is pinned
    wrong_on (bench_with 1 (block_with 15 223 76)) (verifies (λ page. true)) (pin stock 0 ∷ []) Number
    -- one without a checksum is
    ∷ wrong_on (unsummed 1) (verifies (λ page. eqb (sum_in page) 0 || passes 0 page)) (pin stock 0 ∷ []) Number
    -- so is one of zeros but for bytes 8 and 9
    ∷ wrong_on (bench_with 1 (block_with 1 0 0)) (verifies (λ page. all_zero (bare page) || passes 0 page)) (pin stock 0 ∷ []) Number
    -- the low byte is compared alone
    ∷ wrong_on (bench_with 1 (block_with 15 222 77)) (verifies (λ page. eqb (get_or page 8 0) (checksum 0 page % 256))) (pin stock 0 ∷ []) Number
    -- the high byte comes first
    ∷ wrong_on (summed 1) (verifies (λ page. eqb (get_or page 8 0 * 256 + get_or page 9 0) (checksum 0 page))) (pin stock 0 ∷ []) Number
    -- the page's own two bytes count
    ∷ wrong_on (summed 1) (verifies (λ page. eqb (sum_in page) (uncleared_sum page))) (pin stock 0 ∷ []) Number
    -- its place in the store is taken for its block number
    ∷ wrong_on (summed 1) (verifies (passes 1)) (pin stock 0 ∷ []) Number
    -- a block with the checksum of that number passes
    ∷ wrong_on (bench_with 1 (block_with 14 223 77)) (verifies (passes 1)) (pin stock 0 ∷ []) Number
    -- zeros are refused
    ∷ wrong (verifies (λ page. eqb (sum_in page) (checksum 0 page))) 1 (pin stock 0 ∷ []) Number
    -- a bad block is peeked
    ∷ wrong_on (unsummed 1) (peeks (if_refused (λ m c o. done (two 0 size) [] m))) (peek stock 0 ∷ []) Number
    -- a peek of zeros is refused
    ∷ wrong (peeks (λ m c o. refused 17 [] m)) 1 (peek stock 0 ∷ []) Number
    ∷ []

-- ---- 17, after 4, before a victim is sought
unfoldable pub wrong_refused : List Wrong
wrong_refused =
    -- it stands behind 6
    wrong_on (unsummed 1) (pins (if_refused (λ m c o. cond (pinned (word_of m 0)) (refused 6 [] m) o))) (pin sales 0 ∷ pin stock 0 ∷ []) Number
    -- before 4
    ∷ wrong_on uncounted (pins (if_refused (λ m c o. refused 17 [] m))) (pin stock 0 ∷ []) Number
    -- at a peek too
    ∷ wrong_on uncounted (peeks (if_refused (λ m c o. refused 17 [] m))) (peek stock 0 ∷ []) Number
    -- a bad block is so for ever, its file dropped and extended again
    ∷ wrong_on (unsummed 1) always_bad (pin stock 0 ∷ Drop stock ∷ Extend stock ∷ pin stock 0 ∷ []) Number
    -- so is one that was at its file's block count at set-up
    ∷ wrong_on uncounted always_bad (Extend stock ∷ pin stock 0 ∷ []) Number
    -- that extend is refused
    ∷ wrong_on uncounted (extends (λ m c o. refused 17 [] m)) (Extend stock ∷ []) Number
    -- so is the drop of a file with a bad block
    ∷ wrong_on (unsummed 1) (drops (λ m c o. refused 17 [] m)) (Drop stock ∷ []) Number
    -- a victim is sought first
    ∷ wrong_on (unsummed 1) (refuses swept_by) (pin sales 0 ∷ unpin 0 ∷ pin stock 0 ∷ []) Same
    -- the block comes into the pool before it is refused
    ∷ wrong_on (unsummed 1) (refuses (λ m. with_pool (stocked m) m)) (pin stock 0 ∷ []) Same
    -- the refused block gets its checksum
    ∷ wrong_on (unsummed 1) (refuses (λ m. with_store (put_block size 1 (sealed 0 (stocked m)) m.store) m)) (pin stock 0 ∷ []) Others
    ∷ []
