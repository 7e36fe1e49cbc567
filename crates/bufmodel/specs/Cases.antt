-- The marked cases A to J of document 01 ("Pages on the bench"), and unmarked ones: one list, which one theorem covers.
use Rattle.std.specs.Prelude.{ℕ, zero, suc, ◌+◌, ◌^◌, ◌≡◌, refl, List, [], ◌∷◌, ◌++◌, get_or, replicate, pos, negsuc}
use Rattle.buftag.specs.Name.{name_of, name_bytes}
use Rattle.bufmodel.specs.Position.{position, position_bytes}
use Rattle.bufmodel.specs.Memory.{with_counts}
use Rattle.bufmodel.specs.Outcome.{zeros}
use Rattle.bufmodel.specs.Calls.{set_up}
use Rattle.bufmodel.specs.Step.{
  Call,
  Pin,
  Unpin,
  Read,
  Write,
  Flush,
  GiveBack,
  Checkpoint,
  Extend,
  Drop,
  LogInserted,
  LogFlushed,
}
use Rattle.bufmodel.specs.Bench.{bench, file, block_by, block, two_files, damaged, map_file, map_block, map_peek, peek}
use Rattle.bufmodel.specs.Seen.{
  after,
  warmed,
  seen,
  seen_at,
  seen_then,
  seen_along,
  clock,
  holders,
  bytes,
  blocks,
  told,
  seen_store,
  seen_counts,
  seen_count,
  seen_word,
  links_after,
  A,
  B,
  C,
  D,
  E,
  F,
  G,
  H,
  I,
  J,
  unmarked,
  links,
  Case,
  case,
  linked,
  just,
  given,
  said,
  joined,
}

-- number and answer of an accepted pin, buffer, loaded, wrote nothing, probes; of one that was a hit; of an accepted call that answers a
-- count or a block number; and a number with zeros
abbrev at : ℕ → ℕ → List ℕ
at buffer probes = 0 ∷ buffer ∷ 0 ∷ 0 ∷ probes ∷ []

abbrev hit : ℕ → List ℕ
hit buffer = 0 ∷ buffer ∷ 1 ∷ 0 ∷ 0 ∷ []

abbrev counted : ℕ → List ℕ
counted k = 0 ∷ k ∷ 0 ∷ 0 ∷ 0 ∷ []

abbrev only : ℕ → List ℕ
only k = k ∷ zeros

-- ---- lists of calls. Where no holder is named, it is holder 0
abbrev unpin : ℕ → Call
unpin = Unpin 0

abbrev flush : ℕ → Call
flush = Flush 0

-- a call by each of n holders, the first of which is h
abbrev each : (ℕ → Call) → ℕ → ℕ → List Call
each call h zero = []
each call h (suc n) = call h ∷ each call (suc h) n

-- blocks 0, 1, 2 pinned; then all unpinned
abbrev three : List Call
three = block 0 ∷ block 1 ∷ block 2 ∷ []

abbrev unpinned : List Call
unpinned = three ++ (unpin 0 ∷ unpin 1 ∷ unpin 2 ∷ [])

-- buffers 0 and 1 pinned, 2 unpinned with usage 5: five holders pin its page, then all unpin it
abbrev clocked : List Call
clocked = three ++ (each (λ h. block_by h 2) 1 4 ++ each (λ h. Unpin h 2) 0 5)

abbrev write : ℕ → Call
write position = Write 0 0 8 (1 ∷ []) position

-- block 0 written to and unpinned; then its buffer taken by block 3, and from that by block 0 again
abbrev dirtied : List Call
dirtied = three ++ (Write 0 0 10 (77 ∷ 78 ∷ []) 90 ∷ unpin 0 ∷ [])

abbrev back : List Call
back = block 3 ∷ unpin 0 ∷ block 0 ∷ []

-- the table's block 0 and the map's blocks 1 and 0 in the buffers 0, 1, 2; then all three written to, the second one flushed, twice, and
-- the others left to a checkpoint, twice
abbrev spread : List Call
spread = block 0 ∷ map_block 1 ∷ map_block 0 ∷ []

abbrev settled : List Call
settled =
    Write 0 1 12 (77 ∷ []) 91
    ∷ flush 1
    ∷ flush 1
    ∷ Write 0 0 12 (78 ∷ []) 90
    ∷ Write 0 2 12 (79 ∷ []) 92
    ∷ Checkpoint
    ∷ Checkpoint
    ∷ []

-- Holder 0 has block 0 twice and block 1, holder 1 has block 1, holder 63 block 2
abbrev shared : List Call
shared = block 0 ∷ block 0 ∷ block 1 ∷ block_by 1 1 ∷ block_by 63 2 ∷ []

-- each call that names a holder, of holder 64, on no page and no buffer
abbrev beyond : List Call
beyond = Pin 64 (name_of 9 9 9 0 9) ∷ Unpin 64 9 ∷ Read 64 9 0 [] ∷ Write 64 9 0 [] 0 ∷ Flush 64 9 ∷ GiveBack 64 ∷ []

-- document 01's, and others on the bench
unfoldable pub bench_cases : List Case
bench_cases =
    -- Name {16821, 16384, 37721, 0, 7}
    case A (name_bytes (name_of 16821 16384 37721 0 7) ∷ [])
    ((0xB5 ∷ 0x41 ∷ 0 ∷ 0 ∷ 0 ∷ 0x40 ∷ 0 ∷ 0 ∷ 0x59 ∷ 0x93 ∷ 0 ∷ 0 ∷ 0 ∷ 0 ∷ 0 ∷ 0 ∷ 7 ∷ 0 ∷ 0 ∷ 0 ∷ []) ∷ [])
    -- Position 0x116B374D0
    ∷ case B (position_bytes 0x116B374D0 ∷ []) ((1 ∷ 0 ∷ 0 ∷ 0 ∷ 0xD0 ∷ 0x74 ∷ 0xB3 ∷ 0x16 ∷ []) ∷ [])
    ∷ case B (just (position (1 ∷ 0 ∷ 0 ∷ 0 ∷ 0xD0 ∷ 0x74 ∷ 0xB3 ∷ 0x16 ∷ []))) (just 0x116B374D0)
    -- Pin blocks 0, 1, 2: buffers 0, 1, 2, probes 0, word 0x83040001
    ∷ case C (seen_then clock bench [] three) (at 0 0 ∷ at 1 0 ∷ at 2 0 ∷ (0 ∷ 0x83040001 ∷ 0x83040001 ∷ 0x83040001 ∷ []) ∷ [])
    -- Now pin block 3: 6, hand 0
    ∷ case D (seen_then clock bench three (block 3 ∷ [])) (only 6 ∷ (0 ∷ 0x83040001 ∷ 0x83040001 ∷ 0x83040001 ∷ []) ∷ [])
    -- After C unpin all, pin block 3: buffer 0, probes 4, hand 1. Then block 0: buffer 1, probes 1, hand 2
    ∷ case E (seen_along clock bench unpinned (block 3 ∷ block 0 ∷ []))
    ((0 ∷ 0x83040000 ∷ 0x83040000 ∷ 0x83040000 ∷ [])
    ∷ at 0 4
    ∷ (1 ∷ 0x83040001 ∷ 0x83000000 ∷ 0x83000000 ∷ [])
    ∷ at 1 1
    ∷ (2 ∷ 0x83040001 ∷ 0x83040001 ∷ 0x83000000 ∷ [])
    ∷ [])
    -- One page pinned by six holders; and by one holder six times, private count 6
    ∷ case F (seen_then (holders 2) bench (each (λ h. block_by h 0) 0 6) [])
    ((0x83140006 ∷ 1 ∷ 1 ∷ []) ∷ (0 ∷ 0 ∷ 0 ∷ []) ∷ (0 ∷ 0 ∷ 0 ∷ []) ∷ [])
    ∷ case F (seen_then (holders 2) bench (replicate 6 (block 0)) [])
    ((0x83040001 ∷ 6 ∷ 0 ∷ []) ∷ (0 ∷ 0 ∷ 0 ∷ []) ∷ (0 ∷ 0 ∷ 0 ∷ []) ∷ [])
    -- C, then a write to buffer 0
    ∷ case G (just (get_or (after bench (three ++ (write 100 ∷ []))).states 0 0)) (just 0x93840001)
    -- Buffers 0, 1 pinned, 2 unpinned with usage 5, hand 0: probes 18
    ∷ case H (seen_along clock bench clocked (block 3 ∷ []))
    ((0 ∷ 0x83040001 ∷ 0x83040001 ∷ 0x83140000 ∷ []) ∷ at 2 18 ∷ (0 ∷ 0x83040001 ∷ 0x83040001 ∷ 0x83040001 ∷ []) ∷ [])
    -- Inserted 100: position 101 gives 11, 100 passes; page at 100, position 99: 12
    ∷ case I (seen bench three (write 101 ∷ write 100 ∷ write 99 ∷ [])) (only 11 ∷ only 0 ∷ only 12 ∷ [])
    -- After C unpin all, drop: free list 2, 1, 0. Its top is 2; the links of the buffers 0, 1, 2 are −1, 0, 1
    ∷ case J (seen bench unpinned (Drop file ∷ [])) (only 0 ∷ [])
    ∷ linked J (links_after bench (unpinned ++ (Drop file ∷ []))) (links (negsuc 0 ∷ pos 0 ∷ pos 1 ∷ []) (pos 2))
    -- A page that is loaded, and the same page held: hit
    ∷ case unmarked (seen bench (block 0 ∷ block 1 ∷ []) (block 2 ∷ block 2 ∷ [])) (at 2 0 ∷ hit 2 ∷ [])
    -- A dirty victim is written back before its buffer is loaded again, a clean one is not; the page comes back with what was written,
    -- and with the checksum that write-back gave it
    ∷ case unmarked (seen_then (bytes 0 4 8) bench dirtied back)
    ((0 ∷ 0 ∷ 0 ∷ 1 ∷ 4 ∷ []) ∷ only 0 ∷ at 0 6 ∷ (90 ∷ 0 ∷ 0 ∷ 0 ∷ 141 ∷ 142 ∷ 77 ∷ 78 ∷ []) ∷ [])
    -- From C: the control words are P, hand, top of the free list with −1 as 64 one bits, inserted, flushed, cap
    ∷ case unmarked
    (told bench unpinned (1024 ∷ 2 ∷ 18446744073709551615 ∷ 200 ∷ 150 ∷ 7 ∷ [])
    (LogInserted 300 ∷ LogFlushed 180 ∷ block 3 ∷ unpin 2 ∷ Drop file ∷ []))
    (only 0
    ∷ (1024 ∷ 2 ∷ 18446744073709551615 ∷ 300 ∷ 150 ∷ 7 ∷ [])
    ∷ only 0
    ∷ (1024 ∷ 2 ∷ 18446744073709551615 ∷ 300 ∷ 180 ∷ 7 ∷ [])
    ∷ at 2 4
    ∷ (1024 ∷ 0 ∷ 18446744073709551615 ∷ 300 ∷ 180 ∷ 7 ∷ [])
    ∷ only 0
    ∷ (1024 ∷ 0 ∷ 18446744073709551615 ∷ 300 ∷ 180 ∷ 7 ∷ [])
    ∷ only 0
    ∷ (1024 ∷ 0 ∷ 2 ∷ 300 ∷ 180 ∷ 7 ∷ [])
    ∷ [])
    ∷ []

-- two files
unfoldable pub file_cases : List Case
file_cases =
    -- Two files: the map's pages are read from their places behind the table's full capacity, and flush and checkpoint put them there. A
    -- peek of a page in the pool, and of one in the store: 1 or 0, and the byte offset
    case unmarked
    (seen_then (λ m. bytes 1 8 4 m ++ bytes 2 8 4 m) two_files (block 0 ∷ map_block 1 ∷ []) (map_peek 1 ∷ map_peek 0 ∷ map_block 0 ∷ []))
    ((0 ∷ 1 ∷ 1024 ∷ 0 ∷ 0 ∷ [])
    ∷ (0 ∷ 0 ∷ 2048 ∷ 0 ∷ 0 ∷ [])
    ∷ at 2 0
    ∷ (218 ∷ 199 ∷ 13 ∷ 13 ∷ [])
    ∷ (55 ∷ 120 ∷ 12 ∷ 12 ∷ [])
    ∷ [])
    ∷ case unmarked (seen_then blocks two_files spread settled)
    (only 0
    ∷ counted 1
    ∷ counted 0
    ∷ only 0
    ∷ only 0
    ∷ counted 2
    ∷ counted 0
    ∷ (90 ∷ 0 ∷ 0 ∷ 0 ∷ 213 ∷ 107 ∷ 0 ∷ 0 ∷ 78 ∷ [])
    ∷ (0 ∷ 0 ∷ 0 ∷ 0 ∷ 11 ∷ 0 ∷ 11 ∷ 11 ∷ 0 ∷ [])
    ∷ (92 ∷ 0 ∷ 0 ∷ 0 ∷ 131 ∷ 187 ∷ 12 ∷ 12 ∷ 79 ∷ [])
    ∷ (91 ∷ 0 ∷ 0 ∷ 0 ∷ 32 ∷ 250 ∷ 13 ∷ 13 ∷ 77 ∷ [])
    ∷ (0 ∷ 0 ∷ 0 ∷ 0 ∷ 14 ∷ 0 ∷ 14 ∷ 14 ∷ 0 ∷ [])
    ∷ [])
    -- An extend's block is the next one of its file
    ∷ case unmarked (seen_then blocks two_files [] (Extend file ∷ Extend map_file ∷ Extend map_file ∷ []))
    (counted 1
    ∷ counted 2
    ∷ only 13
    ∷ replicate 9 0
    ∷ replicate 9 0
    ∷ (0 ∷ 0 ∷ 0 ∷ 0 ∷ 55 ∷ 120 ∷ 12 ∷ 12 ∷ 0 ∷ [])
    ∷ (0 ∷ 0 ∷ 0 ∷ 0 ∷ 218 ∷ 199 ∷ 13 ∷ 13 ∷ 0 ∷ [])
    ∷ replicate 9 0
    ∷ [])
    ∷ []

-- checksums
unfoldable pub sum_cases : List Case
sum_cases =
    -- The pool's page keeps its own bytes 8 and 9
    case unmarked (seen_then (bytes 0 8 2) two_files (map_block 1 ∷ []) (Write 0 0 12 (77 ∷ []) 91 ∷ flush 0 ∷ []))
    (only 0 ∷ counted 1 ∷ (218 ∷ 199 ∷ []) ∷ [])
    -- A write reaches them
    ∷ case unmarked (seen_then (bytes 0 8 2) bench (block 0 ∷ []) (Write 0 0 8 (5 ∷ 6 ∷ []) 90 ∷ [])) (only 0 ∷ (5 ∷ 6 ∷ []) ∷ [])
    -- A block without its checksum: 17, after 4 and before a victim is sought. A drop takes it out, and an extend's block is of zeros
    ∷ case unmarked (seen damaged three (block 3 ∷ peek 3 ∷ block 4 ∷ [])) (only 17 ∷ only 17 ∷ only 4 ∷ [])
    ∷ case unmarked
    (seen damaged (Drop file ∷ replicate 4 (Extend file)) (block 3 ∷ peek 3 ∷ [])) (at 0 0 ∷ (0 ∷ 1 ∷ 0 ∷ 0 ∷ 0 ∷ []) ∷ [])
    -- A page that is held is not verified, whatever its block has become
    ∷ case unmarked (seen_store (block 3 ∷ []) damaged.store (block 3 ∷ peek 3 ∷ []))
    ((0 ∷ 0 ∷ 1 ∷ 0 ∷ 0 ∷ []) ∷ (0 ∷ 1 ∷ 0 ∷ 0 ∷ 0 ∷ []) ∷ [])
    ∷ []

-- caps
unfoldable pub cap_cases : List Case
cap_cases =
    -- H at other caps: the sweep looks at each buffer cap + 1 times
    case unmarked (seen_at 1 (three ++ (unpin 2 ∷ [])) (block 3 ∷ [])) (at 2 6 ∷ [])
    ∷ case unmarked (seen_word 15 (three ++ (unpin 2 ∷ [])) 2 0x833C0000 (block 3 ∷ []))
    (at 2 48 ∷ (0 ∷ 0x83040001 ∷ 0x83040001 ∷ 0x83040001 ∷ []) ∷ [])
    -- A page pinned by more holders than the cap: usage stays there. Usage counts near 15 are lent
    ∷ case unmarked (just (get_or (warmed 1 (each (λ h. block_by h 0) 0 3)).states 0 0)) (just 0x83040003)
    ∷ case unmarked (just (get_or (warmed 2 (each (λ h. block_by h 0) 0 3)).states 0 0)) (just 0x83080003)
    ∷ case unmarked (seen_word 15 (block 0 ∷ []) 0 0x83380001 (each (λ h. block_by h 0) 1 2))
    (hit 0 ∷ hit 0 ∷ (0 ∷ 0x833C0003 ∷ 0 ∷ 0 ∷ []) ∷ [])
    -- Set up: 18, cap outside 1 to 15, after 1, sizes
    ∷ case unmarked (just (set_up bench 1024 100 0).refusal) (just 18)
    ∷ case unmarked (just (set_up bench 1024 100 1).refusal) (just 0)
    ∷ case unmarked (just (set_up bench 1024 100 15).refusal) (just 0)
    ∷ case unmarked (just (set_up bench 1024 100 16).refusal) (just 18)
    ∷ case unmarked (just (set_up bench 1024 100 (2 ^ 63 + 5)).refusal) (just 18)
    ∷ case unmarked (just (set_up bench 1000 100 0).refusal) (just 1)
    -- A bad cap is 2 for other calls, and so is one below a usage count
    ∷ case unmarked (told bench [] (1024 ∷ 0 ∷ 0 ∷ 100 ∷ 100 ∷ 0 ∷ []) (Checkpoint ∷ []))
    (only 2 ∷ (1024 ∷ 0 ∷ 0 ∷ 100 ∷ 100 ∷ 0 ∷ []) ∷ [])
    ∷ case unmarked (told bench [] (1024 ∷ 0 ∷ 0 ∷ 100 ∷ 100 ∷ 16 ∷ []) (Checkpoint ∷ []))
    (only 2 ∷ (1024 ∷ 0 ∷ 0 ∷ 100 ∷ 100 ∷ 16 ∷ []) ∷ [])
    ∷ case unmarked (told bench [] (1024 ∷ 0 ∷ 0 ∷ 100 ∷ 100 ∷ (2 ^ 63 + 5) ∷ []) (Checkpoint ∷ []))
    (only 2 ∷ (1024 ∷ 0 ∷ 0 ∷ 100 ∷ 100 ∷ (2 ^ 63 + 5) ∷ []) ∷ [])
    ∷ case unmarked (told bench (block 0 ∷ block_by 1 0 ∷ []) (1024 ∷ 0 ∷ 1 ∷ 100 ∷ 100 ∷ 1 ∷ []) (Checkpoint ∷ []))
    (only 2 ∷ (1024 ∷ 0 ∷ 1 ∷ 100 ∷ 100 ∷ 1 ∷ []) ∷ [])
    ∷ case unmarked (told bench (block 0 ∷ block_by 1 0 ∷ []) (1024 ∷ 0 ∷ 1 ∷ 100 ∷ 100 ∷ 2 ∷ []) (Checkpoint ∷ []))
    (counted 0 ∷ (1024 ∷ 0 ∷ 1 ∷ 100 ∷ 100 ∷ 2 ∷ []) ∷ [])
    ∷ []

-- holders
unfoldable pub holder_cases : List Case
holder_cases =
    -- 19, holder 64 or above, before 3 and 7, for each call that names a holder; 63, below, is one
    case unmarked (seen bench [] beyond) (replicate 6 (only 19))
    -- 8: this holder has no pin on the buffer, though another has
    ∷ case unmarked (seen bench (block 0 ∷ []) (Unpin 1 0 ∷ Read 1 0 0 [] ∷ Write 1 0 8 (1 ∷ []) 100 ∷ Flush 1 0 ∷ []))
    (replicate 4 (only 8))
    -- A word counts holders; usage rises with a holder's first pin, and the pin count falls with its last one. Who comes again arrives anew
    ∷ case unmarked (seen_along (holders 2) bench shared (unpin 0 ∷ unpin 1 ∷ block 1 ∷ []))
    ((0x83040001 ∷ 2 ∷ 0 ∷ [])
    ∷ (0x83080002 ∷ 1 ∷ 1 ∷ [])
    ∷ (0x83040001 ∷ 0 ∷ 0 ∷ [])
    ∷ only 0
    ∷ (0x83040001 ∷ 1 ∷ 0 ∷ [])
    ∷ (0x83080002 ∷ 1 ∷ 1 ∷ [])
    ∷ (0x83040001 ∷ 0 ∷ 0 ∷ [])
    ∷ only 0
    ∷ (0x83040001 ∷ 1 ∷ 0 ∷ [])
    ∷ (0x83080001 ∷ 0 ∷ 1 ∷ [])
    ∷ (0x83040001 ∷ 0 ∷ 0 ∷ [])
    ∷ hit 1
    ∷ (0x83040001 ∷ 1 ∷ 0 ∷ [])
    ∷ (0x830C0002 ∷ 1 ∷ 1 ∷ [])
    ∷ (0x83040001 ∷ 0 ∷ 0 ∷ [])
    ∷ [])
    -- 6 and 14 go by all holders together. Give back: all of one holder's pins, and no other's; a second time, and by one who has nothing,
    -- it is accepted and changes nothing
    ∷ case unmarked
    (seen_then (holders 2) bench shared (block_by 9 3 ∷ Drop file ∷ GiveBack 0 ∷ GiveBack 0 ∷ GiveBack 5 ∷ unpin 0 ∷ Unpin 63 2 ∷ []))
    (only 6
    ∷ only 14
    ∷ only 0
    ∷ only 0
    ∷ only 0
    ∷ only 8
    ∷ only 0
    ∷ (0x83040000 ∷ 0 ∷ 0 ∷ [])
    ∷ (0x83080001 ∷ 0 ∷ 1 ∷ [])
    ∷ (0x83040000 ∷ 0 ∷ 0 ∷ [])
    ∷ [])
    -- What a holder gave back is taken, for another; what others have is not
    ∷ case unmarked (seen bench shared (GiveBack 0 ∷ Drop file ∷ block_by 9 3 ∷ Unpin 9 0 ∷ [])) (only 0 ∷ only 14 ∷ at 0 4 ∷ only 0 ∷ [])
    ∷ []

-- counts that are lent
unfoldable pub count_cases : List Case
count_cases =
    -- 5: this holder's count is full, with its 65,535th pin; another's pin passes
    case unmarked (seen_count (block 0 ∷ []) 0 65534 (block 0 ∷ block 0 ∷ block_by 1 0 ∷ [])) (hit 0 ∷ only 5 ∷ hit 0 ∷ [])
    -- 1, before 19: another number of counts than N × 64, at set up too, which sets them all to 0
    ∷ case unmarked (seen_counts [] (replicate 191 0) (Checkpoint ∷ beyond)) (replicate 7 (only 1))
    ∷ case unmarked (seen_counts [] (replicate 193 0) (Checkpoint ∷ [])) (only 1 ∷ [])
    ∷ case unmarked (just (set_up (with_counts (replicate 193 7) bench) 1024 100 5).refusal) (just 1)
    ∷ case unmarked ((after bench []).counts ∷ []) (replicate 192 0 ∷ [])
    -- 2, before 19: a count under an empty buffer; a word that counts a holder too many, or too few
    ∷ case unmarked (seen_count (block 0 ∷ []) 191 1 (Checkpoint ∷ [])) (only 2 ∷ [])
    ∷ case unmarked (seen_word 5 (block 0 ∷ []) 0 0x83040002 (Checkpoint ∷ beyond))
    (replicate 7 (only 2) ++ ((0 ∷ 0x83040002 ∷ 0 ∷ 0 ∷ []) ∷ []))
    ∷ case unmarked (seen_word 5 (block 0 ∷ []) 0 0x83040000 (Checkpoint ∷ [])) (only 2 ∷ (0 ∷ 0x83040000 ∷ 0 ∷ 0 ∷ []) ∷ [])
    ∷ []

unfoldable pub cases : List Case
cases = bench_cases ++ (file_cases ++ (sum_cases ++ (cap_cases ++ (holder_cases ++ count_cases))))

-- ---- THE CASES
bench-hold : given bench_cases ≡ said bench_cases
unfolding bench_cases given said
bench-hold = refl

file-hold : given file_cases ≡ said file_cases
unfolding file_cases given said
file-hold = refl

sum-hold : given sum_cases ≡ said sum_cases
unfolding sum_cases given said
sum-hold = refl

cap-hold : given cap_cases ≡ said cap_cases
unfolding cap_cases given said
cap-hold = refl

holder-hold : given holder_cases ≡ said holder_cases
unfolding holder_cases given said
holder-hold = refl

count-hold : given count_cases ≡ said count_cases
unfolding count_cases given said
count-hold = refl

pub cases-hold : given cases ≡ said cases
unfolding cases
cases-hold =
    joined bench_cases _ bench-hold
    (joined file_cases _ file-hold
    (joined sum_cases _ sum-hold (joined cap_cases _ cap-hold (joined holder_cases count_cases holder-hold count-hold))))
