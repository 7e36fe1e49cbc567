-- A trial of a pool: a bench, a set up, calls as a till makes them, and the verdict.
use Rattle.std.specs.Prelude.{ℕ, zero, suc, ◌-◌, ◌*◌, ◌^◌, Bool, true, ◌&&◌, List, [], ◌∷◌, ◌++◌, map, replicate, ℤ, pos, ltb}
use Rattle.std.specs.Int.Signed.{mag}
use Rattle.buftag.specs.declared.name.FileName.{FileName}
use Rattle.buftag.specs.declared.name.PageName.{PageName}
use Rattle.buftag.specs.Name.{file_of}
use Rattle.buftag.specs.Names.{name_words}
use Rattle.bufmodel.specs.Step.{
  Call,
  Pin,
  Unpin,
  Read,
  Write,
  Flush,
  GiveBack,
  Checkpoint,
  Peek,
  Extend,
  Drop,
  LogInserted,
  LogFlushed,
}
use Rattle.bufmodel.specs.Lent.{Lent}
use Rattle.shelf.specs.Statement.{Pool, Made}
use Rattle.shelf.specs.Tests.{Clause, Verdict}
use Rattle.shelf.specs.Judge.{judge}

-- ---- the bench: n buffers and n + 1 pages, n of the file of sales and one of the file of stock; both files are full. Books and pool are
-- as someone left them. Blocks are zeros, which go without a checksum, but for that of stock where a trial needs another
abbrev pub size : ℕ
size = 1024

abbrev pub log : ℕ
log = 100

abbrev pub cap : ℕ
cap = 5

abbrev pub sales : FileName
sales = file_of 1663 5 16384 0

abbrev pub stock : FileName
stock = file_of 1663 5 16385 0

unfoldable pub bench_with : ℕ → List ℕ → Lent
bench_with n page =
    record {
      control = replicate 6 0;
      states = replicate n 9;
      names = replicate (name_words * n) 9;
      pool = replicate (n * size) 9;
      free = replicate n (pos 0);
      heads = replicate n (pos 0);
      chain = replicate n (pos 0);
      rows = 1663 ∷ 5 ∷ 16384 ∷ 0 ∷ n ∷ n ∷ 1663 ∷ 5 ∷ 16385 ∷ 0 ∷ 1 ∷ 1 ∷ [];
      store = replicate (n * size) 0 ++ page;
      counts = replicate (n * 64) 9;
    }

abbrev pub bench : ℕ → Lent
bench n = bench_with n (replicate size 0)

-- a page of zeros but for bytes 8, 9 and 10
unfoldable pub block_with : ℕ → ℕ → ℕ → List ℕ
block_with low high byte = replicate 8 0 ++ (low ∷ high ∷ byte ∷ replicate (size - 11) 0)

-- the block of stock with its checksum, 57,103; with none
abbrev pub summed : ℕ → Lent
summed n = bench_with n (block_with 15 223 77)

abbrev pub unsummed : ℕ → Lent
unsummed n = bench_with n (block_with 0 0 77)

-- ---- the tills' calls, holder 0's and others': a page of a file; one byte, or two bytes, behind the checksum; the log position
abbrev pub block_of : FileName → ℕ → PageName
block_of f b = record { file = f; block = record { 0 = b } }

abbrev pub pin_by : ℕ → FileName → ℕ → Call
pin_by h f b = Pin h (block_of f b)

abbrev pub pin : FileName → ℕ → Call
pin = pin_by 0

abbrev pub unpin : ℕ → Call
unpin buffer = Unpin 0 buffer

abbrev pub flush : ℕ → Call
flush buffer = Flush 0 buffer

abbrev pub peek : FileName → ℕ → Call
peek f b = Peek (block_of f b)

abbrev pub write : ℕ → ℕ → ℕ → Call
write buffer byte at = Write 0 buffer 10 (byte ∷ []) at

abbrev pub read : ℕ → Call
read buffer = Read 0 buffer 10 (0 ∷ 0 ∷ [])

abbrev pub read_position : ℕ → Call
read_position buffer = Read 0 buffer 0 (replicate 8 0)

-- a call by each of the first holders
unfoldable pub by_each : ℕ → (ℕ → Call) → List Call
by_each zero c = []
by_each (suc n) c = by_each n c ++ (c n ∷ [])

-- the first page of sales, pinned by each of so many holders
abbrev pub hits : ℕ → List Call
hits n = by_each n (λ h. pin_by h sales 0)

-- both pages of sales in two buffers, unpinned
abbrev pub unpinned : List Call
unpinned = pin sales 0 ∷ pin sales 1 ∷ unpin 0 ∷ unpin 1 ∷ []

-- a dirty page of sales gives way to the page of stock
abbrev pub exchange : List Call
exchange = pin sales 0 ∷ write 0 77 100 ∷ unpin 0 ∷ pin stock 0 ∷ []

-- ---- the verdict: with set up's block size, log position and cap, the bench's or others
-- an answer slice, as someone left it
abbrev pub slice : List ℕ
slice = replicate 4 9

abbrev pub made : Call → Made
made c = record { call = c; answer = slice }

unfoldable pub verdict : Pool → Lent → ℕ → ℕ → ℕ → List Call → Verdict
verdict pool m p at most calls = judge pool m p at most slice (map made calls)

-- ---- all that the statement assumes, as a test: numbers fit their types
unfoldable pub every : List Bool → Bool
every [] = true
every (t ∷ ts) = t && every ts

unfoldable pub all_below : ℕ → List ℕ → Bool
all_below k [] = true
all_below k (x ∷ xs) = ltb x k && all_below k xs

unfoldable pub all_signed : List ℤ → Bool
all_signed [] = true
all_signed (x ∷ xs) = ltb (mag x) (2 ^ 31) && all_signed xs

unfoldable pub fits_lent : Lent → Bool
fits_lent m =
    every
    (all_below (2 ^ 64) m.control
    ∷ all_below (2 ^ 32) m.states
    ∷ all_below (2 ^ 32) m.names
    ∷ all_below (2 ^ 8) m.pool
    ∷ all_signed m.free
    ∷ all_signed m.heads
    ∷ all_signed m.chain
    ∷ all_below (2 ^ 32) m.rows
    ∷ all_below (2 ^ 8) m.store
    ∷ all_below (2 ^ 16) m.counts
    ∷ [])

unfoldable pub fits_file : FileName → Bool
fits_file f = every (ltb f.tablespace (2 ^ 32) ∷ ltb f.database (2 ^ 32) ∷ ltb f.relation (2 ^ 32) ∷ ltb f.fork (2 ^ 32) ∷ [])

unfoldable pub fits_name : PageName → Bool
fits_name n = every (fits_file n.file ∷ ltb n.block.0 (2 ^ 32) ∷ [])

unfoldable pub fits_call : Call → Bool
fits_call (Pin h n) = every (ltb h (2 ^ 64) ∷ fits_name n ∷ [])
fits_call (Unpin h b) = every (ltb h (2 ^ 64) ∷ ltb b (2 ^ 64) ∷ [])
fits_call (Read h b from out) = every (ltb h (2 ^ 64) ∷ ltb b (2 ^ 64) ∷ ltb from (2 ^ 64) ∷ all_below (2 ^ 8) out ∷ [])
fits_call (Write h b from bytes at) =
    every (ltb h (2 ^ 64) ∷ ltb b (2 ^ 64) ∷ ltb from (2 ^ 64) ∷ all_below (2 ^ 8) bytes ∷ ltb at (2 ^ 64) ∷ [])
fits_call (Flush h b) = every (ltb h (2 ^ 64) ∷ ltb b (2 ^ 64) ∷ [])
fits_call (GiveBack h) = ltb h (2 ^ 64)
fits_call Checkpoint = true
fits_call (Peek n) = fits_name n
fits_call (Extend f) = fits_file f
fits_call (Drop f) = fits_file f
fits_call (LogInserted p) = ltb p (2 ^ 64)
fits_call (LogFlushed p) = ltb p (2 ^ 64)

unfoldable pub fits_calls : List Call → Bool
fits_calls [] = true
fits_calls (c ∷ cs) = fits_call c && fits_calls cs

unfoldable pub fits : Lent → ℕ → ℕ → ℕ → List Call → Bool
fits m p at most calls = every (fits_lent m ∷ ltb p (2 ^ 64) ∷ ltb at (2 ^ 64) ∷ ltb most (2 ^ 64) ∷ fits_calls calls ∷ [])

-- ---- a wrong pool, a trial that it fails, and the clause: the first that fails
pub record Wrong : Type 0 where
  pub pool : Pool
  pub lent : Lent
  pub size : ℕ
  pub log : ℕ
  pub cap : ℕ
  pub calls : List Call
  pub refused_by : Clause

abbrev pub wrong_on : Lent → Pool → List Call → Clause → Wrong
wrong_on m pool calls clause = record { pool = pool; lent = m; size = size; log = log; cap = cap; calls = calls; refused_by = clause }

abbrev pub wrong : Pool → ℕ → List Call → Clause → Wrong
wrong pool n = wrong_on (bench n) pool

-- with another cap
abbrev pub wrong_at : ℕ → Pool → ℕ → List Call → Clause → Wrong
wrong_at most pool n calls clause =
    record { pool = pool; lent = bench n; size = size; log = log; cap = most; calls = calls; refused_by = clause }

abbrev pub wrong_cap : ℕ → Pool → Lent → Clause → Wrong
wrong_cap most pool m clause = record { pool = pool; lent = m; size = size; log = log; cap = most; calls = []; refused_by = clause }

abbrev pub wrong_set_up : Pool → Lent → ℕ → ℕ → Clause → Wrong
wrong_set_up pool m p at clause = record { pool = pool; lent = m; size = p; log = at; cap = cap; calls = []; refused_by = clause }
