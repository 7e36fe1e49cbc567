-- The input byte by byte, and what is used at the end of each line: what the program keeps between two pieces of it.
use Rattle.std.specs.Prelude.{ℕ, zero, suc, ◌+◌, ◌-◌, ◌*◌, ◌≤◌, ◌<◌, ◌≡◌, Bool, true, false, ◌&&◌, cond, List, [], ◌∷◌, ◌++◌, eqb, leb, ltb}
use Rattle.laws.specs.First.{Found, found, missing}
use Rattle.bufmodel.specs.Sizes.{max_buffers, max_blocks}
use Rattle.buftrace.specs.declared.trace.Tally.{Tally}
use Rattle.buftrace.specs.declared.scan.Reader.{Reader}
use Rattle.buftrace.specs.Input.{newline, is_digit, between, max_uses}
use Rattle.buftrace.specs.Usage.{none_yet}
use Rattle.buftrace.specs.Trace.{Trace, Fit, unused, many, use1, trace_of}

-- lines that have ended; of the line begun whether it has a digit, and its value; N and the number of blocks, once they are read; the first
-- bad line, 0 for none
pub record Scan : Type 0 where
  pub line : ℕ
  pub digits : Bool
  pub value : ℕ
  pub buffers : ℕ
  pub blocks : ℕ
  pub bad : ℕ
  pub trace : Trace

abbrev pub start : Scan
start = record { line = 0; digits = false; value = 0; buffers = 0; blocks = 0; bad = 0; trace = unused }

-- N, the number of blocks, and the numbers
abbrev pub max_lines : ℕ
max_lines = max_uses + 2

-- the line begun is bad
unfoldable pub spoilt : Scan → Scan
spoilt s =
    record {
      line = s.line;
      digits = s.digits;
      value = s.value;
      buffers = s.buffers;
      blocks = s.blocks;
      bad = suc s.line;
      trace = s.trace;
    }

-- ---- a line ends: its number counts by which line it is
abbrev pub onward : Scan → ℕ → ℕ → Trace → Scan
onward s buffers blocks trace =
    record { line = suc s.line; digits = false; value = 0; buffers = buffers; blocks = blocks; bad = s.bad; trace = trace }

unfoldable pub taken_at : ℕ → Scan → ℕ → Scan
taken_at zero s v = onward s v s.blocks s.trace
taken_at (suc zero) s v = onward s s.buffers v s.trace
taken_at (suc (suc k)) s v = onward s s.buffers s.blocks (use1 s.buffers s.trace v)

unfoldable pub taken : Scan → Found → Scan
taken s (found v) = taken_at s.line s v
taken s missing = spoilt s

-- the number of the line begun
unfoldable pub number_of : Scan → Found
number_of s = cond s.digits (found s.value) missing

-- which numbers a line may have behind so many others: `least` up to, not including, `end`
unfoldable pub least_at : ℕ → ℕ
least_at line = cond (eqb line 0) 1 0

unfoldable pub end_at : ℕ → ℕ → ℕ
end_at line blocks = cond (eqb line 0) (suc max_buffers) (cond (eqb line 1) (suc max_blocks) blocks)

unfoldable pub ended : Scan → Scan
ended s = taken s (between (least_at s.line) (end_at s.line s.blocks) (number_of s))

-- ---- a digit more; above the greatest number that any line may have the line is bad whatever follows
abbrev pub grown : Scan → ℕ → Scan
grown s v =
    record {
      line = s.line;
      digits = true;
      value = v;
      buffers = s.buffers;
      blocks = s.blocks;
      bad = s.bad;
      trace = s.trace;
    }

unfoldable pub digit : Scan → ℕ → Scan
digit s b =
    let v = s.value * 10 + (b - 48) in
    cond (leb v max_blocks) (grown s v) (spoilt s)

-- ---- one byte, and a piece of the input. A line too many is bad as soon as it has a byte; behind a bad line nothing is looked at
unfoldable pub stepped : Scan → ℕ → Scan
stepped s b =
    let over = ended s in
    let more = digit s b in
    cond (eqb s.line max_lines) (spoilt s) (cond (eqb b newline) over (cond (is_digit b) more (spoilt s)))

unfoldable pub fed : Scan → ℕ → Scan
fed s b =
    let on = stepped s b in
    cond (eqb s.bad 0) on s

unfoldable pub feds : Scan → List ℕ → Scan
feds s [] = s
feds s (b ∷ bs) = feds (fed s b) bs

-- several pieces, and the input that they make
unfoldable pub fed_pieces : Scan → List (List ℕ) → Scan
fed_pieces s [] = s
fed_pieces s (piece ∷ pieces) = fed_pieces (feds s piece) pieces

unfoldable pub together : List (List ℕ) → List ℕ
together [] = []
together (piece ∷ pieces) = piece ++ together pieces

-- ---- the end of the input: the last newline is optional; the first two lines are not
unfoldable pub last_line : Scan → Scan
last_line s =
    let over = ended s in
    cond (eqb s.bad 0 && s.digits) over s

unfoldable pub closed : Scan → Scan
closed s = cond (eqb s.bad 0 && ltb s.line 2) (spoilt s) s

unfoldable pub finished : Scan → Scan
finished s = closed (last_line s)

-- a read that fails: the line begun could not be read
unfoldable pub broken : Scan → Scan
broken s = cond (eqb s.bad 0) (spoilt s) s

-- ---- as the code has it
abbrev pub scan_of : Reader → List ℕ → List ℕ → Scan
scan_of r states held =
    record {
      line = r.line;
      digits = r.digits;
      value = r.value;
      buffers = r.buffers;
      blocks = r.blocks;
      bad = r.bad;
      trace = trace_of r.tally states held;
    }

-- before the first byte
abbrev pub new_reader : Reader
new_reader =
    record {
      line = 0;
      digits = false;
      value = 0;
      buffers = 0;
      blocks = 0;
      bad = 0;
      tally = record { used = 0; hand = 0; totals = none_yet };
    }

-- the line begun is bad, and, of a read that fails, unless one before it was
abbrev pub spoilt_reader : Reader → Reader
spoilt_reader r =
    record {
      line = r.line;
      digits = r.digits;
      value = r.value;
      buffers = r.buffers;
      blocks = r.blocks;
      bad = r.line + 1;
      tally = r.tally;
    }

unfoldable pub broken_reader : Reader → Reader
broken_reader r = cond (eqb r.bad 0) (spoilt_reader r) r

-- what a piece of the input asks of the reader and lent slices, and leaves
pub record Ready (r : Reader) (states held place : List ℕ) : Type 0 where
  pub fit : Fit r.buffers r.tally states held place
  pub line : r.line ≤ max_lines
  pub begun : r.digits ≡ true → r.line < max_lines
  pub value : r.value ≤ max_blocks
  pub blocks : r.blocks ≤ max_blocks
  pub none : r.line ≡ 0 → r.buffers ≡ 0
  pub some : 0 < r.line → 0 < r.buffers
  pub uses : many r.tally.totals ≤ r.line - 2

-- the reader becomes r, whatever is lent beside it and stays as it is
pub record Becomes (f : Scan → Scan) (s r : Reader) : Type 0 where
  pub each : (states held place : List ℕ) → Ready s states held place
      → (scan_of r states held ≡ f (scan_of s states held)) × Ready r states held place

-- a line ends, and this is known after it
abbrev pub onward_reader : Reader → ℕ → ℕ → Tally → Reader
onward_reader s buffers blocks tally =
    record { line = s.line + 1; digits = false; value = 0; buffers = buffers; blocks = blocks; bad = s.bad; tally = tally }

-- what reads make of a scan: some bytes were fed. No contract can say which. A read that fails is as a byte that is no digit (`broken-is`)
pub record Fed (s t : Scan) : Type 0 where
  pub bytes : List ℕ
  pub is : t ≡ feds s bytes
