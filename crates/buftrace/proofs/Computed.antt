-- Computed cases: lists of uses by the pool's own calls and without page bytes, and the printed line for an input (document 02, 2026-06).
use Prim.Native.Nat.{ℕ}
use Prim.Native.Char.{code}
use Prim.Native.String.{String, [] as end, ◌∷◌ as ◌then◌}
use mathlib.Core.Path.{◌≡◌, refl}
use mathlib.Core.List.{List, [], ◌∷◌}
use Rattle.buftrace.specs.declared.usage.Totals.{Totals}
use Rattle.buftrace.specs.Input.{Given, given, bad, lines_of, numbers, parse}
use Rattle.buftrace.specs.Usage.{used_on}
use Rattle.buftrace.specs.Trace.{unused, uses}
use Rattle.buftrace.specs.Scan.{start, feds, finished}
use Rattle.buftrace.specs.Report.{decimal, report, printed}

-- where this unfolds, all that a line is made of computes; the pool's own definitions do where bufmodel's list of cases does
unfoldable computes : Unit {0}
unfolding Rattle.bufmodel.specs.Seen.given Rattle.buftrace.specs.Input.onto
    Rattle.buftrace.specs.Input.lines_of Rattle.buftrace.specs.Input.is_digit Rattle.buftrace.specs.Input.value_from
    Rattle.buftrace.specs.Input.value_of Rattle.buftrace.specs.Input.between Rattle.buftrace.specs.Input.more
    Rattle.buftrace.specs.Input.numbers Rattle.buftrace.specs.Input.with_blocks Rattle.buftrace.specs.Input.with_buffers
    Rattle.buftrace.specs.Input.parse Rattle.buftrace.specs.Usage.tallied Rattle.buftrace.specs.Usage.used_from
    Rattle.buftrace.specs.Usage.blank Rattle.buftrace.specs.Usage.used_with Rattle.buftrace.specs.Usage.used_on
    Rattle.buftrace.specs.Trace.buffer_of Rattle.buftrace.specs.Trace.hit_at Rattle.buftrace.specs.Trace.into_free
    Rattle.buftrace.specs.Trace.into_victim Rattle.buftrace.specs.Trace.swept_for Rattle.buftrace.specs.Trace.missed
    Rattle.buftrace.specs.Trace.use_at Rattle.buftrace.specs.Trace.use1 Rattle.buftrace.specs.Trace.uses
    Rattle.buftrace.specs.Scan.spoilt Rattle.buftrace.specs.Scan.taken_at Rattle.buftrace.specs.Scan.taken
    Rattle.buftrace.specs.Scan.number_of Rattle.buftrace.specs.Scan.least_at Rattle.buftrace.specs.Scan.end_at
    Rattle.buftrace.specs.Scan.ended Rattle.buftrace.specs.Scan.digit Rattle.buftrace.specs.Scan.stepped
    Rattle.buftrace.specs.Scan.fed Rattle.buftrace.specs.Scan.feds Rattle.buftrace.specs.Scan.last_line
    Rattle.buftrace.specs.Scan.closed Rattle.buftrace.specs.Scan.finished Rattle.buftrace.specs.Report.spelled
    Rattle.buftrace.specs.Report.decimal Rattle.buftrace.specs.Report.totals_line Rattle.buftrace.specs.Report.bad_line
    Rattle.buftrace.specs.Report.reported Rattle.buftrace.specs.Report.report Rattle.buftrace.specs.Report.printed
computes = tt

-- ---- lists of uses
abbrev three : ℕ → ℕ → ℕ → Totals
three hits loads probes = record { hits = hits; loads = loads; probes = probes }

-- the paper's; one with hits, whose sweeps pass buffers; and one buffer's, whose usage reaches the cap
abbrev five : List ℕ
five = 0 ∷ 1 ∷ 2 ∷ 3 ∷ 0 ∷ []

abbrev eleven : List ℕ
eleven = 0 ∷ 0 ∷ 1 ∷ 2 ∷ 0 ∷ 3 ∷ 1 ∷ 3 ∷ 2 ∷ 4 ∷ 0 ∷ []

abbrev eight : List ℕ
eight = 0 ∷ 0 ∷ 0 ∷ 0 ∷ 0 ∷ 0 ∷ 0 ∷ 1 ∷ []

pub paper-used : used_on 3 4 five ≡ three 0 5 5
unfolding computes
paper-used = refl

paper-traced : (uses 3 unused five).totals ≡ three 0 5 5
unfolding computes
paper-traced = refl

pub eleven-used : used_on 3 5 eleven ≡ three 3 8 14
unfolding computes
eleven-used = refl

eleven-traced : (uses 3 unused eleven).totals ≡ three 3 8 14
unfolding computes
eleven-traced = refl

pub eight-used : used_on 1 2 eight ≡ three 6 2 6
unfolding computes
eight-used = refl

eight-traced : (uses 1 unused eight).totals ≡ three 6 2 6
unfolding computes
eight-traced = refl

-- ---- a text's bytes, one for each character
unfoldable pub bytes : String → List ℕ
bytes end = []
bytes (c then s) = code c ∷ bytes s

abbrev pub paper : List ℕ
paper = bytes "3\n4\n0\n1\n2\n3\n0\n"

pub paper-line : report paper ≡ bytes "0 5 5\n"
unfolding computes bytes
paper-line = refl

pub paper-printed : printed (finished (feds start paper)) ≡ bytes "0 5 5\n"
unfolding computes bytes
paper-printed = refl

-- ---- the line for a text, and what is read there
abbrev Line : String → String → Type 0
Line input line = report (bytes input) ≡ bytes line

abbrev Reads : String → Given → Type 0
Reads input g = parse (lines_of (bytes input)) ≡ g

-- the last newline is optional; zeros in front count nothing; the limits are allowed
lines-read : Reads "3\n4\n0\n3\n" (given 3 4 (0 ∷ 3 ∷ []))
    × Reads "3\n4\n0\n3" (given 3 4 (0 ∷ 3 ∷ []))
    × Reads "007\n0004\n000" (given 7 4 (0 ∷ []))
    × Reads "1\n0" (given 1 0 [])
    × Reads "1024\n65536\n65535\n" (given 1024 65536 (65535 ∷ []))
unfolding computes bytes
lines-read = (refl, refl, refl, refl, refl)

few-lines : Line "3\n0\n" "0 0 0\n" × Line "3\n4\n0" "0 1 0\n"
unfolding computes bytes
few-lines = (refl, refl)

-- a line that is missing, or empty
lines-missing : Line "" "bad line 1\n" × Line "3" "bad line 2\n" × Line "3\n" "bad line 2\n"
unfolding computes bytes
lines-missing = (refl, refl, refl)

lines-empty : Line "\n4\n" "bad line 1\n"
    × Line "3\n\n" "bad line 2\n"
    × Line "3\n4\n\n" "bad line 3\n"
    × Line "3\n4\n0\n\n" "bad line 4\n"
unfolding computes bytes
lines-empty = (refl, refl, refl, refl)

-- out of range
lines-outside : Line "0\n4\n" "bad line 1\n"
    × Line "1025\n4\n" "bad line 1\n"
    × Line "3\n65537\n" "bad line 2\n"
    × Line "3\n4\n4\n" "bad line 3\n"
    × Line "3\n0\n0\n" "bad line 3\n"
unfolding computes bytes
lines-outside = (refl, refl, refl, refl, refl)

-- no number: a sign, a carriage return, a space, the bytes beside the digits; of several bad lines the first counts
lines_other : Line "+3\n4\n" "bad line 1\n"
    × Line "-3\n4\n" "bad line 1\n"
    × Line "3\r\n4\r\n" "bad line 1\n"
    × Line "3\n 4\n" "bad line 2\n"
    × Line "3\n99\n0/\n" "bad line 3\n"
    × Line "3\n99\n0:\n" "bad line 3\n"
    × Line "3\n4\n0\n4\nx\n" "bad line 4\n"
unfolding computes bytes
lines_other = (refl, refl, refl, refl, refl, refl, refl)

-- numbers are printed without zeros in front
digits : (decimal 0 ≡ bytes "0") × (decimal 10 ≡ bytes "10") × (decimal 1000000 ≡ bytes "1000000")
unfolding computes bytes
digits = (refl, refl, refl)

-- where no number is left, a line is bad, whatever stands in it
one-too-many : (n blocks k : ℕ) (line : List ℕ) (lines : List (List ℕ)) → numbers n blocks k 0 (line ∷ lines) ≡ bad k
unfolding numbers
one-too-many n blocks k line lines = refl
