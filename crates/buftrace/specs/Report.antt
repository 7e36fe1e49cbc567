-- The printed line.
use Rattle.std.specs.Prelude.{ℕ, zero, suc, ◌+◌, ◌/◌, ◌%◌, ◌≡◌, true, cond, List, [], ◌∷◌, ◌++◌, eqb, ltb}
use Rattle.buftrace.specs.declared.usage.Totals.{Totals}
use Rattle.buftrace.specs.declared.scan.Reader.{Reader}
use Rattle.buftrace.specs.Input.{Given, given, bad, newline, lines_of, parse}
use Rattle.buftrace.specs.Usage.{served_from, used_on}
use Rattle.buftrace.specs.Usage as Usage
use Rattle.buftrace.specs.Scan.{Scan}

-- ---- a number in decimal digits, without zeros in front; a number has no more digits than its value and one
unfoldable pub spelled : ℕ → ℕ → List ℕ
spelled zero n = []
spelled (suc k) n =
    let front = spelled k (n / 10) in
    cond (ltb n 10) ((48 + n) ∷ []) (front ++ ((48 + n % 10) ∷ []))

unfoldable pub decimal : ℕ → List ℕ
decimal n = spelled (suc n) n

abbrev pub space : ℕ
space = 32

-- ---- hits, loads and probes with single spaces
unfoldable pub totals_line : Totals → List ℕ
totals_line t = decimal t.hits ++ (space ∷ decimal t.loads ++ (space ∷ decimal t.probes ++ (newline ∷ [])))

-- `bad line`, a space, and its number
unfoldable pub bad_line : ℕ → List ℕ
bad_line k = 98 ∷ 97 ∷ 100 ∷ 32 ∷ 108 ∷ 105 ∷ 110 ∷ 101 ∷ 32 ∷ decimal k ++ (newline ∷ [])

-- ---- THE CLAIM's right side: the line for an input, by the pool's own calls
unfoldable pub reported : Given → List ℕ
reported (given n blocks bs) = totals_line (used_on n blocks bs)
reported (bad k) = bad_line k

unfoldable pub report : List ℕ → List ℕ
report input = reported (parse (lines_of input))

-- set up and every call for the numbers are accepted, so that the answers' words are those of pins
pub data Served : Given → Type 0 where
  served-bad : {k : ℕ} → Served (bad k)
  served-given : {n blocks : ℕ} {bs : List ℕ} → (Usage.start 1024 n n blocks).refusal ≡ 0
      → served_from (Usage.start 1024 n n blocks).after bs ≡ true
      → Served (given n blocks bs)

-- ---- its left side: the line made of what was kept of the pieces
unfoldable pub printed : Scan → List ℕ
printed s =
    let totals = totals_line s.trace.totals in
    cond (eqb s.bad 0) totals (bad_line s.bad)

-- the same of what the code keeps, which lent slices do not change
unfoldable pub printed_of : Reader → List ℕ
printed_of r =
    let totals = totals_line r.tally.totals in
    cond (eqb r.bad 0) totals (bad_line r.bad)

-- ---- what the program writes: the line of some input. Which one was read, no contract can say
pub record Wrote (line : List ℕ) : Type 0 where
  pub input : List ℕ
  pub is : line ≡ report input
