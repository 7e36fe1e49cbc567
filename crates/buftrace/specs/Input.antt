-- The input of the program (document 02, 2026-06): lines of bytes, and the numbers in them.
use Rattle.std.specs.Prelude.{ℕ, zero, suc, ◌+◌, ◌-◌, ◌*◌, Bool, ◌&&◌, cond, List, [], ◌∷◌, eqb, leb, ltb}
use Rattle.laws.specs.First.{Found, found, missing}
use Rattle.bufmodel.specs.Sizes.{max_buffers, max_blocks}

abbrev pub newline : ℕ
newline = 10

-- ---- lines: each ends at a newline; what stands behind the last newline is a line too, unless it is empty
unfoldable pub onto : ℕ → List (List ℕ) → List (List ℕ)
onto b [] = (b ∷ []) ∷ []
onto b (line ∷ lines) = (b ∷ line) ∷ lines

unfoldable pub lines_of : List ℕ → List (List ℕ)
lines_of [] = []
lines_of (b ∷ bs) =
    let on = lines_of bs in
    let more = onto b on in
    let ended = [] ∷ on in
    cond (eqb b newline) ended more

-- ---- a number: one or more decimal digits, zeros in front allowed, nothing else in the line
unfoldable pub is_digit : ℕ → Bool
is_digit b = leb 48 b && leb b 57

unfoldable pub value_from : ℕ → List ℕ → Found
value_from n [] = found n
value_from n (b ∷ bs) =
    let on = value_from (n * 10 + (b - 48)) bs in
    cond (is_digit b) on missing

unfoldable pub value_of : List ℕ → Found
value_of [] = missing
value_of (b ∷ bs) = value_from 0 (b ∷ bs)

-- a number from `least` up to, not including, `end`; or that the line is bad
unfoldable pub between : ℕ → ℕ → Found → Found
between least end (found n) = cond (leb least n && ltb n end) (found n) missing
between least end missing = missing

-- ---- the whole input: N, the number of blocks, the list of block numbers; or the first bad line, counted from 1
pub data Given : Type 0 where
  given : ℕ → ℕ → List ℕ → Given
  bad : ℕ → Given

-- so many block numbers at most
abbrev pub max_uses : ℕ
max_uses = 1000000

-- one more number in front of what the later lines give; or that its line, line k, is the first bad one
unfoldable pub more : ℕ → Found → Given → Given
more k (found b) (given n blocks bs) = given n blocks (b ∷ bs)
more k (found b) (bad later) = bad later
more k missing later = bad k

-- the numbers of some lines, the first of them line k, at most `left` of them
unfoldable pub numbers : ℕ → ℕ → ℕ → ℕ → List (List ℕ) → Given
numbers n blocks k left [] = given n blocks []
numbers n blocks k zero (line ∷ lines) = bad k
numbers n blocks k (suc left) (line ∷ lines) =
    let on = numbers n blocks (suc k) left lines in
    more k (between 0 blocks (value_of line)) on

unfoldable pub with_blocks : ℕ → List (List ℕ) → Found → Given
with_blocks n lines (found blocks) = numbers n blocks 3 max_uses lines
with_blocks n lines missing = bad 2

-- a line that is missing is bad
unfoldable pub with_buffers : List (List ℕ) → Found → Given
with_buffers lines missing = bad 1
with_buffers [] (found n) = bad 2
with_buffers (line ∷ lines) (found n) = with_blocks n lines (between 0 (suc max_blocks) (value_of line))

unfoldable pub parse : List (List ℕ) → Given
parse [] = bad 1
parse (line ∷ lines) = with_buffers lines (between 1 (suc max_buffers) (value_of line))
