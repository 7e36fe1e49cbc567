-- The input byte by byte, and line by line: the same numbers, the same bad line.
use Prim.Native.Nat.{ℕ, zero, suc, ◌+◌, ◌≤◌, ◌<◌}
use native.Mathlib.Omega.{arith}
use mathlib.Core.Path.{sym, ◌≡◌, refl, ap, ◌∙◌}
use mathlib.Core.Bool.{false}
use mathlib.Core.List.{List, [], ◌∷◌, ◌++◌}
use borrow.Author.Tests.{ne_eqb, lt-ltb, le-ltb}
use Rattle.laws.specs.First.{Found, found, missing}
use Rattle.bufmodel.specs.Sizes.{max_buffers, max_blocks}
use Rattle.buftrace.specs.Input.{Given, given, bad, lines_of, value_of, between, max_uses, more, numbers, with_blocks, with_buffers, parse}
use Rattle.buftrace.specs.Usage.{Below, no_more, one_more_is}
use Rattle.buftrace.specs.Trace.{Trace, unused, use1, uses}
use Rattle.buftrace.specs.Scan.{fed, fed_pieces, together, Scan, start, spoilt, taken_at, taken, least_at, end_at, feds, closed, finished}
use Rattle.buftrace.proofs.LineLaws.{allowed, lines_fed, lines_none, lines-many, lines-on, lines_end}
use Rattle.buftrace.proofs.LineLaws.{spoilt-bad, spoilt-not, taken-missing, between-found}
use Rattle.buftrace.proofs.ByteLaws.{Alike, bytes-lines}

-- what a scan at its end says of what was given
pub data Tells : Given → Scan → Type 0 where
  tells-bad : {k : ℕ} {s : Scan} → 0 < k → s.bad ≡ k → Tells (bad k) s
  tells-given : {n blocks : ℕ} {bs : List ℕ} {s : Scan} → s.bad ≡ 0 → s.trace ≡ uses n unused bs → 1 ≤ n → n ≤ max_buffers
      → blocks ≤ max_blocks
      → Below blocks bs
      → Tells (given n blocks bs) s

-- pieces
pub feds-then : (s : Scan) (a b : List ℕ) → feds s (a ++ b) ≡ feds (feds s a) b
unfolding feds
feds-then s [] b = refl
feds-then s (x ∷ a) b = feds-then (fed s x) a b

pub pieces_are : (s : Scan) (pieces : List (List ℕ)) → fed_pieces s pieces ≡ feds s (together pieces)
unfolding feds fed_pieces together
pieces_are s [] = refl
pieces_are s (piece ∷ pieces) = pieces_are (feds s piece) pieces ∙ sym (feds-then s piece (together pieces))

-- the same of lines behind the first two, from a trace on
data TellsFrom (n blocks : ℕ) (t : Trace) : Given → Scan → Type 0 where
  from-bad : {k : ℕ} {s : Scan} → 0 < k → s.bad ≡ k → TellsFrom n blocks t (bad k) s
  from-given : {bs : List ℕ} {s : Scan} → s.bad ≡ 0 → s.trace ≡ uses n t bs → Below blocks bs
      → TellsFrom n blocks t (given n blocks bs) s

-- a scan at the start of a line
abbrev ready : ℕ → ℕ → ℕ → Trace → Scan
ready line n blocks t = record { line = line; digits = false; value = 0; buffers = n; blocks = blocks; bad = 0; trace = t }

-- a bad line, and any lines behind it
spoilt-ends : (s : Scan) (lines : List (List ℕ)) → (closed (lines_fed (spoilt s) lines)).bad ≡ suc s.line
spoilt-ends s lines = ap (λ x. x.bad) (lines_end (spoilt s) (spoilt-not s) lines) ∙ spoilt-bad s

closed-done : (line n blocks : ℕ) (t : Trace) → 2 ≤ line → closed (ready line n blocks t) ≡ ready line n blocks t
unfolding closed
closed-done line n blocks t l = rw (le-ltb line 2 l)

-- one of the first two lines is missing
closed-early : (line n blocks : ℕ) (t : Trace) → line < 2 → (closed (ready line n blocks t)).bad ≡ suc line
unfolding closed
closed-early line n blocks t l = rw (lt-ltb line 2 l) (spoilt-bad (ready line n blocks t))

-- ---- the lines behind the first two
more-missing : (k : ℕ) (later : Given) → more k missing later ≡ bad k
unfolding more
more-missing k later = refl

from-spoilt : {n blocks k : ℕ} {t : Trace} {s : Scan} → s.bad ≡ suc k → TellsFrom n blocks t (bad (suc k)) s
from-spoilt {k} e = from-bad {k = suc k} (omega arith) e

module _ (n blocks : ℕ) where
  -- behind the first two lines and j numbers
  abbrev reading : ℕ → Trace → Scan
  reading j t = ready (suc (suc j)) n blocks t

  abbrev NumbersTell : ℕ → ℕ → Trace → List (List ℕ) → Type 0
  NumbersTell j left t lines =
      TellsFrom n blocks t (numbers n blocks (suc (suc (suc j))) left lines) (closed (lines_fed (reading j t) lines))

  from_more : (k b : ℕ) (t : Trace) {g : Given} {s : Scan} → b < blocks → TellsFrom n blocks (use1 n t b) g s
      → TellsFrom n blocks t (more k (found b) g) s
  unfolding more uses
  from_more k b t l (from-bad p e) = from-bad p e
  from_more k b t l (from-given z e w) = from-given z e (one_more_is l w)

  allowed-number : (j : ℕ) (t : Trace) (f : Found) → allowed (reading j t) f ≡ between 0 blocks f
  unfolding least_at end_at
  allowed-number j t f = rw (ne_eqb (suc (suc j)) 0 (omega arith), ne_eqb (suc (suc j)) 1 (omega arith))

  number-taken : (j : ℕ) (t : Trace) (b : ℕ) → taken (reading j t) (found b) ≡ reading (suc j) (use1 n t b)
  unfolding taken taken_at
  number-taken j t b = refl

  numbers-none : (j left : ℕ) (t : Trace) → NumbersTell j left t []
  unfolding numbers uses
  numbers-none j left t =
      rw (lines_none (reading j t), closed-done (suc (suc j)) n blocks t (omega arith)) (from-given refl refl no_more)

  numbers-many : (j : ℕ) (t : Trace) (line : List ℕ) (lines : List (List ℕ)) → j ≡ max_uses → NumbersTell j zero t (line ∷ lines)
  unfolding numbers
  numbers-many j t line lines e =
      rw (lines-many (reading j t) line lines (omega arith)) (from-spoilt (spoilt-ends (reading j t) lines))

  numbers_more : (j left : ℕ) (t : Trace) (line : List ℕ) (lines : List (List ℕ)) → suc left + j ≡ max_uses
      → ((b : ℕ) → NumbersTell (suc j) left (use1 n t b) lines)
      → NumbersTell j (suc left) t (line ∷ lines)
  unfolding numbers
  numbers_more j left t line lines e ih =
      rw (lines-on (reading j t) line lines (λ q. omega arith), allowed-number j t (value_of line))
      (go (between 0 blocks (value_of line)) refl)
    where
      go : (f : Found) → between 0 blocks (value_of line) ≡ f
          → TellsFrom n blocks t (more (suc (suc (suc j))) f (numbers n blocks (suc (suc (suc (suc j)))) left lines))
          (closed (lines_fed (taken (reading j t) f) lines))
      go (found b) q =
          rw (number-taken j t b) (from_more (suc (suc (suc j))) b t (between-found 0 blocks (value_of line) q).2 (ih b))
      go missing q = rw (more-missing, taken-missing) (from-spoilt (spoilt-ends (reading j t) lines))

  numbers-tell : (lines : List (List ℕ)) (j left : ℕ) (t : Trace) → left + j ≡ max_uses → NumbersTell j left t lines
  numbers-tell [] j left t e = numbers-none j left t
  numbers-tell (line ∷ lines) j zero t e = numbers-many j t line lines (omega arith)
  numbers-tell (line ∷ lines) j (suc left) t e =
      numbers_more j left t line lines e (λ b. numbers-tell lines (suc j) left (use1 n t b) (omega arith))

-- ---- the first two lines
tells-spoilt : {k : ℕ} {s : Scan} → s.bad ≡ suc k → Tells (bad (suc k)) s
tells-spoilt {k} e = tells-bad {k = suc k} (omega arith) e

from-tells : {n blocks : ℕ} {g : Given} {s : Scan} → 1 ≤ n → n ≤ max_buffers → blocks ≤ max_blocks → TellsFrom n blocks unused g s
    → Tells g s
from-tells l m r (from-bad p e) = tells-bad p e
from-tells l m r (from-given z e w) = tells-given z e l m r w

module _ (n : ℕ) (l : 1 ≤ n) (m : n ≤ max_buffers) where
  blocks-tell : (lines : List (List ℕ)) (f : Found) → ((blocks : ℕ) → f ≡ found blocks → blocks ≤ max_blocks)
      → Tells (with_blocks n lines f) (closed (lines_fed (taken (ready 1 n 0 unused) f) lines))
  unfolding with_blocks taken taken_at
  blocks-tell lines (found blocks) h = from-tells l m (h blocks refl) (numbers-tell n blocks lines 0 max_uses unused refl)
  blocks-tell lines missing h = tells-spoilt (spoilt-ends (ready 1 n 0 unused) lines)

  second-tells : (lines : List (List ℕ)) → Tells (with_buffers lines (found n)) (closed (lines_fed (ready 1 n 0 unused) lines))
  unfolding with_buffers least_at end_at
  second-tells [] = rw (lines_none (ready 1 n 0 unused)) (tells-spoilt (closed-early 1 n 0 unused (omega arith)))
  second-tells (line ∷ lines) =
      rw (lines-on (ready 1 n 0 unused) line lines (λ q. omega arith))
      (blocks-tell lines _ (λ blocks e. omega (arith, (between-found 0 (suc max_blocks) (value_of line) e).2)))

buffers-tell : (lines : List (List ℕ)) (f : Found) → ((n : ℕ) → f ≡ found n → (1 ≤ n) × (n ≤ max_buffers))
    → Tells (with_buffers lines f) (closed (lines_fed (taken start f) lines))
unfolding with_buffers taken taken_at
buffers-tell lines (found n) h = second-tells n (h n refl).0 (h n refl).1 lines
buffers-tell lines missing h = tells-spoilt (spoilt-ends start lines)

lines-tell : (lines : List (List ℕ)) → Tells (parse lines) (closed (lines_fed start lines))
unfolding parse least_at end_at
lines-tell [] = rw (lines_none start) (tells-spoilt (closed-early 0 0 0 unused (omega arith)))
lines-tell (line ∷ lines) =
    rw (lines-on start line lines (λ q. omega arith))
    (buffers-tell lines _ (λ n e. let k = between-found 1 (suc max_buffers) (value_of line) e in (k.1, omega (arith, k.2))))

alike-tells : {g : Given} {s t : Scan} → Alike s t → Tells g t → Tells g s
alike-tells a (tells-bad p e) = tells-bad p (a.bad ∙ e)
alike-tells a (tells-given z e l m r w) = tells-given (a.bad ∙ z) (a.trace z ∙ e) l m r w

pub input-is : (input : List ℕ) → Tells (parse (lines_of input)) (finished (feds start input))
input-is input = alike-tells (bytes-lines start (omega arith) input) (lines-tell (lines_of input))
