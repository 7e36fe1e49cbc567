-- What whole lines of the input do to a scan.
use Prim.Native.Nat.{ℕ, suc, ◌≤◌, ◌<◌}
use native.Mathlib.Omega.{arith}
use mathlib.Core.Path.{◌≡◌, refl, sym, ap, ◌∙◌}
use mathlib.Core.Bool.{Bool, false, ◌&&◌, cond}
use mathlib.Core.Logic.{◌≢◌}
use mathlib.Core.List.{List, [], ◌∷◌}
use lib.Dec.{eqb, leb, ltb}
use borrow.Author.Tests.{leb-true, ltb-true, eq-eqb, ne_eqb}
use Rattle.laws.specs.First.{Found, found, missing}
use Rattle.laws.proofs.First.{found-missing, cond-found}
use Rattle.laws.proofs.Tests.{and_left, and_right}
use Rattle.buftrace.specs.Input.{value_of, between}
use Rattle.buftrace.specs.Scan.{Scan, max_lines, spoilt, taken, least_at, end_at, closed}
use Rattle.buftrace.proofs.FeedLaws.{closed-late}

-- a scan with no bad line, of whose line begun this is known
abbrev pub begun : Scan → Bool → ℕ → Scan
begun s digits value =
    record {
      line = s.line;
      digits = digits;
      value = value;
      buffers = s.buffers;
      blocks = s.blocks;
      bad = 0;
      trace = s.trace;
    }

abbrev pub allowed : Scan → Found → Found
allowed s f = between (least_at s.line) (end_at s.line s.blocks) f

line_fed : Scan → List ℕ → Scan
line_fed s line =
    let on = taken s (allowed s (value_of line)) in
    cond (eqb s.bad 0) (cond (eqb s.line max_lines) (spoilt s) on) s

pub lines_fed : Scan → List (List ℕ) → Scan
lines_fed s [] = s
lines_fed s (line ∷ lines) = lines_fed (line_fed s line) lines

-- ---- no line, and one more
pub lines_none : (s : Scan) → lines_fed s [] ≡ s
unfolding lines_fed
lines_none s = refl

module _ (s : Scan) (line : List ℕ) (lines : List (List ℕ)) where
  pub lines-many : s.line ≡ max_lines → lines_fed (begun s false 0) (line ∷ lines) ≡ lines_fed (spoilt (begun s false 0)) lines
  unfolding lines_fed line_fed
  lines-many e = rw (eq-eqb s.line max_lines e)

  pub lines-on : s.line ≢ max_lines
      → lines_fed (begun s false 0) (line ∷ lines) ≡ lines_fed (taken (begun s false 0) (allowed s (value_of line))) lines
  unfolding lines_fed line_fed
  lines-on f = rw (ne_eqb s.line max_lines f)

-- ---- behind a bad line nothing changes
module _ (s : Scan) (h : s.bad ≢ 0) where
  line-bad : (line : List ℕ) → line_fed s line ≡ s
  unfolding line_fed
  line-bad line = rw (ne_eqb s.bad 0 h)

  lines-bad : (lines : List (List ℕ)) → lines_fed s lines ≡ s
  unfolding lines_fed
  lines-bad [] = refl
  lines-bad (line ∷ lines) = ap (λ x. lines_fed x lines) (line-bad line) ∙ lines-bad lines

  pub lines_end : (lines : List (List ℕ)) → closed (lines_fed s lines) ≡ s
  lines_end lines = ap closed (lines-bad lines) ∙ closed-late s h

pub spoilt-bad : (s : Scan) → (spoilt s).bad ≡ suc s.line
unfolding spoilt
spoilt-bad s = refl

pub spoilt-not : (s : Scan) → (spoilt s).bad ≢ 0
spoilt-not s e = let b = spoilt-bad s in omega arith

-- ---- the number of a line
pub taken-missing : (s : Scan) → taken s missing ≡ spoilt s
unfolding taken
taken-missing s = refl

pub between-found : (least end : ℕ) (f : Found) {v : ℕ} → between least end f ≡ found v → (f ≡ found v) × (least ≤ v) × (v < end)
unfolding between
between-found least end (found w) {v} e =
    let c = cond-found (leb least w && ltb w end) e in
    let low = leb-true least w (and_left (leb least w) (ltb w end) c.0) in
    let high = ltb-true w end (and_right (leb least w) (ltb w end) c.0) in
    let same = c.1 in (ap found same, omega arith, omega arith)
between-found least end missing e = found-missing (sym e)
