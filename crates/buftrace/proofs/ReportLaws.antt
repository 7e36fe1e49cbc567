-- THE CLAIM: the line made of the input byte by byte, without page bytes, is the line that the pool's own calls give.
use Prim.Native.Nat.{ℕ, ◌≤◌, ◌<◌}
use native.Mathlib.Omega.{arith}
use mathlib.Core.Path.{◌≡◌, refl, sym, ap, ◌∙◌}
use mathlib.Core.List.{List}
use borrow.Author.Tests.{ne_eqb}
use Rattle.laws.specs.Times.{times}
use Rattle.bufmodel.specs.Sizes.{block_sizes, max_buffers, max_blocks}
use Rattle.buftrace.specs.declared.scan.Reader.{Reader}
use Rattle.buftrace.specs.Input.{Given, lines_of, parse}
use Rattle.buftrace.specs.Usage.{Below, used_on}
use Rattle.buftrace.specs.Trace.{unused, uses, trace_of}
use Rattle.buftrace.specs.Scan.{Scan, start, feds, fed_pieces, together, finished, scan_of, Fed}
use Rattle.buftrace.specs.Report.{totals_line, bad_line, reported, report, printed, printed_of, Wrote, Served, served-bad, served-given}
use Rattle.buftrace.proofs.UsageLaws.{Fresh, set-up-done, trace-is, served}
use Rattle.buftrace.proofs.ScanLaws.{Tells, tells-bad, tells-given, pieces_are, input-is}

size-permitted : 0 < times 1024 block_sizes
unfolding times
size-permitted = omega arith

fresh : (n blocks : ℕ) → 1 ≤ n → n ≤ max_buffers → blocks ≤ max_blocks → Fresh 1024 n n blocks
fresh n blocks l m b =
    record { size = size-permitted; least = l; most = m; wide = omega arith; heads = omega (arith, m); room = b }

used-is : (n blocks : ℕ) (bs : List ℕ) → 1 ≤ n → n ≤ max_buffers → blocks ≤ max_blocks → Below blocks bs
    → used_on n blocks bs ≡ (uses n unused bs).totals
unfolding used_on
used-is n blocks bs l m b below = trace-is 1024 n n blocks (fresh n blocks l m b) bs below

printed-bad : (s : Scan) (k : ℕ) → 0 < k → s.bad ≡ k → printed s ≡ bad_line k
unfolding printed
printed-bad s k l e = rw (e, ne_eqb k 0 (λ z. absurd (omega (arith, z, l)))) refl

printed-given : (s : Scan) → s.bad ≡ 0 → printed s ≡ totals_line s.trace.totals
unfolding printed
printed-given s e = rw (e) refl

reported-is : (g : Given) (s : Scan) → Tells g s → printed s ≡ reported g
unfolding reported
reported-is g s (tells-bad {k} l e) = printed-bad s k l e
reported-is g s (tells-given {n} {blocks} {bs} e t l m b below) =
    printed-given s e ∙ ap (λ u. totals_line u.totals) t ∙ ap totals_line (sym (used-is n blocks bs l m b below))

pub printed-of : (r : Reader) (states held : List ℕ) → printed (scan_of r states held) ≡ printed_of r
unfolding printed printed_of trace_of
printed-of r states held = refl

pub costs : (input : List ℕ) → printed (finished (feds start input)) ≡ report input
unfolding report
costs input = reported-is (parse (lines_of input)) (finished (feds start input)) (input-is input)

-- pieces, one after the other
pub pieces-cost : (pieces : List (List ℕ)) → printed (finished (fed_pieces start pieces)) ≡ report (together pieces)
pieces-cost pieces = ap (λ s. printed (finished s)) (pieces_are start pieces) ∙ costs (together pieces)

-- no call on the way to the numbers is refused
all-served : (g : Given) {s : Scan} → Tells g s → Served g
all-served g (tells-bad l e) = served-bad
all-served g (tells-given {n} {blocks} {bs} e t l m b below) =
    let f = fresh n blocks l m b in
    served-given (set-up-done 1024 n n blocks f) (served 1024 n n blocks f bs below)

pub never-refused : (input : List ℕ) → Served (parse (lines_of input))
never-refused input = all-served (parse (lines_of input)) (input-is input)

-- the line of some input
pub wrote : {s : Scan} {line : List ℕ} → Fed start s → line ≡ printed (finished s) → Wrote line
wrote f l = record { input = f.bytes; is = l ∙ ap (λ s. printed (finished s)) f.is ∙ costs f.bytes }
