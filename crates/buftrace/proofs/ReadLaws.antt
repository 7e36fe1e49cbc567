-- Reads, one after the other, from a new reader over slices of zeros on.
use Prim.Native.Nat.{ℕ}
use native.Mathlib.Omega.{arith}
use mathlib.Core.Path.{◌≡◌, refl, sym, ap, ◌∙◌}
use mathlib.Core.Logic.{⊎_elim}
use mathlib.Core.List.{List, [], ◌∷◌, ◌++◌}
use lib.ListN.{replicate, length-replicate}
use Rattle.laws.proofs.Lists.{get_d-replicate-all}
use Rattle.laws.proofs.Tests.{eq-or-ne, never}
use Rattle.bufmodel.specs.Sizes.{max_buffers, max_blocks}
use Rattle.buftrace.specs.declared.scan.Reader.{Reader}
use Rattle.buftrace.specs.Trace.{trace_of}
use Rattle.buftrace.specs.Scan.{Scan, Ready, Fed, max_lines, start, new_reader, scan_of, spoilt, stepped, fed, feds, broken}
use Rattle.buftrace.proofs.FeedLaws.{digit-test, stepped-past, stepped-other}
use Rattle.buftrace.proofs.ScanLaws.{feds-then}

feds-none : (s : Scan) → feds s [] ≡ s
unfolding feds
feds-none s = refl

pub fed-none : (s : Scan) → Fed s s
fed-none s = record { bytes = []; is = sym (feds-none s) }

pub fed_then : {s t u : Scan} → Fed s t → Fed t u → Fed s u
fed_then {s} {t} {u} f g =
    record {
      bytes = f.bytes ++ g.bytes;
      is = g.is ∙ ap (λ t. feds t g.bytes) f.is ∙ sym (feds-then s f.bytes g.bytes);
    }

-- a read that fails is as a byte that is neither digit nor newline
stepped-none : (s : Scan) → stepped s 0 ≡ spoilt s
stepped-none s =
    ⊎_elim (λ e. stepped-past s 0 e) (λ n. stepped-other s 0 n (λ e. absurd (omega (arith, e))) (digit-test 0))
    (eq-or-ne s.line max_lines)

broken-is : (s : Scan) → broken s ≡ feds s (0 ∷ [])
unfolding broken feds fed
broken-is s = rw (stepped-none s) refl

pub fed-broken : {s t : Scan} → t ≡ broken s → Fed s t
fed-broken {s} e = record { bytes = 0 ∷ []; is = e ∙ broken-is s }

-- ---- before the first byte, over slices of zeros
pub ready-as : {r t : Reader} {states held place : List ℕ} → r ≡ t → Ready t states held place → Ready r states held place
ready-as e k = rw (e) k

new-start : (states held : List ℕ) → scan_of new_reader states held ≡ start
unfolding trace_of
new-start states held = refl

pub new-ready : Ready new_reader (replicate max_buffers 0) (replicate max_buffers 0) (replicate max_blocks 0)
new-ready =
    record {
      fit =
          record {
            few = omega arith;
            words = length-replicate {A = ℕ} max_buffers 0;
            blocks = length-replicate {A = ℕ} max_buffers 0;
            table = length-replicate {A = ℕ} max_blocks 0;
            used = omega arith;
            hand = omega arith;
            probes = omega arith;
            idle = λ i l. absurd (omega (arith, l));
            below = λ i l. absurd (omega (arith, l));
            there = λ i l. absurd (omega (arith, l));
            only = λ b l z. absurd (omega (arith, rw (get_d-replicate-all {A = ℕ} max_blocks b 0) at z));
          };
      line = omega arith;
      begun = λ e. never e refl;
      value = omega arith;
      blocks = omega arith;
      none = λ e. refl;
      some = λ l. absurd (omega (arith, l));
      uses = omega arith;
    }

pub fed-from : (r : Reader) (states held : List ℕ) {t : Scan} → r ≡ new_reader → Fed (scan_of r states held) t → Fed start t
fed-from r states held e f = rw (ap (λ r. scan_of r states held) e ∙ new-start states held) at f
