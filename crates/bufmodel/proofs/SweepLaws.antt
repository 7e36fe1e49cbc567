-- Laws of the sweep as published: the function computes its end, and what an end leaves of the words.
use Prim.Native.Nat.{ℕ, zero, suc, ◌+◌, ◌≤◌, ◌<◌}
use native.Mathlib.Omega.{arith}
use mathlib.Core.Path.{◌≡◌, refl, sym, ap, ◌∙◌}
use mathlib.Core.Bool.{true, false}
use mathlib.Core.Logic.{◌≢◌, ⊎_elim}
use mathlib.Core.List.{List}
use lib.ListN.{length, get_or, set, length-set}
use borrow.Author.Tests.{eq-eqb, ne_eqb}
use Rattle.laws.specs.First.{found, missing}
use Rattle.laws.proofs.First.{found-same, found-missing}
use Rattle.laws.proofs.Tests.{eq-or-ne}
use Rattle.bufmodel.specs.Word.{usage, pinned, use_less}
use Rattle.bufmodel.specs.Sweep.{Swept, swept, next, Sweeps, passes, stops, lowers, takes, sweep}
use Rattle.bufmodel.proofs.LessUsedLaws.{LessUsed, used-same, used-then, used-less, set-less}

-- ---- the hand
pub next-end : (n hand : ℕ) → suc hand ≡ n → next n hand ≡ 0
unfolding next
next-end n hand h = rw (eq-eqb (suc hand) n h)

pub next-on : (n hand : ℕ) → suc hand ≢ n → next n hand ≡ suc hand
unfolding next
next-on n hand h = rw (ne_eqb (suc hand) n h)

pub next-lt : (n hand : ℕ) → hand < n → next n hand < n
next-lt n hand l =
    ⊎_elim (λ e. omega (arith, next-end n hand e)) (λ f. omega (arith, next-on n hand f)) (eq-or-ne (suc hand) n)

-- ---- one probe of the function
module _ (fuel n run probes hand : ℕ) (words : List ℕ) where
  pub step-passes : pinned (get_or words hand 0) ≡ true → suc run < n
      → sweep (suc fuel) n run probes hand words ≡ sweep fuel n (suc run) (suc probes) (next n hand) words
  unfolding sweep
  step-passes e l = rw (e, sweep, ne_eqb (suc run) n (omega arith))

  pub step-stops : pinned (get_or words hand 0) ≡ true → suc run ≡ n
      → sweep (suc fuel) n run probes hand words ≡ swept missing words (next n hand) (suc probes)
  unfolding sweep
  step-stops e q = rw (e, sweep, eq-eqb (suc run) n q)

  pub step-lowers : pinned (get_or words hand 0) ≡ false → 0 < usage (get_or words hand 0)
      → sweep (suc fuel) n run probes hand words
      ≡ sweep fuel n 0 (suc probes) (next n hand) (set words hand (use_less (get_or words hand 0)))
  unfolding sweep
  step-lowers e l = rw (e, sweep, ne_eqb (usage (get_or words hand 0)) 0 (omega arith))

  pub step-takes : pinned (get_or words hand 0) ≡ false → usage (get_or words hand 0) ≡ 0
      → sweep (suc fuel) n run probes hand words ≡ swept (found hand) words (next n hand) (suc probes)
  unfolding sweep
  step-takes e z = rw (e, sweep, eq-eqb (usage (get_or words hand 0)) 0 z)

-- ---- the function computes what the relation says, and so the relation decides its end
pub sweep-of : {n : ℕ} (fuel probes : ℕ) {run hand : ℕ} {words : List ℕ} {s : Swept} → Sweeps n run hand words s → s.probes ≤ fuel
    → sweep fuel n run probes hand words ≡ swept s.victim s.words s.hand (probes + s.probes)
sweep-of zero probes (passes e l r) h = absurd (omega arith)
sweep-of zero probes (stops e q) h = absurd (omega arith)
sweep-of zero probes (lowers e l r) h = absurd (omega arith)
sweep-of zero probes (takes e z) h = absurd (omega arith)
sweep-of (suc fuel) probes (passes {s} e l r) h =
    step-passes _ _ _ _ _ _ e l ∙ sweep-of fuel (suc probes) r (omega arith) ∙ ap (swept s.victim s.words s.hand) (omega arith)
sweep-of (suc fuel) probes (stops e q) h = step-stops _ _ _ _ _ _ e q ∙ ap (swept _ _ _) (omega arith)
sweep-of (suc fuel) probes (lowers {s} e l r) h =
    step-lowers _ _ _ _ _ _ e l ∙ sweep-of fuel (suc probes) r (omega arith) ∙ ap (swept s.victim s.words s.hand) (omega arith)
sweep-of (suc fuel) probes (takes e z) h = step-takes _ _ _ _ _ _ e z ∙ ap (swept _ _ _) (omega arith)

-- with no probes before
pub sweep-is : {n run hand : ℕ} {words : List ℕ} {s : Swept} (fuel : ℕ) → Sweeps n run hand words s → s.probes ≤ fuel
    → sweep fuel n run 0 hand words ≡ s
sweep-is {s} fuel r h = sweep-of fuel 0 r h ∙ ap (swept s.victim s.words s.hand) (omega arith)

-- a sweep has one end
pub sweeps-same : {n run hand : ℕ} {words : List ℕ} {s t : Swept} → Sweeps n run hand words s → Sweeps n run hand words t → s ≡ t
sweeps-same {s} {t} a b =
    let fuel = s.probes + t.probes in
    sym (sweep-is fuel a (omega arith)) ∙ sweep-is fuel b (omega arith)

-- ---- what a sweep leaves
pub record SweptFrom (words : List ℕ) (s : Swept) : Type 0 where
  pub same_length : length s.words ≡ length words
  pub each : (i : ℕ) → LessUsed (get_or words i 0) (get_or s.words i 0)
  pub hand-lt : s.hand < length words
  -- the victim is a buffer, unpinned and unused
  pub taken : (v : ℕ) → s.victim ≡ found v
      → (v < length words) × (pinned (get_or s.words v 0) ≡ false) × (usage (get_or s.words v 0) ≡ 0)

-- one probe earlier
from-earlier : {a b : List ℕ} {s : Swept} → length b ≡ length a → ((i : ℕ) → LessUsed (get_or a i 0) (get_or b i 0)) → SweptFrom b s
    → SweptFrom a (swept s.victim s.words s.hand (s.probes + 1))
from-earlier len kept f =
    record {
      same_length = f.same_length ∙ len;
      each = λ i. used-then (kept i) (f.each i);
      hand-lt = rw len at f.hand-lt;
      taken = rw len at f.taken;
    }

-- every sweep leaves them so
pub sweeps-from : {n run hand : ℕ} {words : List ℕ} {s : Swept} → hand < n → length words ≡ n → Sweeps n run hand words s
    → SweptFrom words s
sweeps-from h len (passes e l r) = from-earlier refl (λ i. used-same) (sweeps-from (next-lt _ _ h) len r)
sweeps-from {n} {hand} h len (stops e q) =
    record {
      same_length = refl;
      each = λ i. used-same;
      hand-lt = omega (arith, next-lt n hand h);
      taken = λ v q. found-missing (sym q);
    }
sweeps-from h len (lowers {hand} {words} e l r) =
    let same = length-set words hand (use_less (get_or words hand 0)) in
    from-earlier same (set-less words hand _ (omega arith) (used-less _)) (sweeps-from (next-lt _ _ h) (same ∙ len) r)
sweeps-from {n} {hand} h len (takes e z) =
    record {
      same_length = refl;
      each = λ i. used-same;
      hand-lt = omega (arith, next-lt n hand h);
      taken = λ v q. rw (sym (found-same q)) (omega arith, e, z);
    }
