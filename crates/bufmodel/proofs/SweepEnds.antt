-- How a sweep ends: with a victim where a buffer is unpinned, with none where all are pinned, and within how many probes.
use Prim.Native.Nat.{ℕ, zero, suc, ◌+◌, ◌-◌, ◌*◌, ◌≤◌, ◌<◌}
use native.Mathlib.Nat.{add-zero, mul-le-mul_right}
use native.Mathlib.Numerals.{add-one}
use native.Mathlib.Omega.{arith}
use mathlib.Core.Path.{◌≡◌, refl, ap, ◌∙◌}
use mathlib.Core.Bool.{true, false}
use mathlib.Core.Logic.{◌≢◌, ◌⊎◌, inl, inr, ⊎_elim}
use mathlib.Core.List.{List}
use lib.ListN.{length, get_or, set, length-set}
use lib.Seq.{get_or-set_same, get_or-set_other}
use Rattle.laws.specs.First.{Found, found, missing}
use Rattle.laws.proofs.Tests.{eq-or-ne, true-or-false, lt-or-le}
use Rattle.bufmodel.specs.Word.{usage, pinned, use_less}
use Rattle.bufmodel.specs.Sweep.{Swept, swept, next, Sweeps, passes, stops, lowers, takes, sweep_all}
use Rattle.bufmodel.proofs.WordLaws.{pinned-same}
use Rattle.bufmodel.proofs.LessUsedLaws.{less-pins, less-usage}
use Rattle.bufmodel.proofs.SweepLaws.{next-end, next-on, next-lt, sweep-is, sweeps-same}

-- ---- the hand comes to buffer k after d more probes
pub data Ahead (n hand k d : ℕ) : Type 0 where
  straight : hand + d ≡ k → Ahead n hand k d
  around : hand + d ≡ k + n → Ahead n hand k d

ahead-here : {n hand k : ℕ} → hand < n → Ahead n hand k 0 → hand ≡ k
ahead-here h (straight p) = omega arith
ahead-here h (around p) = absurd (omega arith)

ahead-there : {n hand k d : ℕ} → suc d < n → Ahead n hand k (suc d) → k ≢ hand
ahead-there h (straight p) = λ e. omega arith
ahead-there h (around p) = λ e. omega arith

ahead-next : (n hand k d : ℕ) → hand < n → k < n → Ahead n hand k (suc d) → Ahead n (next n hand) k d
ahead-next n hand k d h l (straight p) =
    rw (next-on n hand (λ e. omega arith)) (straight (omega arith))
ahead-next n hand k d h l (around p) =
    ⊎_elim (λ e. rw (next-end n hand e) (straight (omega arith))) (λ f. rw (next-on n hand f) (around (omega arith)))
    (eq-or-ne (suc hand) n)

-- one probe earlier
ahead_before : (n hand k d : ℕ) → suc d < n → Ahead n (next n hand) k d → Ahead n hand k (suc d)
ahead_before n hand k d h (straight p) =
    ⊎_elim (λ e. around (omega (arith, next-end n hand e))) (λ f. straight (omega (arith, next-on n hand f)))
    (eq-or-ne (suc hand) n)
ahead_before n hand k d h (around p) =
    ⊎_elim (λ e. absurd (omega (arith, next-end n hand e))) (λ f. around (omega (arith, next-on n hand f)))
    (eq-or-ne (suc hand) n)

-- from k itself it is once round, less one
ahead-round : (n k : ℕ) → k < n → Ahead n (next n k) k (n - 1)
ahead-round n k l =
    ⊎_elim (λ e. straight (omega (arith, next-end n k e))) (λ f. around (omega (arith, next-on n k f))) (eq-or-ne (suc k) n)

-- every buffer is ahead, by less than n
pub ahead-some : (n hand k : ℕ) → hand < n → k < n → (d : ℕ) × Ahead n hand k d × (d < n)
ahead-some n hand k h l =
    ⊎_elim
    (λ m. (k + n - hand, around (omega arith), omega arith))
    (λ m. (k - hand, straight (omega arith), omega arith))
    (lt-or-le k hand)

-- ---- a sweep that ends with v within a number of probes
pub record Ends (n run hand : ℕ) (words : List ℕ) (v : Found) (limit : ℕ) : Type 0 where
  pub end : Swept
  pub sweeps : Sweeps n run hand words end
  pub is : end.victim ≡ v
  pub within : end.probes ≤ limit

module _ {n run hand : ℕ} {words : List ℕ} where
  ends-takes : {l : ℕ} → pinned (get_or words hand 0) ≡ false → usage (get_or words hand 0) ≡ 0 → 1 ≤ l
      → Ends n run hand words (found hand) l
  ends-takes e z h = record { end = swept (found hand) words (next n hand) 1; sweeps = takes e z; is = refl; within = h }

  ends-stops : {l : ℕ} → pinned (get_or words hand 0) ≡ true → suc run ≡ n → 1 ≤ l → Ends n run hand words missing l
  ends-stops e q h = record { end = swept missing words (next n hand) 1; sweeps = stops e q; is = refl; within = h }

  ends-passes : {v : Found} {l m : ℕ} → pinned (get_or words hand 0) ≡ true → suc run < n → l < m
      → Ends n (suc run) (next n hand) words v l → Ends n run hand words v m
  ends-passes e q h r =
      let s = r.end in
      record {
        end = swept s.victim s.words s.hand (s.probes + 1);
        sweeps = passes e q r.sweeps;
        is = r.is;
        within = omega arith;
      }

  ends-lowers : {v : Found} {l m : ℕ} → pinned (get_or words hand 0) ≡ false → 0 < usage (get_or words hand 0) → l < m
      → Ends n 0 (next n hand) (set words hand (use_less (get_or words hand 0))) v l → Ends n run hand words v m
  ends-lowers e q h r =
      let s = r.end in
      record {
        end = swept s.victim s.words s.hand (s.probes + 1);
        sweeps = lowers e q r.sweeps;
        is = r.is;
        within = omega arith;
      }

  ends-later : {v : Found} {l m : ℕ} → l ≤ m → Ends n run hand words v l → Ends n run hand words v m
  ends-later h r = record { end = r.end; sweeps = r.sweeps; is = r.is; within = omega arith }

-- some victim
abbrev pub Finds : ℕ → ℕ → ℕ → List ℕ → ℕ → Type 0
Finds n run hand words limit = (v : ℕ) × Ends n run hand words (found v) limit

finds-by : {n r h l r' h' l' : ℕ} {ws ws' : List ℕ} → ((v : Found) → Ends n r h ws v l → Ends n r' h' ws' v l')
    → Finds n r h ws l → Finds n r' h' ws' l'
finds-by f r = (r.0, f (found r.0) r.1)

-- ---- buffer k is unpinned with usage u, and the hand d probes before it: a victim is found within u * n + d + 1 probes
module _ (n k : ℕ) (kn : k < n) where
  -- with the hand at k, and with the hand before it
  abbrev FindsAt : ℕ → Type 0
  FindsAt u = (run : ℕ) (words : List ℕ) → length words ≡ n → pinned (get_or words k 0) ≡ false → usage (get_or words k 0) ≡ u
      → Finds n run k words (u * n + 1)

  abbrev pub FindsFrom : ℕ → ℕ → Type 0
  FindsFrom u d = (run hand : ℕ) (words : List ℕ) → length words ≡ n → hand < n → Ahead n hand k d → run + d < n
      → pinned (get_or words k 0) ≡ false → usage (get_or words k 0) ≡ u → Finds n run hand words (u * n + d + 1)

  far-step : (u d : ℕ) → FindsFrom u d → FindsFrom u (suc d)
  far-step u d on run hand words len h a few e q = go (true-or-false (pinned w)) (eq-or-ne (usage w) 0)
    where
      w : ℕ
      w = get_or words hand 0

      same : get_or (set words hand (use_less w)) k 0 ≡ get_or words k 0
      same = get_or-set_other words hand k (use_less w) 0 (ahead-there (omega arith) a)

      then : Ahead n (next n hand) k d
      then = ahead-next n hand k d h kn a

      go : (pinned w ≡ true) ⊎ (pinned w ≡ false) → (usage w ≡ 0) ⊎ (usage w ≢ 0) → Finds n run hand words (u * n + suc d + 1)
      go (inl p) t =
          finds-by (λ v. ends-passes p (omega arith) (omega arith))
          (on (suc run) (next n hand) words len (next-lt n hand h) then (omega arith) e q)
      go (inr p) (inl z) = (hand, ends-takes p z (omega arith))
      go (inr p) (inr f) =
          finds-by (λ v. ends-lowers p (omega arith) (omega arith))
          (on 0 (next n hand) (set words hand (use_less w)) (length-set words hand (use_less w) ∙ len) (next-lt n hand h) then
          (omega arith) (ap pinned same ∙ e) (ap usage same ∙ q))

  far : (u : ℕ) → FindsAt u → (d : ℕ) → FindsFrom u d
  far u at zero = λ run hand words len h a few e q. rw (ahead-here h a, add-zero (u * n)) (at run words len e q)
  far u at (suc d) = far-step u d (far u at d)

  near : (u : ℕ) → FindsAt u
  near zero run words len e q = (k, ends-takes e q (omega arith))
  near (suc u) run words len e q =
      let w = get_or words k 0 in
      let same = get_or-set_same words k (use_less w) 0 (omega arith) in
      finds-by (λ v. ends-lowers e (omega arith) (omega arith))
      (far u (near u) (n - 1) 0 (next n k) (set words k (use_less w)) (length-set words k (use_less w) ∙ len) (next-lt n k kn)
      (ahead-round n k kn) (omega arith)
      (ap pinned same ∙ pinned-same (use_less w) w (less-pins w) ∙ e) (omega (arith, ap usage same, less-usage w)))

  pub finds : (u d : ℕ) → FindsFrom u d
  finds u = far u (near u)

-- ---- every sweep ends, within u + 1 probes for each buffer if no usage is above u
-- an unpinned buffer that the hand comes to before the run is full
record Open (n run hand : ℕ) (words : List ℕ) : Type 0 where
  at : ℕ
  away : ℕ
  below : at < n
  ahead : Ahead n hand at away
  few : run + away < n
  free : pinned (get_or words at 0) ≡ false

module _ (n : ℕ) (words : List ℕ) where
  open-here : (run hand : ℕ) → run < n → hand < n → pinned (get_or words hand 0) ≡ false → Open n run hand words
  open-here run hand l h e =
      record { at = hand; away = 0; below = h; ahead = straight (omega arith); few = omega arith; free = e }

  open-before : (run hand : ℕ) → Open n (suc run) (next n hand) words → Open n run hand words
  open-before run hand o =
      record {
        at = o.at;
        away = suc o.away;
        below = o.below;
        ahead = ahead_before n hand o.at o.away (omega arith) o.ahead;
        few = omega arith;
        free = o.free;
      }

  -- there is one, or the run is full after these probes
  open-or-stuck : (m run hand : ℕ) → run + suc m ≡ n → hand < n → Open n run hand words ⊎ Ends n run hand words missing (suc m)
  open-or-stuck zero run hand q h =
      ⊎_elim
      (λ p. inr (ends-stops p (omega arith) (omega arith)))
      (λ p. inl (open-here run hand (omega arith) h p))
      (true-or-false (pinned (get_or words hand 0)))
  open-or-stuck (suc m) run hand q h =
      ⊎_elim
      (λ p.
      ⊎_elim
      (λ o. inl (open-before run hand o))
      (λ r. inr (ends-passes p (omega arith) (omega arith) r))
      (open-or-stuck m (suc run) (next n hand) (omega arith) (next-lt n hand h)))
      (λ p. inl (open-here run hand (omega arith) h p))
      (true-or-false (pinned (get_or words hand 0)))

pub sweep-ends : (n run hand u : ℕ) (words : List ℕ) → run < n → hand < n → length words ≡ n
    → ((i : ℕ) → i < n → usage (get_or words i 0) ≤ u) → (v : Found) × Ends n run hand words v ((u + 1) * n)
sweep-ends n run hand u words l h len few =
    ⊎_elim
    (λ o.
    let f = finds n o.at o.below _ o.away run hand words len h o.ahead o.few o.free refl in
    (found f.0, ends-later (omega (arith, mul-le-mul_right n (few o.at o.below))) f.1))
    (λ r. (missing, ends-later (omega arith) r))
    (open-or-stuck n words (n - suc run) run hand (omega arith) h)

-- ---- the sweep that the pool makes is as published, whatever is pinned
pub sweep_all-relates : (cap : ℕ) (words : List ℕ) (hand : ℕ) → hand < length words
    → ((i : ℕ) → i < length words → usage (get_or words i 0) ≤ cap)
    → Sweeps (length words) 0 hand words (sweep_all cap words hand) × ((sweep_all cap words hand).probes ≤ (cap + 1) * length words)
unfolding sweep_all
sweep_all-relates cap words hand h few =
    let r = (sweep-ends (length words) 0 hand cap words (omega arith) h refl few).1 in
    rw (sweep-is ((cap + 1) * length words) r.sweeps r.within) (r.sweeps, r.within)

-- a buffer is unpinned: it finds a victim
pub sweep-finds : (cap : ℕ) (words : List ℕ) (hand : ℕ) → hand < length words → (k : ℕ) → k < length words
    → pinned (get_or words k 0) ≡ false → ((i : ℕ) → i < length words → usage (get_or words i 0) ≤ cap)
    → (v : ℕ) × ((sweep_all cap words hand).victim ≡ found v) × ((sweep_all cap words hand).probes ≤ (cap + 1) * length words)
    × Sweeps (length words) 0 hand words (sweep_all cap words hand)
sweep-finds cap words hand h k l e few =
    let n = length words in
    let a = ahead-some n hand k h l in
    let f = finds n k l _ a.0 0 hand words refl h a.1 (omega (arith, a.2)) e refl in
    let all = sweep_all-relates cap words hand h few in
    (f.0, ap (λ (s : Swept). s.victim) (sweeps-same all.0 f.1.sweeps) ∙ f.1.is, all.1, all.0)

-- ---- every buffer is pinned: none is found, and the hand comes back to where it was
module _ (n k : ℕ) (kn : k < n) (words : List ℕ) (held : (i : ℕ) → i < n → pinned (get_or words i 0) ≡ true) where
  stuck : (d run hand : ℕ) → hand < n → Ahead n (next n hand) k d → run + suc d ≡ n
      → Sweeps n run hand words (swept missing words k (suc d))
  stuck zero run hand h a q = rw (← ahead-here (next-lt n hand h) a) (stops {run = run} (held hand h) (omega arith))
  stuck (suc d) run hand h a q =
      let l = next-lt n hand h in
      let r = stuck d (suc run) (next n hand) l (ahead-next n (next n hand) k d l kn a) (omega arith) in
      rw (← add-one (suc d)) (passes {run = run} (held hand h) (omega arith) r)

-- so the sweep of a pool with every buffer pinned finds none, after one probe for each
pub sweep-stuck : (words : List ℕ) (hand : ℕ) → hand < length words
    → ((i : ℕ) → i < length words → pinned (get_or words i 0) ≡ true)
    → (s : Swept) × Sweeps (length words) 0 hand words s × (s.victim ≡ missing) × (s.probes ≡ length words)
    × (s.words ≡ words) × (s.hand ≡ hand)
sweep-stuck words hand h held =
    let n = length words in
    let r = stuck n hand h words held (n - 1) 0 hand h (ahead-round n hand h) (omega arith) in
    (swept missing words hand (suc (n - 1)), r, refl, omega arith, refl, refl)
