-- The clock sweep, probe by probe.
use Rattle.std.specs.Prelude.{ℕ, zero, suc, ◌+◌, ◌*◌, ◌<◌, ◌≡◌, true, false, cond, List, length, get_or, set, eqb}
use Rattle.laws.specs.First.{Found, found, missing}
use Rattle.bufmodel.specs.Word.{usage, pinned, use_less}

-- what a sweep leaves: the buffer taken, the words, the hand, and how many probes there were
pub record Swept : Type 0 where
  pub victim : Found
  pub words : List ℕ
  pub hand : ℕ
  pub probes : ℕ

abbrev pub swept : Found → List ℕ → ℕ → ℕ → Swept
swept v words hand probes = record { victim = v; words = words; hand = hand; probes = probes }

-- the hand moves on, wrapping at n
unfoldable pub next : ℕ → ℕ → ℕ
next n hand = cond (eqb (suc hand) n) 0 (suc hand)

-- ---- as published: the buffer at the hand is probed and the hand moves on. n buffers; `run` probes in a row so far found pinned
pub data Sweeps (n : ℕ) : ℕ → ℕ → List ℕ → Swept → Type 0 where
  -- pinned is passed
  passes : {run hand : ℕ} {words : List ℕ} {s : Swept} → pinned (get_or words hand 0) ≡ true → suc run < n
      → Sweeps n (suc run) (next n hand) words s
      → Sweeps n run hand words (swept s.victim s.words s.hand (s.probes + 1))
  -- n probes in a row that find pinned end it with nothing
  stops : {run hand : ℕ} {words : List ℕ} → pinned (get_or words hand 0) ≡ true → suc run ≡ n
      → Sweeps n run hand words (swept missing words (next n hand) 1)
  -- unpinned with usage above 0 loses one
  lowers : {run hand : ℕ} {words : List ℕ} {s : Swept} → pinned (get_or words hand 0) ≡ false → 0 < usage (get_or words hand 0)
      → Sweeps n 0 (next n hand) (set words hand (use_less (get_or words hand 0))) s
      → Sweeps n run hand words (swept s.victim s.words s.hand (s.probes + 1))
  -- unpinned with usage 0 is taken
  takes : {run hand : ℕ} {words : List ℕ} → pinned (get_or words hand 0) ≡ false → usage (get_or words hand 0) ≡ 0
      → Sweeps n run hand words (swept (found hand) words (next n hand) 1)

-- ---- the same as a function: at most `fuel` probes, after `probes` others
unfoldable pub sweep : ℕ → ℕ → ℕ → ℕ → ℕ → List ℕ → Swept
sweep zero n run probes hand words = swept missing words hand probes
sweep (suc fuel) n run probes hand words =
    let w = get_or words hand 0 in
    elim (pinned w) [
      | true ↦
          elim (eqb (suc run) n) [
            | true ↦ swept missing words (next n hand) (suc probes)
            | false ↦ sweep fuel n (suc run) (suc probes) (next n hand) words
          ]
      | false ↦
          elim (eqb (usage w) 0) [
            | true ↦ swept (found hand) words (next n hand) (suc probes)
            | false ↦ sweep fuel n 0 (suc probes) (next n hand) (set words hand (use_less w))
          ]
    ]

-- cap + 1 probes for each buffer are enough
unfoldable pub sweep_all : ℕ → List ℕ → ℕ → Swept
sweep_all cap words hand = sweep ((cap + 1) * length words) (length words) 0 0 hand words
