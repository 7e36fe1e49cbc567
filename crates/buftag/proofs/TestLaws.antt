-- The test of the chains decides that they are sound, and the names distinct.
use mathlib.Core.Path.{◌≡◌, sym}
use mathlib.Core.Bool.{true, false}
use mathlib.Core.Logic.{⊎_elim}
use mathlib.Core.List.{List}
use Prim.Native.Nat.{ℕ, ◌<◌}
use native.Mathlib.Omega.{arith}
use lib.IntN.{ℤ}
use lib.ListN.{length}
use Rattle.laws.specs.Says.{Says}
use Rattle.laws.proofs.Tests.{lt-or-le}
use Rattle.laws.proofs.Says.{says-it, says-and, says-not, says_all, says-else, says-as}
use Rattle.buftag.specs.declared.link.Link.{Link}
use Rattle.buftag.specs.declared.link.Link.TheVariants.{End}
use Rattle.buftag.specs.Names.{name_at}
use Rattle.buftag.specs.Link.{link_at, is_end, Holds}
use Rattle.buftag.specs.Lookup.{used}
use Rattle.buftag.specs.Chain.{in_bucket, ChainsSound, Distinct, idle, twins, distinct_test, each_test, chains_test}
use Rattle.buftag.proofs.LinkLaws.{is_end-true, holds-says}
use Rattle.buftag.proofs.NameLaws.{says-same-name}
use Rattle.buftag.proofs.HoldsLaws.{used-in}

pub says-end : (l : Link) → Says (is_end l) (l ≡ End)
says-end l = record { holds = is_end-true l; shown = λ e. rw e }

module _ (words names : List ℕ) where
  Twins : ℕ → ℕ → Type 0
  Twins i j = ((used words i ≡ true) × (used words j ≡ true)) × (name_at names i ≡ name_at names j)

  says-twins : (i j : ℕ) → Says (twins words names i j) (Twins i j)
  unfolding twins Twins
  says-twins i j = says-and (says-and (says-it _) (says-it _)) (says-same-name (name_at names i) (name_at names j))

  -- no twins among the buffers in use
  pub distinct-say : Says (distinct_test words names) (Distinct words names)
  unfolding distinct_test Twins
  distinct-say =
      says-as
      (λ s i j u v e.
      ⊎_elim (λ l. absurd (s i (used-in words i u) j l ((u, v), e)))
      (λ l. ⊎_elim (λ m. absurd (s j (used-in words j v) i m ((v, u), sym e))) (λ m. omega arith) (lt-or-le i j))
      (lt-or-le j i))
      (λ d i l j m t. let q = d i j t.0.0 t.0.1 t.1 in omega arith)
      (says_all (length words) _ (λ i. (j : ℕ) → j < i → Twins i j → ⊥)
      (λ i l. says_all i _ (λ j. Twins i j → ⊥) (λ j m. says-not (says-twins i j))))

module _ (words names : List ℕ) (heads chain : List ℤ) where
  idle-say : (i : ℕ) → Says (idle words chain i) (used words i ≡ false → link_at chain i ≡ End)
  unfolding idle
  idle-say i = says-else (used words i) (says-end (link_at chain i))

  each-say : Says (each_test words names heads chain)
      ((b : ℕ) → b < length heads → Holds chain (link_at heads b) (in_bucket words names (length heads) b))
  unfolding each_test
  each-say = says_all (length heads) _ _ (λ b h. holds-says chain (link_at heads b) (in_bucket words names (length heads) b))

  -- the test decides
  pub chains-say : Says (chains_test words names heads chain) (ChainsSound words names heads chain × Distinct words names)
  unfolding chains_test
  chains-say =
      says-as
      (λ s. (record { each = s.0.0; idle = s.0.1 }, s.1))
      (λ p. ((p.0.each, p.0.idle), p.1))
      (says-and (says-and each-say (says_all (length chain) (idle words chain) _ (λ i h. idle-say i))) (distinct-say words names))
