-- A buffer leaves its chain as the code does it, step by step.
use Prim.Native.Nat.{ℕ, zero, suc, ◌+◌, ◌≤◌, ◌<◌}
use mathlib.Core.Path.{◌≡◌, refl}
use mathlib.Core.Bool.{true, false}
use mathlib.Core.List.{List}
use native.Mathlib.Omega.{arith}
use native.Mathlib.Numerals.{add-one}
use lib.IntN.{ℤ}
use lib.ListN.{length, set}
use borrow.Author.Tests.{lt-ltb, le-ltb}
use Rattle.std.specs.Prelude.{Some, None}
use Rattle.buftag.specs.declared.link.Link.{Link}
use Rattle.buftag.specs.declared.link.Link.TheVariants.{To, End, Off, Bad}
use Rattle.buftag.specs.Link.{number_at, link_at, is_to}
use Rattle.buftag.specs.Chain.{prev, past_heads, past_chain}
use Rattle.buftag.proofs.TagLaws.{NotTo}

-- ---- the search for the place before i, a turn of the loop
module _ (chain : List ℤ) (i : ℕ) where
  -- no step is left
  pub prev-none : (l : Link) → prev chain i 0 l ≡ None
  unfolding prev
  prev-none l = refl

  -- a link that is no place
  pub prev-other : (k : ℕ) (l : Link) → NotTo l → prev chain i k l ≡ None
  unfolding prev
  prev-other zero l h = refl
  prev-other (suc k) (To j) h = absurd (h _ refl)
  prev-other (suc k) End h = refl
  prev-other (suc k) Off h = refl
  prev-other (suc k) Bad h = refl

  -- a place outside the memory
  pub prev-past : (k p : ℕ) → length chain ≤ p → prev chain i k (To p) ≡ None
  unfolding prev
  prev-past zero p h = refl
  prev-past (suc k) p h = rw (le-ltb p (length chain) h)

  -- a place whose link leads to i
  pub prev-hit : (k p : ℕ) → 0 < k → p < length chain → is_to i (link_at chain p) ≡ true → prev chain i k (To p) ≡ Some p
  unfolding prev
  prev-hit zero p k h e = absurd (omega arith)
  prev-hit (suc k) p q h e = rw (lt-ltb p (length chain) h, e)

  -- and one whose link does not
  pub prev-step : (k p : ℕ) → p < length chain → is_to i (link_at chain p) ≡ false
      → prev chain i (suc k) (To p) ≡ prev chain i k (link_at chain p)
  unfolding prev
  prev-step k p h e = rw (lt-ltb p (length chain) h, e)

  -- the same with the steps counted as the code does
  pub prev-on : {k : ℕ} (j p : ℕ) → k ≡ j + 1 → p < length chain → is_to i (link_at chain p) ≡ false
      → prev chain i k (To p) ≡ prev chain i j (link_at chain p)
  prev-on j p q h e = rw (q, add-one) (prev-step j p h e)

-- ---- the ways of leading past i, from the head of bucket b on
module _ (heads chain : List ℤ) (b i : ℕ) where
  -- heads and chain are as the definition has them
  abbrev pub Led : List ℤ → List ℤ → Type 0
  Led h c = (h ≡ past_heads heads chain b i) × (c ≡ past_chain heads chain b i)

  -- the head leads to i
  pub led-head : (z : ℤ) → z ≡ number_at chain i → is_to i (link_at heads b) ≡ true → Led (set heads b z) chain
  unfolding past_heads past_chain
  led-head z e t = (rw (t, e), rw t)

  -- no link leads to i
  pub led-none : prev chain i (length chain) (link_at heads b) ≡ None → is_to i (link_at heads b) ≡ false → Led heads chain
  unfolding past_heads past_chain
  led-none e t = (rw t, rw (t, e))

  -- the link at p leads to i
  pub led-prev : (z : ℤ) (p : ℕ) → z ≡ number_at chain i → prev chain i (length chain) (link_at heads b) ≡ Some p
      → is_to i (link_at heads b) ≡ false → Led heads (set chain p z)
  unfolding past_heads past_chain
  led-prev z p q e t = (rw t, rw (t, e, q))
