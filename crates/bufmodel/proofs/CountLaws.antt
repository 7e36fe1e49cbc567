-- Laws of the private counts: what a changed count does to the number of a buffer's holders.
use Prim.Native.Nat.{ℕ, ◌+◌, ◌*◌, ◌≤◌, ◌<◌}
use native.Mathlib.Omega.{arith}
use mathlib.Core.Path.{◌≡◌, ap}
use mathlib.Core.Bool.{not}
use mathlib.Core.Logic.{◌≢◌, ⊎_elim}
use mathlib.Core.List.{List}
use lib.ListN.{length, length-set}
use lib.Seq.{get_or-set_same, get_or-set_other}
use lib.Dec.{eqb}
use borrow.Author.Tests.{eq-eqb, ne_eqb}
use Rattle.laws.specs.Sum.{ind, count}
use Rattle.laws.proofs.Tests.{eq-or-ne}
use Rattle.laws.proofs.Sum.{ind-one, ind-none, sum_same, count-not, count-some, count-change}
use Rattle.bufmodel.specs.Counts.{max_holders, count_place, count_at, set_count, has_pin, holders_of}

pub length-set_count : (cs : List ℕ) (i h c : ℕ) → length (set_count cs i h c) ≡ length cs
unfolding set_count
length-set_count cs i h c = length-set cs (count_place i h) c

-- equal counts of a buffer give as many holders
pub holders-same : (cs ds : List ℕ) (i : ℕ) → ((h : ℕ) → h < max_holders → count_at cs i h ≡ count_at ds i h) → holders_of cs i ≡ holders_of ds i
unfolding holders_of has_pin count
holders-same cs ds i same =
    sum_same (λ h. ind (not (eqb (count_at cs i h) 0))) (λ h. ind (not (eqb (count_at ds i h) 0))) max_holders
    (λ h l. ap (λ (c : ℕ). ind (not (eqb c 0))) (same h l))

module _ (cs : List ℕ) (i h c : ℕ) (fits : i * max_holders + max_holders ≤ length cs) (l : h < max_holders) where
  pub count_same : count_at (set_count cs i h c) i h ≡ c
  unfolding count_at set_count
  count_same = get_or-set_same cs (count_place i h) c 0 (omega arith)

  pub count-other : (j k : ℕ) → k < max_holders → (j ≡ i → k ≡ h → ⊥) → count_at (set_count cs i h c) j k ≡ count_at cs j k
  unfolding count_at set_count
  count-other j k m ne = get_or-set_other cs (count_place i h) (count_place j k) c 0 (λ e. ne (omega arith) (omega arith))

  row_other : (k : ℕ) → k ≢ h → count_at (set_count cs i h c) i k ≡ count_at cs i k
  unfolding count_at set_count
  row_other k ne = get_or-set_other cs (count_place i h) (count_place i k) c 0 (λ e. ne (omega arith))

  -- other buffers have as many holders as before
  pub holders-other : (j : ℕ) → j ≢ i → holders_of (set_count cs i h c) j ≡ holders_of cs j
  holders-other j ne = holders-same (set_count cs i h c) cs j (λ k m. count-other j k m (λ e f. ne e))

  -- this one: one more or one less at most
  pub holders-change : holders_of (set_count cs i h c) i + ind (has_pin cs i h) ≡ holders_of cs i + ind (not (eqb c 0))
  unfolding holders_of has_pin
  holders-change =
      omega (
        arith,
        count-change (has_pin cs i) (has_pin (set_count cs i h c) i) h (λ k ne. ap (λ (x : ℕ). not (eqb x 0)) (row_other k ne)) max_holders l,
        ap (λ (x : ℕ). ind (not (eqb x 0))) count_same,
      )

-- ---- a holder that has a pin, or none
module _ (cs : List ℕ) (i h : ℕ) where
  pub pin-one : count_at cs i h ≢ 0 → ind (has_pin cs i h) ≡ 1
  unfolding has_pin
  pin-one ne = ind-one (ap not (ne_eqb _ 0 ne))

  pub pin-none : count_at cs i h ≡ 0 → ind (has_pin cs i h) ≡ 0
  unfolding has_pin
  pin-none z = ind-none (ap not (eq-eqb _ 0 z))

  module _ (l : h < max_holders) where
    -- is one of the buffer's holders
    pub pin-some : count_at cs i h ≢ 0 → 0 < holders_of cs i
    unfolding holders_of has_pin
    pin-some ne = count-some (has_pin cs i) max_holders h l (ap not (ne_eqb (count_at cs i h) 0 ne))

    pub holders-none : holders_of cs i ≡ 0 → count_at cs i h ≡ 0
    holders-none e = ⊎_elim (λ q. q) (λ ne. absurd (omega (arith, e, pin-some ne))) (eq-or-ne (count_at cs i h) 0)

    -- or leaves room for one more
    pub first-room : count_at cs i h ≡ 0 → holders_of cs i < max_holders
    unfolding holders_of has_pin
    first-room z =
        omega (
          arith,
          count-not (has_pin cs i) max_holders,
          count-some (λ k. not (has_pin cs i k)) max_holders h l (ap (λ (x : ℕ). not (not (eqb x 0))) z),
        )
