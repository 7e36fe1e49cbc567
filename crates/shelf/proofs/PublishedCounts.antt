-- The private counts place by place: of a list with another count of one buffer by one holder.
use Prim.Native.Nat.{ℕ, ◌+◌, ◌*◌, ◌≤◌, ◌<◌}
use mathlib.Core.Path.{◌≡◌}
use mathlib.Core.Logic.{⊎_elim}
use mathlib.Core.List.{List}
use lib.ListN.{length, get_or}
use borrow.Author.Tests.{eq-eqb, ne_eqb}
use Rattle.laws.proofs.Tests.{eq-or-ne}
use Rattle.bufmodel.specs.Counts.{count_at, set_count}
use Rattle.bufmodel.proofs.CountLaws.{count_same, count-other}
use Rattle.shelf.specs.Shelf.{with}

-- buffer, holder
abbrev pub counts_in : List ℕ → ℕ → ℕ → ℕ
counts_in cs j o = get_or cs (j * 64 + o) 0

module _ (cs : List ℕ) (i h c : ℕ) (fits : i * 64 + 64 ≤ length cs) (few : h < 64) where
  own : counts_in (set_count cs i h c) i h ≡ c
  unfolding count_at
  own = count_same cs i h c fits few

  other : (j o : ℕ) → o < 64 → (j ≡ i → o ≡ h → ⊥) → counts_in (set_count cs i h c) j o ≡ counts_in cs j o
  unfolding count_at
  other j o l ne = count-other cs i h c fits few j o l ne

  -- by the buffer and then the holder, as a load says it
  pub count-with : (j o : ℕ) → o < 64 → counts_in (set_count cs i h c) j o ≡ with i (with h c (counts_in cs i)) (counts_in cs) j o
  count-with j o l =
      ⊎_elim
      (λ q.
      ⊎_elim
      (λ r. rw (eq-eqb j i q, eq-eqb o h r, q, r) own)
      (λ ne. rw (eq-eqb j i q, ne_eqb o h ne, q) (other i o l (λ e f. ne f)))
      (eq-or-ne o h))
      (λ ne. rw (ne_eqb j i ne) (other j o l (λ e f. ne e)))
      (eq-or-ne j i)

  -- by the holder and then the buffer, as a hit and an unpin do
  pub count_by : (j o : ℕ) → o < 64 → counts_in (set_count cs i h c) j o ≡ with h (with i c (λ b. counts_in cs b h) j) (counts_in cs j) o
  count_by j o l =
      ⊎_elim
      (λ r.
      ⊎_elim
      (λ q. rw (eq-eqb j i q, eq-eqb o h r, q, r) own)
      (λ ne. rw (eq-eqb o h r, ne_eqb j i ne, r) (other j h few (λ e f. ne e)))
      (eq-or-ne j i))
      (λ ne. rw (ne_eqb o h ne) (other j o l (λ e f. ne f)))
      (eq-or-ne o h)
