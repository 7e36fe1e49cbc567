-- Which buffer has a page, in memory that passes the places 1 and 2.
use Prim.Native.Nat.{ℕ, ◌<◌}
use mathlib.Core.Path.{◌≡◌, ap, ◌∙◌}
use mathlib.Core.Bool.{Bool, true, false, not, ◌&&◌}
use mathlib.Core.Logic.{⊎_elim}
use borrow.Author.Tests.{not-true}
use Rattle.laws.specs.First.{Found, found, missing, first}
use Rattle.laws.proofs.Tests.{and_left, and_right, true-or-false, never}
use Rattle.laws.proofs.First.{first_found}
use Rattle.buftag.specs.declared.name.PageName.{PageName}
use Rattle.buftag.specs.declared.number.BufferNumber.{BufferNumber}
use Rattle.std.specs.Prelude.{Some, None}
use Rattle.buftag.specs.Name.{same_name}
use Rattle.buftag.specs.Lookup.{used, held_of, held}
use Rattle.buftag.proofs.NameLaws.{says-same-name}
use Rattle.buftag.proofs.WalkLaws.{At-same, not_at}
use Rattle.buftag.proofs.LookupLaws.{held-nowhere}
use Rattle.bufmodel.specs.Word.{empty, pinned, dirty}
use Rattle.bufmodel.specs.Memory.{Memory, buffers, word_of, name_of}
use Rattle.bufmodel.specs.Books.{empty_at}
use Rattle.bufmodel.specs.Pin.{held_in}
use Rattle.bufmodel.proofs.WordLaws.{empty-zero, zero-clean, zero-unpinned}

-- ---- a buffer is empty or in use
module _ (m : Memory) (i : ℕ) where
  pub empty-unused : empty_at m i ≡ true → used m.states i ≡ false
  unfolding empty_at empty
  empty-unused e = ap not e

  pub full-used : empty_at m i ≡ false → used m.states i ≡ true
  unfolding empty_at empty
  full-used e = ap not e

  pub used-full : used m.states i ≡ true → empty_at m i ≡ false
  unfolding empty_at empty
  used-full u = not-true _ u

  -- an empty buffer is not pinned: a buffer that is pinned, or dirty, is in use
  pub empty-unpinned : empty_at m i ≡ true → pinned (word_of m i) ≡ false
  unfolding empty_at
  empty-unpinned e = ap pinned (empty-zero (word_of m i) e) ∙ zero-unpinned

  pub pinned-full : pinned (word_of m i) ≡ true → empty_at m i ≡ false
  pinned-full p = ⊎_elim (λ e. never p (empty-unpinned e)) (λ f. f) (true-or-false (empty_at m i))

  pub dirty-full : dirty (word_of m i) ≡ true → empty_at m i ≡ false
  unfolding empty_at
  dirty-full d = ⊎_elim (λ e. never d (ap dirty (empty-zero (word_of m i) e) ∙ zero-clean)) (λ f. f) (true-or-false (empty_at m i))

-- buffers with equal words are both empty or both in use
pub empty-same : (m o : Memory) (i j : ℕ) → word_of m i ≡ word_of o j → empty_at m i ≡ empty_at o j
unfolding empty_at
empty-same m o i j e = ap empty e

-- ---- the answer of the look-up
-- the answer that a buffer has a name comes from a search that found it
at-found : (f : Found) {b : BufferNumber} → held_of f ≡ Some b → f ≡ found b.0
at-found (found i) e = ap found (At-same e)
at-found missing e = not_at e

module _ (m : Memory) (n : PageName) where
  -- the search's test: a buffer in use with the name
  abbrev has : ℕ → Bool
  has i = used m.states i && same_name (name_of m i) n

  has-says : (i : ℕ) → has i ≡ true → (empty_at m i ≡ false) × (name_of m i ≡ n)
  has-says i h = (
    used-full m i (and_left (used m.states i) (same_name (name_of m i) n) h),
    (says-same-name (name_of m i) n).holds (and_right (used m.states i) (same_name (name_of m i) n) h),
  )

  -- where the look-up names no buffer, none holds a page of that name
  pub held_none : held_in m n ≡ None → (i : ℕ) → empty_at m i ≡ false → name_of m i ≡ n → ⊥
  unfolding held_in
  held_none e i f q = held-nowhere m.states m.names n e i (full-used m i f) q

  -- the buffer that it names does
  pub held_at : (b : BufferNumber) → held_in m n ≡ Some b → (b.0 < buffers m) × (empty_at m b.0 ≡ false) × (name_of m b.0 ≡ n)
  unfolding held_in held
  held_at b e =
      let w = first_found has (buffers m) (at-found (first (buffers m) has) e) in
      let q = has-says b.0 w.1 in
      (w.0, q.0, q.1)
