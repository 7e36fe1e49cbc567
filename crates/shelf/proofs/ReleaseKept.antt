-- A clean unpinned page leaves its buffer: it becomes a page that no buffer has, with no pins, and its bytes are the store's.
use Prim.Native.Nat.{ℕ, ◌<◌}
use mathlib.Core.Path.{◌≡◌, sym, ap, ◌∙◌, subst}
use mathlib.Core.Bool.{false, cond}
use mathlib.Core.Logic.{◌≢◌, ◌⊎◌, inl, inr, ⊎_elim}
use Rattle.laws.specs.First.{missing}
use Rattle.laws.specs.Block.{block}
use Rattle.laws.proofs.Tests.{eq-or-ne, never}
use Rattle.bufmodel.specs.Checksum.{bare}
use Rattle.bufmodel.specs.Word.{pins, pinned, dirty}
use Rattle.bufmodel.specs.Rows.{place_of}
use Rattle.bufmodel.specs.Memory.{Memory, buffers, size, cap_of, word_of, name_of}
use Rattle.bufmodel.specs.Counts.{max_holders}
use Rattle.bufmodel.specs.Books.{empty_at}
use Rattle.bufmodel.specs.Moves.{release}
use Rattle.bufmodel.proofs.WordLaws.{unpinned-none, Held}
use Rattle.bufmodel.proofs.CountLaws.{holders-none}
use Rattle.bufmodel.proofs.HeldLaws.{empty-unpinned}
use Rattle.bufmodel.proofs.ReleaseLaws.{release-buffers, release-word, release-name, release-kept, release-empty, release-good}
use Rattle.shelf.proofs.Kept.{View, Has, Nobody, Same, Kept}
use Rattle.shelf.proofs.KeptLaws.{has-place, some_or_none, holds-none}

-- ---- the other buffers keep their pages
module _ (m : Memory) (i : ℕ) (l : i < buffers m) where
  pub has-release : (j g : ℕ) → Has (release m i) j g → (j ≢ i) × Has m j g
  unfolding release
  has-release j g h =
      let ne : j ≢ i = λ e. never (ap (empty_at (release m i)) e ∙ release-empty m i l) h.full in (
        ne,
        record {
          below = rw (release-buffers m i) at h.below;
          full = sym (release-kept m i j ne) ∙ h.full;
          place = ap (place_of m.rows) (sym (release-name m i j ne)) ∙ h.place;
        },
      )

  release-has : (j g : ℕ) → j ≢ i → Has m j g → Has (release m i) j g
  unfolding release
  release-has j g ne h =
      record {
        below = rw (release-buffers m i) h.below;
        full = release-kept m i j ne ∙ h.full;
        place = ap (place_of m.rows) (release-name m i j ne) ∙ h.place;
      }

-- ---- the relation is kept
module _ (m : Memory) (v : View) (k : Kept m v) (i g : ℕ) (own : Has m i g) (free : pinned (word_of m i) ≡ false)
    (clean : dirty (word_of m i) ≡ false) where
  -- a page that nobody has was nobody's, or is the one that left
  gone : (h : ℕ) → Nobody (release m i) h → Nobody m h ⊎ (h ≡ g)
  gone h none =
      ⊎_elim
      (λ x.
      ⊎_elim
      (λ e. inr (has-place m k.good i h g (subst (λ (j : ℕ). Has m j h) e x.1) own))
      (λ ne. absurd (none x.0 (release-has m i own.below x.0 h ne x.1)))
      (eq-or-ne x.0 i))
      (λ none. inl none)
      (some_or_none m k.good h)

  -- the page that left has no pins, is not dirty, and its bytes are the store's
  left : Same m v i g
  left = k.same i g own

  idle : pins (word_of m i) ≡ 0
  idle = unpinned-none (word_of m i) free

  left-pins : (h : ℕ) → h < max_holders → v.counts h g ≡ 0
  left-pins h l = left.counts h l ∙ holders-none m.counts i h l (sym (k.good.books.counts i own.below) ∙ idle)

  left-clean : v.dirty g ≡ false
  left-clean = left.marked ∙ clean

  left-stored : bare (v.bytes g) ≡ bare (block (size m) g m.store)
  left-stored = left.bytes ∙ sym (left.clean clean)

  -- the other pages
  release-same : (j h : ℕ) → j ≢ i → Has m j h → Same (release m i) v j h
  unfolding release
  release-same j h ne x =
      let q = k.same j h x in
      let w = release-word m i j ne in
      record {
        bytes = q.bytes;
        counts = q.counts;
        marked = q.marked ∙ ap dirty (sym w);
        last = q.last;
        clean = λ d. q.clean (ap dirty (sym w) ∙ d);
        fine = q.fine;
      }

  release-words : (j : ℕ) → j < buffers (release m i) → empty_at (release m i) j ≡ false → Held (cap_of m) (word_of (release m i) j)
  release-words j l f =
      let ne : j ≢ i = λ e. never (ap (empty_at (release m i)) e ∙ release-empty m i own.below) f in
      rw (release-word m i j ne) (k.words j (rw (release-buffers m i) at l) (sym (release-kept m i j ne) ∙ f))

  -- a number holds a page exactly when its buffer is pinned
  own-free : pinned (word_of (release m i) i) ≡ false
  own-free = empty-unpinned (release m i) i (release-empty m i own.below)

  release-holds : (j : ℕ) → j < buffers m
      → v.holds j ≡ cond (pinned (word_of (release m i) j)) (place_of m.rows (name_of (release m i) j)) missing
  release-holds j l =
      ⊎_elim
      (λ e. rw e (rw own-free (holds-none m v k i own.below free)))
      (λ ne. rw (release-word m i j ne, release-name m i j ne) (k.holds j l))
      (eq-or-ne j i)

  -- all of it
  pub kept-release : Kept (release m i) v
  unfolding release
  kept-release =
      record {
        good = release-good m k.good i own.below own.full idle;
        words = release-words;
        same = λ j h x. let y = has-release m i own.below j h x in release-same j h y.0 y.1;
        unpinned = λ h none.
            ⊎_elim
            (λ n. k.unpinned h n)
            (λ e. subst (λ (y : ℕ). (o : ℕ) → o < max_holders → v.counts o y ≡ 0) (sym e) left-pins)
            (gone h none);
        unmarked = λ h none. ⊎_elim (λ n. k.unmarked h n) (λ e. rw e left-clean) (gone h none);
        stored = λ n h e none. ⊎_elim (λ z. k.stored n h e z) (λ q. rw q left-stored) (gone h none);
        passed = k.passed;
        known = k.known;
        holds = λ j l. release-holds j (rw (release-buffers m i) at l);
        put = k.put;
      }
