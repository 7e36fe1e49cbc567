-- A sweep keeps the relation: words lose usage alone, of which the ledger says nothing.
use Prim.Native.Nat.{ℕ, ◌<◌}
use mathlib.Core.Path.{◌≡◌, refl, sym, ap, ◌∙◌}
use mathlib.Core.Bool.{Bool, cond}
use Rattle.laws.specs.First.{missing}
use Rattle.bufmodel.specs.Rows.{place_of}
use Rattle.bufmodel.specs.Memory.{Memory, buffers, word_of, name_of, with_states, with_hand}
use Rattle.bufmodel.specs.Books.{empty_at}
use Rattle.bufmodel.specs.Sweep.{Swept, Sweeps}
use Rattle.bufmodel.proofs.GoodLaws.{Good}
use Rattle.bufmodel.proofs.SweepLaws.{SweptFrom, sweeps-from}
use Rattle.bufmodel.proofs.LessUsedLaws.{LessUsed, less-pinned, less-dirty, less-held, less-empty, less-sound}
use Rattle.bufmodel.proofs.LikeLaws.{like-good}
use Rattle.shelf.proofs.Kept.{View, Has, Nobody, Same, Kept}

-- the memory with the words and the hand that a sweep leaves
abbrev pub swept_in : Memory → Swept → Memory
swept_in m s = with_hand s.hand (with_states s.words m)

module _ (m : Memory) (v : View) (k : Kept m v) (s : Swept) (sweeps : Sweeps (buffers m) 0 m.control.hand m.states s) where
  -- what the sweep leaves of the words
  pub swept-from : SweptFrom m.states s
  swept-from = sweeps-from k.good.books.hand refl sweeps

  less : (i : ℕ) → LessUsed (word_of m i) (word_of (swept_in m s) i)
  less i = swept-from.each i

  -- the same buffers are empty
  swept-empty : (i : ℕ) → i < buffers m → empty_at (swept_in m s) i ≡ empty_at m i
  unfolding empty_at
  swept-empty i l = less-empty (less i) (k.words i l)

  -- buffers have the pages that they had
  pub swept-has : (i g : ℕ) → Has m i g → Has (swept_in m s) i g
  swept-has i g h =
      record { below = rw swept-from.same_length h.below; full = swept-empty i h.below ∙ h.full; place = h.place }

  pub has-swept : (i g : ℕ) → Has (swept_in m s) i g → Has m i g
  has-swept i g h =
      let l : i < buffers m = rw swept-from.same_length at h.below in
      record { below = l; full = sym (swept-empty i l) ∙ h.full; place = h.place }

  -- the memory is good
  swept-good : Good (swept_in m s)
  unfolding empty_at
  swept-good =
      let b = k.good.books in
      like-good m k.good s.hand m.control.inserted m.control.flushed s.words m.pool m.store
      swept-from.hand-lt b.log swept-from.same_length refl refl swept-empty (λ i l. less-sound (less i) (k.words i l))
      (λ i l d. b.low i l (sym (less-dirty (less i)) ∙ d)) (λ i l. (less i).same-pins)

  -- what the ledger says of a page
  swept_same : (i g : ℕ) → Has m i g → Same (swept_in m s) v i g
  swept_same i g h =
      let q = k.same i g h in
      record {
        bytes = q.bytes;
        counts = q.counts;
        marked = q.marked ∙ sym (less-dirty (less i));
        last = q.last;
        clean = λ d. q.clean (sym (less-dirty (less i)) ∙ d);
        fine = q.fine;
      }

  -- nobody had a page that nobody has
  swept-nobody : (g : ℕ) → Nobody (swept_in m s) g → Nobody m g
  swept-nobody g none i h = none i (swept-has i g h)

  -- all of it
  pub kept-swept : Kept (swept_in m s) v
  kept-swept =
      let n = swept-from.same_length in
      record {
        good = swept-good;
        words = λ i l f. less-held (less i) (k.words i (rw n at l) (sym (swept-empty i (rw n at l)) ∙ f));
        same = λ i g h. swept_same i g (has-swept i g h);
        unpinned = λ g none. k.unpinned g (swept-nobody g none);
        unmarked = λ g none. k.unmarked g (swept-nobody g none);
        stored = λ p g e none. k.stored p g e (swept-nobody g none);
        passed = k.passed;
        known = k.known;
        holds = λ i l.
            k.holds i (rw n at l)
            ∙ ap (λ (t : Bool). cond t (place_of m.rows (name_of m i)) missing) (sym (less-pinned (less i)));
        put = k.put;
      }
