-- The word of a buffer and one of its private counts change together: what a hit, an unpin and a giving back do to the word, and that a
-- giving back keeps the books.
use Prim.Native.Nat.{ℕ, zero, suc, ◌+◌, ◌-◌, ◌*◌, ◌^◌, ◌≤◌, ◌<◌}
use native.Mathlib.Omega.{arith}
use mathlib.Core.Path.{◌≡◌, refl, sym, ap, ap₂, ◌∙◌, subst}
use mathlib.Core.Bool.{true, false, not}
use mathlib.Core.Logic.{◌≢◌, ⊎_elim}
use lib.Dec.{eqb}
use lib.ListN.{length, get_or, set, length-set}
use lib.Seq.{get_or-set_same, get_or-set_other}
use borrow.Author.Tests.{eq-eqb, ne_eqb}
use Rattle.laws.specs.Sum.{ind}
use Rattle.laws.proofs.Tests.{eq-or-ne, true-or-false, never}
use Rattle.laws.proofs.Sum.{ind-one, ind-none}
use Rattle.bufmodel.specs.Word.{pins, pinned, empty, dirty, sound_word}
use Rattle.bufmodel.specs.Memory.{Memory, buffers, cap_of, word_of, with_states, with_counts}
use Rattle.bufmodel.specs.Counts.{max_holders, count_at, set_count, has_pin, holders_of}
use Rattle.bufmodel.specs.Books.{empty_at}
use Rattle.bufmodel.specs.Pin.{held_word}
use Rattle.bufmodel.specs.Calls.{less_word, given_word, give_at, give_up_to}
use Rattle.bufmodel.proofs.WordLaws.{
  Held,
  Fields,
  sound-held,
  held-sound,
  held-lt,
  pin-more,
  pin-less,
  pins-pinned,
  empty-zero,
  zero-pins,
}
use Rattle.bufmodel.proofs.CountLaws.{
  length-set_count,
  count_same,
  count-other,
  holders-change,
  holders-other,
  pin-one,
  pin-none,
  pin-some,
  first-room,
}
use Rattle.bufmodel.proofs.GoodLaws.{Good}
use Rattle.bufmodel.proofs.LikeLaws.{counted-good}

-- the memory with another word of buffer i and another count of it by holder h
abbrev pub recounted : Memory → ℕ → ℕ → ℕ → ℕ → Memory
recounted m h i w c = with_counts (set_count m.counts i h c) (with_states (set m.states i w) m)

-- a word in place of w: empty, sound and dirty as w is
pub record Turned (cap w v : ℕ) : Type 0 where
  pub blank : empty v ≡ empty w
  pub sound : sound_word cap v ≡ true
  pub dirt : dirty v ≡ dirty w

module _ (m : Memory) (k : Good m) (h i : ℕ) (few : h < max_holders) (l : i < buffers m) where
  pub row_fits : i * max_holders + max_holders ≤ length m.counts
  row_fits = omega (arith, k.sizes.counts)

  -- at this buffer and at others
  by-buffer : (A : ℕ → Type 0) → A i → ((j : ℕ) → j ≢ i → A j) → (j : ℕ) → A j
  by-buffer A here there j = ⊎_elim (λ e. subst A (sym e) here) (λ ne. there j ne) (eq-or-ne j i)

  module _ (w c : ℕ) (t : Turned (cap_of m) (word_of m i) w) where
    abbrev new : ℕ → ℕ
    new j = get_or (set m.states i w) j 0

    own : new i ≡ w
    own = get_or-set_same m.states i w 0 l

    other : (j : ℕ) → j ≢ i → new j ≡ word_of m j
    other j ne = get_or-set_other m.states i j w 0 ne

    new-blank : (j : ℕ) → empty (new j) ≡ empty (word_of m j)
    new-blank = by-buffer _ (ap empty own ∙ t.blank) (λ j ne. ap empty (other j ne))

    new-dirt : (j : ℕ) → dirty (new j) ≡ dirty (word_of m j)
    new-dirt = by-buffer _ (ap dirty own ∙ t.dirt) (λ j ne. ap dirty (other j ne))

    new-sound : (j : ℕ) → j < buffers m → sound_word (cap_of m) (new j) ≡ true
    new-sound =
        by-buffer _ (λ n. ap (sound_word (cap_of m)) own ∙ t.sound)
        (λ j ne n. ap (sound_word (cap_of m)) (other j ne) ∙ k.books.words j n)

    module _ (e : pins w + ind (has_pin m.counts i h) ≡ pins (word_of m i) + ind (not (eqb c 0))) where
      own-holders : pins w ≡ holders_of (set_count m.counts i h c) i
      own-holders = omega (arith, e, k.books.counts i l, holders-change m.counts i h c row_fits few)

      new-holders : (j : ℕ) → j < buffers m → pins (new j) ≡ holders_of (set_count m.counts i h c) j
      new-holders =
          by-buffer _ (λ n. ap pins own ∙ own-holders)
          (λ j ne n. ap pins (other j ne) ∙ k.books.counts j n ∙ sym (holders-other m.counts i h c row_fits few j ne))

      pub recount-good : Good (recounted m h i w c)
      unfolding empty_at
      recount-good =
          let b = k.books in
          counted-good m k m.control.hand m.control.inserted m.control.flushed (set m.states i w) m.pool m.store
          (set_count m.counts i h c) b.hand b.log (length-set m.states i w) refl refl (length-set_count m.counts i h c)
          (λ j n. new-blank j) new-sound (λ j n d. b.low j n (sym (new-dirt j) ∙ d)) new-holders

-- ---- the words of the three, of buffers in use
turned_same : (cap w : ℕ) → sound_word cap w ≡ true → Turned cap w w
turned_same cap w s = record { blank = refl; sound = s; dirt = refl }

turned-fields : {cap w v p u f : ℕ} → Held cap w → Fields cap v p u f (dirty w) → Turned cap w v
turned-fields k x =
    record { blank = x.held.full ∙ sym k.full; sound = (held-sound (held-lt x.held) x.held).0; dirt = x.dirty }

module _ (m : Memory) (k : Good m) (h i : ℕ) (few : h < max_holders) (l : i < buffers m) (fits : word_of m i < 2 ^ 32) where
  abbrev c : ℕ
  c = count_at m.counts i h

  abbrev w : ℕ
  w = word_of m i

  held : empty_at m i ≡ false → Held (cap_of m) w
  unfolding empty_at
  held f = sound-held fits (k.books.words i l) f

  -- a buffer that somebody holds is in use
  pub some-full : c ≢ 0 → empty_at m i ≡ false
  unfolding empty_at
  some-full ne =
      ⊎_elim
      (λ e. absurd (omega (arith, pin-some m.counts i h few ne, k.books.counts i l, ap pins (empty-zero w e), zero-pins)))
      (λ f. f)
      (true-or-false (empty w))

  -- the holders of a buffer that somebody holds
  pub some-pins : c ≢ 0 → 0 < pins w
  some-pins ne = omega (arith, pin-some m.counts i h few ne, k.books.counts i l)

  -- a holder's first pin: there is room for one
  first_fits : c ≡ 0 → suc (pins w) < 2 ^ 18
  first_fits z = omega (arith, first-room m.counts i h few z, k.books.counts i l)

  -- the new word is one of a buffer in use, as dirty as the old one
  pub hit-held : empty_at m i ≡ false → Held (cap_of m) (held_word (cap_of m) c w) × (dirty (held_word (cap_of m) c w) ≡ dirty w)
  unfolding held_word
  hit-held f =
      ⊎_elim
      (λ z. rw (eq-eqb c 0 z) (let x = pin-more (held f) k.books.cap.1 (first_fits z) in (x.held, x.dirty)))
      (λ ne. rw (ne_eqb c 0 ne) (held f, refl))
      (eq-or-ne c 0)

  pub hit-pins : empty_at m i ≡ false → pins (held_word (cap_of m) c w) + ind (has_pin m.counts i h) ≡ pins w + 1
  unfolding held_word
  hit-pins f =
      ⊎_elim
      (λ z.
      rw (eq-eqb c 0 z)
      (omega (arith, (pin-more (held f) k.books.cap.1 (first_fits z)).pins, pin-none m.counts i h z)))
      (λ ne. rw (ne_eqb c 0 ne) (omega (arith, pin-one m.counts i h ne)))
      (eq-or-ne c 0)

  -- it is pinned afterwards, by this holder at least
  pub hit-some : empty_at m i ≡ false → 0 < pins (held_word (cap_of m) c w)
  hit-some f =
      ⊎_elim
      (λ z. omega (arith, hit-pins f, pin-none m.counts i h z))
      (λ ne. omega (arith, hit-pins f, some-pins ne, pin-one m.counts i h ne))
      (eq-or-ne c 0)

  pub less-held : c ≢ 0 → Held (cap_of m) (less_word c w) × (dirty (less_word c w) ≡ dirty w)
  unfolding less_word
  less-held ne =
      ⊎_elim
      (λ z. rw (eq-eqb c 1 z) (let x = pin-less (held (some-full ne)) in (x.held, x.dirty)))
      (λ q. rw (ne_eqb c 1 q) (held (some-full ne), refl))
      (eq-or-ne c 1)

  pub less-pins : c ≢ 0 → pins (less_word c w) + 1 ≡ pins w + ind (not (eqb (c - 1) 0))
  unfolding less_word
  less-pins ne =
      ⊎_elim
      (λ z.
      rw (eq-eqb c 1 z)
      (omega (
        arith,
        (pin-less (held (some-full ne))).pins,
        some-pins ne,
        ind-none (ap not (eq-eqb (c - 1) 0 (omega arith))),
      )))
      (λ q. rw (ne_eqb c 1 q) (omega (arith, ind-one (ap not (ne_eqb (c - 1) 0 (λ e. absurd (omega arith)))))))
      (eq-or-ne c 1)

  -- so that the word counts the holders afterwards
  pub less-holders : c ≢ 0 → pins (less_word c w) ≡ holders_of (set_count m.counts i h (c - 1)) i
  less-holders ne =
      omega (
        arith,
        less-pins ne,
        k.books.counts i l,
        pin-one m.counts i h ne,
        holders-change m.counts i h (c - 1) (row_fits m k h i few l) few,
      )

  pub given-turned : Turned (cap_of m) w (given_word c w)
  unfolding given_word
  given-turned =
      ⊎_elim
      (λ z. rw (eq-eqb c 0 z) (turned_same (cap_of m) w (k.books.words i l)))
      (λ ne. rw (ne_eqb c 0 ne) (turned-fields (held (some-full ne)) (pin-less (held (some-full ne)))))
      (eq-or-ne c 0)

  pub given-pins : pins (given_word c w) + ind (has_pin m.counts i h) ≡ pins w
  unfolding given_word
  given-pins =
      ⊎_elim
      (λ z. rw (eq-eqb c 0 z) (omega (arith, pin-none m.counts i h z)))
      (λ ne. rw (ne_eqb c 0 ne) (omega (arith, (pin-less (held (some-full ne))).pins, some-pins ne, pin-one m.counts i h ne)))
      (eq-or-ne c 0)

  pub given-held : empty_at m i ≡ false → Held (cap_of m) (given_word c w)
  unfolding given_word
  given-held f =
      ⊎_elim
      (λ z. rw (eq-eqb c 0 z) (held f))
      (λ ne. rw (ne_eqb c 0 ne) (pin-less (held f)).held)
      (eq-or-ne c 0)

  -- an unpinned buffer's word stays
  pub given-free : pinned w ≡ false → pinned (given_word c w) ≡ false
  unfolding given_word
  given-free f =
      ⊎_elim
      (λ z. rw (eq-eqb c 0 z) f)
      (λ ne. never (pins-pinned w (some-pins ne)) f)
      (eq-or-ne c 0)

  -- A GIVING BACK, of one buffer
  pub give-at-good : Good (give_at m h i)
  unfolding give_at
  give-at-good =
      recount-good m k h i few l (given_word c w) 0 given-turned (given-pins ∙ omega arith)

  -- its word stays one of 32 bits
  pub given-fits : given_word c w < 2 ^ 32
  unfolding given_word
  given-fits =
      ⊎_elim
      (λ z. rw (eq-eqb c 0 z) fits)
      (λ ne. rw (ne_eqb c 0 ne) (held-lt (pin-less (held (some-full ne))).held))
      (eq-or-ne c 0)

-- ---- the buffers below n, one after another
-- memory d is m after holder h gave back its pins on them
pub record Given (m : Memory) (h n : ℕ) (d : Memory) : Type 0 where
  pub good : Good d
  pub many : buffers d ≡ buffers m
  pub rest : d ≡ with_counts d.counts (with_states d.states m)
  pub fits : (i : ℕ) → i < buffers m → word_of d i < 2 ^ 32
  -- those have the words and counts given, the others what they had
  pub word : (i : ℕ) → i < n → word_of d i ≡ given_word (count_at m.counts i h) (word_of m i)
  pub later : (i : ℕ) → n ≤ i → word_of d i ≡ word_of m i
  pub count : (i : ℕ) → i < n → count_at d.counts i h ≡ 0
  pub after : (i : ℕ) → n ≤ i → count_at d.counts i h ≡ count_at m.counts i h
  pub others : (i o : ℕ) → o < max_holders → o ≢ h → count_at d.counts i o ≡ count_at m.counts i o

module _ (m : Memory) (h : ℕ) (few : h < max_holders) where
  given-none : Good m → ((i : ℕ) → i < buffers m → word_of m i < 2 ^ 32) → Given m h 0 m
  given-none k fits =
      record {
        good = k;
        many = refl;
        rest = refl;
        fits = fits;
        word = λ i l. absurd (omega arith);
        later = λ i l. refl;
        count = λ i l. absurd (omega arith);
        after = λ i l. refl;
        others = λ i o l ne. refl;
      }

  -- the next buffer
  module _ (n : ℕ) (d : Memory) (x : Given m h n d) (l : n < buffers m) where
    here : n < buffers d
    here = omega (arith, x.many)

    room : n * max_holders + max_holders ≤ length d.counts
    room = omega (arith, x.good.sizes.counts, x.many)

    -- its word and count are those that it had
    given-as : given_word (count_at d.counts n h) (word_of d n) ≡ given_word (count_at m.counts n h) (word_of m n)
    given-as = ap₂ given_word (x.after n (omega arith)) (x.later n (omega arith))

    own-word : word_of (give_at d h n) n ≡ given_word (count_at d.counts n h) (word_of d n)
    unfolding give_at
    own-word = get_or-set_same d.states n _ 0 here

    other_word : (i : ℕ) → i ≢ n → word_of (give_at d h n) i ≡ word_of d i
    unfolding give_at
    other_word i ne = get_or-set_other d.states n i _ 0 ne

    own-count : count_at (give_at d h n).counts n h ≡ 0
    unfolding give_at
    own-count = count_same d.counts n h 0 room few

    other-count : (i o : ℕ) → o < max_holders → (i ≡ n → o ≡ h → ⊥) → count_at (give_at d h n).counts i o ≡ count_at d.counts i o
    unfolding give_at
    other-count i o t ne = count-other d.counts n h 0 room few i o t ne

    given-many : buffers (give_at d h n) ≡ buffers m
    unfolding give_at
    given-many = length-set d.states n _ ∙ x.many

    given-rest : give_at d h n ≡ with_counts (give_at d h n).counts (with_states (give_at d h n).states m)
    unfolding give_at
    given-rest =
        let word = given_word (count_at d.counts n h) (word_of d n) in
        ap (λ (y : Memory). with_counts (set_count d.counts n h 0) (with_states (set d.states n word) y)) x.rest

    abbrev NewWord : ℕ → Type 0
    NewWord i = word_of (give_at d h n) i ≡ given_word (count_at m.counts i h) (word_of m i)

    new-fits : (i : ℕ) → i < buffers m → word_of (give_at d h n) i < 2 ^ 32
    new-fits i q =
        ⊎_elim
        (λ e.
        subst (λ (j : ℕ). word_of (give_at d h n) j < 2 ^ 32) (sym e)
        (subst (λ (w : ℕ). w < 2 ^ 32) (sym own-word) (given-fits d x.good h n few here (x.fits n l))))
        (λ ne. subst (λ (w : ℕ). w < 2 ^ 32) (sym (other_word i ne)) (x.fits i q))
        (eq-or-ne i n)

    given-more : Given m h (suc n) (give_at d h n)
    given-more =
        record {
          good = give-at-good d x.good h n few here (x.fits n l);
          many = given-many;
          rest = given-rest;
          fits = new-fits;
          word = λ i q.
              ⊎_elim
              (λ e. subst NewWord (sym e) (own-word ∙ given-as))
              (λ ne. other_word i ne ∙ x.word i (omega arith))
              (eq-or-ne i n);
          later = λ i q. other_word i (λ e. omega arith) ∙ x.later i (omega arith);
          count = λ i q.
              ⊎_elim
              (λ e. subst (λ (j : ℕ). count_at (give_at d h n).counts j h ≡ 0) (sym e) own-count)
              (λ ne. other-count i h few (λ e f. ne e) ∙ x.count i (omega arith))
              (eq-or-ne i n);
          after = λ i q. other-count i h few (λ e f. omega arith) ∙ x.after i (omega arith);
          others = λ i o t ne. other-count i o t (λ e f. ne f) ∙ x.others i o t ne;
        }

  given-up-to : Good m → ((i : ℕ) → i < buffers m → word_of m i < 2 ^ 32) → (n : ℕ) → n ≤ buffers m → Given m h n (give_up_to h n m)
  unfolding give_up_to
  given-up-to k fits zero l = given-none k fits
  given-up-to k fits (suc n) l = given-more n (give_up_to h n m) (given-up-to k fits n (omega arith)) l

  -- ---- all of them
  pub given-all : Good m → ((i : ℕ) → i < buffers m → word_of m i < 2 ^ 32) → Given m h (buffers m) (give_up_to h (buffers m) m)
  given-all k fits = given-up-to k fits (buffers m) (omega arith)
