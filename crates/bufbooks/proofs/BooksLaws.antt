-- The check of the books as the code makes it, with that of the private counts, is the test of the definition.
use mathlib.Core.Path.{◌≡◌, refl, ap, ◌∙◌}
use mathlib.Core.Bool.{Bool, true, false, not, cond, ◌&&◌}
use mathlib.Core.Logic.{⊎_elim}
use mathlib.Core.List.{[]}
use Prim.Native.Nat.{ℕ, ◌+◌, ◌≤◌, ◌<◌}
use native.Mathlib.Omega.{arith}
use lib.Dec.{eqb, leb}
use lib.ListN.{length}
use borrow.Author.Tests.{eqb-true, eq-eqb, leb-true}
use Rattle.laws.specs.Every.{all}
use Rattle.laws.specs.First.{found}
use Rattle.laws.specs.Says.{Says}
use Rattle.laws.specs.Sum.{count}
use Rattle.laws.proofs.Every.{all-at, all_of}
use Rattle.laws.proofs.Says.{says-it, says_eq, says-le, says-lt, says-and, says_all, says_if}
use Rattle.laws.proofs.Sum.{count-not, count-all}
use Rattle.laws.proofs.Tests.{and-true, and_left, and_right, never, same_tests, true-or-false}
use Rattle.buftag.specs.declared.link.Link.TheVariants.{End, Off}
use Rattle.buftag.specs.Names.{no_name}
use Rattle.buftag.specs.Link.{link_of, link_at, Holds}
use Rattle.buftag.specs.Lookup.{used}
use Rattle.buftag.specs.Chain.{ChainsSound, Distinct}
use Rattle.buftag.specs.Check.{finds_itself, stands, leading}
use Rattle.buftag.specs.Budget.{spend, spent}
use Rattle.buftag.proofs.LinkLaws.{holds-says}
use Rattle.buftag.proofs.NameLaws.{says-same-name}
use Rattle.buftag.proofs.TestLaws.{chains-say, says-end}
use Rattle.bufmodel.specs.Word.{pins, empty, dirty, bit, max_cap, sound_cap, sound_word}
use Rattle.bufmodel.specs.Position.{position}
use Rattle.bufmodel.specs.Rows.{place_of}
use Rattle.bufmodel.specs.Memory.{Memory, buffers, cap_of, word_of, name_of, page_of, with_free}
use Rattle.bufmodel.specs.Counts.{holders_of}
use Rattle.bufmodel.specs.Books.{empty_at, sound_counts, sound, BooksSound}
use Rattle.bufmodel.proofs.BooksLaws.{says-off, says-found, books-say}
use Rattle.bufbooks.proofs.TurnsLaws.{tests}
use Rattle.bufbooks.specs.Words.{fine, fine_at, counts_of}
use Rattle.bufbooks.specs.Lists.{lists_test}
use Rattle.bufbooks.specs.Buffers.{Fitting, low_test, held_test, buffer_test}
use Rattle.bufbooks.specs.Books.{books_test}
use Rattle.buftag.proofs.CheckLaws.{list-is, check-is}

-- ---- an empty word is sound, and not dirty
zero-clean : dirty 0 ≡ false
unfolding dirty bit
zero-clean = refl

empty-clean : (w : ℕ) → empty w ≡ true → dirty w ≡ false
unfolding empty
empty-clean w e = ap dirty (eqb-true w 0 e) ∙ zero-clean

empty-sound : (cap w : ℕ) → empty w ≡ true → sound_word cap w ≡ true
unfolding sound_word
empty-sound cap w e = rw e

-- ---- the test of a buffer, and the same as a statement
-- one statement where a test holds, another where it does not
says-either : (a : Bool) {b c : Bool} {P Q : Type 0} → Says b P → Says c Q → Says (cond a b c) ((a ≡ true → P) × (a ≡ false → Q))
says-either true s t = record { holds = λ h. (λ e. s.holds h, λ e. never refl e); shown = λ p. s.shown (p.0 refl) }
says-either false s t = record { holds = λ h. (λ e. never e refl, λ e. t.holds h); shown = λ p. t.shown (p.1 refl) }

module _ (m : Memory) where
  -- a buffer's word and links
  abbrev Fine : ℕ → Type 0
  Fine i =
      (empty_at m i ≡ true → link_at m.chain i ≡ End)
      × (empty_at m i ≡ false → (sound_word (cap_of m) (word_of m i) ≡ true) × (link_at m.free i ≡ Off))

  fine-says : (i : ℕ) → Says (fine_at (cap_of m) m.states m.free m.chain i) (Fine i)
  unfolding fine_at fine empty_at
  fine-says i = says-either (empty_at m i) (says-end (link_at m.chain i)) (says-and (says-it _) (says-off (link_at m.free i)))

  -- its page and name
  abbrev Kept : ℕ → Type 0
  Kept i =
      (empty_at m i ≡ true → name_of m i ≡ no_name)
      × (empty_at m i ≡ false
      → (dirty (word_of m i) ≡ true → position (page_of m i) ≤ m.control.inserted)
      × (((g : ℕ) × (place_of m.rows (name_of m i) ≡ found g)) × (finds_itself m.names m.heads m.chain i ≡ true)))

  buffer-says : (i : ℕ) → Says (buffer_test m i) (Kept i)
  unfolding buffer_test low_test held_test
  buffer-says i =
      says-either (empty_at m i)
      (says-same-name (name_of m i) no_name)
      (says-and (says_if (dirty (word_of m i)) (says-le _ _))
      (says-and (says-found (place_of m.rows (name_of m i))) (says-it _)))

  -- ---- the buffers in use are those that are not empty
  used-not : (i : ℕ) → used m.states i ≡ not (empty_at m i)
  unfolding empty_at empty
  used-not i = refl

  used-true : (i : ℕ) → empty_at m i ≡ false → used m.states i ≡ true
  used-true i e = used-not i ∙ ap not e

  used-false : (i : ℕ) → empty_at m i ≡ true → used m.states i ≡ false
  used-false i e = used-not i ∙ ap not e

  -- what is known of an empty word
  empty-word : (i : ℕ) → empty_at m i ≡ true → sound_word (cap_of m) (word_of m i) ≡ true
  unfolding empty_at
  empty-word i e = empty-sound (cap_of m) (word_of m i) e

  full_at_is : (i : ℕ) → dirty (word_of m i) ≡ true → empty_at m i ≡ false
  unfolding empty_at
  full_at_is i d = ⊎_elim (λ e. never d (empty-clean (word_of m i) e)) (λ e. e) (true-or-false (empty_at m i))

  -- whether the free list has as many places as there are empty buffers, and as many links lead on as there are buffers in use
  abbrev freed : Bool
  freed = spent (spend m.free (count (buffers m) (empty_at m)) (link_of m.control.top))

  abbrev linked : Bool
  linked = eqb (leading m.heads + leading m.chain) (count (buffers m) (used m.states))

  -- empty buffers and buffers in use are all there are
  both : count (buffers m) (empty_at m) + count (buffers m) (used m.states) ≡ buffers m
  unfolding empty_at empty
  both = count-not (empty_at m) (buffers m)

  Listed : Type 0
  Listed = (((i : ℕ) → i < buffers m → Fine i) × (linked ≡ true)) × (freed ≡ true)

  -- the lists as they are counted, with the words
  counted : Bool
  counted =
      eqb (count (buffers m) (fine_at (cap_of m) m.states m.free m.chain)) (buffers m)
      && eqb (leading m.heads + leading m.chain + count (buffers m) (empty_at m))
      (count (buffers m) (fine_at (cap_of m) m.states m.free m.chain))
      && freed

  counted_is : lists_test (cap_of m) m.control.top m.states m.free m.heads m.chain ≡ counted
  unfolding lists_test counts_of empty_at counted
  counted_is = refl

  fine-all : Says (all (buffers m) (fine_at (cap_of m) m.states m.free m.chain)) ((i : ℕ) → i < buffers m → Fine i)
  fine-all = says_all (buffers m) (fine_at (cap_of m) m.states m.free m.chain) Fine (λ i l. fine-says i)

  listed-says : Says counted Listed
  unfolding counted Listed
  listed-says =
      let n = buffers m in
      let p = fine_at (cap_of m) m.states m.free m.chain in
      let a = eqb (count n p) n in
      let b = eqb (leading m.heads + leading m.chain + count n (empty_at m)) (count n p) in
      record {
        holds = λ h.
            let ab = and_left (a && b) freed h in
            let e = eqb-true (count n p) n (and_left a b ab) in
            let f = eqb-true _ (count n p) (and_right a b ab) in (
              (fine-all.holds ((count-all p n).0 e), eq-eqb _ (count n (used m.states)) (omega (arith, e, f, both))),
              and_right (a && b) freed h,
            );
        shown = λ t.
            let e = (count-all p n).1 (fine-all.shown t.0.0) in
            let f = eqb-true _ (count n (used m.states)) t.0.1 in
            and-true (and-true (eq-eqb (count n p) n e) (eq-eqb _ (count n p) (omega (arith, e, f, both)))) t.1;
      }

  -- a buffer is where a look-up or its link says
  abbrev standing : ℕ → Bool
  standing i = stands m.states m.names m.heads m.chain i

  -- free link −2 of all buffers in use
  abbrev Unlisted : Type 0
  Unlisted = (i : ℕ) → i < buffers m → empty_at m i ≡ false → link_at m.free i ≡ Off

  module _ (fit : Fitting m) where
    stands_at : (i : ℕ) → Fine i → Kept i → standing i ≡ true
    unfolding stands
    stands_at i f k =
        ⊎_elim
        (λ e. rw (used-false i e) ((says-end (link_at m.chain i)).shown (f.0 e)))
        (λ e. rw (used-true i e) (k.1 e).1.1)
        (true-or-false (empty_at m i))

    stands-finds : (i : ℕ) → empty_at m i ≡ false → standing i ≡ true → finds_itself m.names m.heads m.chain i ≡ true
    unfolding stands
    stands-finds i e h = rw (used-true i e) at h

    -- the walk of the free list
    free-is : Unlisted → Says freed (Holds m.free (link_of m.control.top) (empty_at m))
    free-is off =
        rw (← fit.free, list-is m.free (link_of m.control.top) (empty_at m) (λ i l e. off i (rw (← fit.free) l) e))
        (holds-says m.free (link_of m.control.top) (empty_at m))

    -- the places in the chains, and the number of links
    chains-are : Says (all (length m.chain) standing && linked)
        (ChainsSound m.states m.names m.heads m.chain × Distinct m.states m.names)
    chains-are =
        rw (check-is m.states m.names m.heads m.chain fit.buckets fit.chain)
        (chains-say m.states m.names m.heads m.chain)

    -- ---- the two say the same of the books
    Tested : Type 0
    Tested =
        (((((1 ≤ cap_of m) × (cap_of m ≤ max_cap)) × (m.control.hand < buffers m)) × (m.control.flushed ≤ m.control.inserted))
        × Listed)
        × ((i : ℕ) → i < buffers m → Kept i)

    tested-says : Says (books_test m) Tested
    unfolding books_test sound_cap Tested
    tested-says =
        rw counted_is
        (says-and
        (says-and (says-and (says-and (says-and (says-le _ _) (says-le _ _)) (says-lt _ _)) (says-le _ _)) listed-says)
        (says_all (buffers m) (buffer_test m) Kept (λ i l. buffer-says i)))

    -- each word counts its buffer's holders
    abbrev Counted : Type 0
    Counted = (i : ℕ) → i < buffers m → pins (word_of m i) ≡ holders_of m.counts i

    counted-says : Says (sound_counts m) Counted
    unfolding sound_counts
    counted-says = says_all (buffers m) _ _ (λ i l. says_eq _ _)

    tested-sound : Tested → Counted → BooksSound m
    unfolding Tested Listed
    tested-sound t counted =
        let lists = t.0.1 in
        let fine = lists.0.0 in
        let kept = t.1 in
        let off : Unlisted = λ i l e. ((fine i l).1 e).1 in
        let stand = all_of standing (length m.chain) (λ i l.
        let k : i < buffers m = omega (arith, fit.chain) in stands_at i (fine i k) (kept i k)) in
        let chained = chains-are.holds (and-true stand lists.0.1) in
        record {
          cap = t.0.0.0.0;
          hand = t.0.0.0.1;
          log = t.0.0.1;
          words = λ i l. ⊎_elim (empty-word i) (λ e. ((fine i l).1 e).0) (true-or-false (empty_at m i));
          blank = λ i l e. (kept i l).0 e;
          free = (free-is off).holds lists.1;
          off = off;
          distinct = chained.1;
          page = λ i l e. ((kept i l).1 e).1.0;
          chains = chained.0;
          low = λ i l d. ((kept i l).1 (full_at_is i d)).0 d;
          counts = counted;
        }

    sound-tested : BooksSound m → Tested
    unfolding Tested Listed
    sound-tested k =
        let stand = all (length m.chain) standing in
        let chained = chains-are.shown (k.chains, k.distinct) in
        let at = all-at standing (length m.chain) (and_left stand linked chained) in
        let fine : (i : ℕ) → i < buffers m → Fine i =
        λ i l. (λ e. k.chains.idle i (omega (arith, fit.chain)) (used-false i e), λ e. (k.words i l, k.off i l e)) in
        let kept : (i : ℕ) → i < buffers m → Kept i =
        λ i l. (
          λ e. k.blank i l e,
          λ e. (k.low i l, (k.page i l e, stands-finds i e (at i (omega (arith, fit.chain))))),
        ) in
        ((((k.cap, k.hand), k.log), ((fine, and_right stand linked chained), (free-is k.off).shown k.free)), kept)

    pub books-is : (books_test m && sound_counts m) ≡ sound m
    books-is =
        let b = books_test m in
        let c = sound_counts m in
        same_tests (b && c) (sound m)
        (λ h. (books-say m).shown (tested-sound (tested-says.holds (and_left b c h)) (counted-says.holds (and_right b c h))))
        (λ h.
        let k = (books-say m).holds h in
        and-true (tested-says.shown (sound-tested k)) (counted-says.shown k.counts))

-- the test of a buffer does not look at the free links
pub buffers_free : (m : Memory) → all (buffers m) (buffer_test (with_free [] m)) ≡ all (buffers m) (buffer_test m)
unfolding buffer_test empty_at
buffers_free m = refl

-- a sound cap is few uses
pub cap_few : (cap : ℕ) → sound_cap cap ≡ true → cap ≤ max_cap
unfolding sound_cap
cap_few cap h = leb-true cap max_cap (and_right (leb 1 cap) (leb cap max_cap) h)

pub ruleset books = (tests, cap_few)
