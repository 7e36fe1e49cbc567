-- The places 1 and 2 over lent memory, in the order in which the code looks at them, and the check as a call.
use Prim.Native.Nat.{ℕ, zero, suc, ◌*◌, ◌^◌, ◌≤◌, ◌<◌}
use mathlib.Core.Path.{◌≡◌, refl, sym, ap, subst, ◌∙◌}
use mathlib.Core.Bool.{Bool, true, false, not, ◌&&◌}
use mathlib.Core.Logic.{◌≢◌, ⊎_elim}
use mathlib.Core.List.{List, [], ◌∷◌}
use native.Mathlib.Omega.{arith}
use lib.Dec.{eqb, ltb}
use lib.IntN.{ℤ, negsuc, pos}
use lib.ListN.{length, get_or}
use borrow.Author.Tests.{eq-eqb, ne_eqb, ltb-false}
use Rattle.laws.proofs.Tests.{never, true-or-false}
use Rattle.buftag.specs.declared.link.Link.{Link}
use Rattle.buftag.specs.declared.link.Link.TheVariants.{To, Bad}
use Rattle.buftag.specs.Link as link
use Rattle.buftag.specs.Link.{link_of, Links, step}
use Rattle.bufmodel.specs.declared.control.Control.{Control}
use Rattle.bufmodel.specs.Memory.{Memory, memory, buffers, size, with_top, with_store, with_counts}
use Rattle.bufmodel.specs.Sizes.{sized, sized_for}
use Rattle.bufmodel.specs.Counts.{max_holders}
use Rattle.bufmodel.specs.Books.{empty_at, sound_counts, sound}
use Rattle.bufmodel.specs.Outcome.{Outcome, place, refusal_of, checked, done, zeros}
use Rattle.bufmodel.specs.Lent.{Lent, one_bits, control_words, answer_words, top_of, control_of, opened, ended, called}
use Rattle.bufmodel.proofs.SizesLaws.{rows-say, sizes-say, sized-page}
use Rattle.bufmodel.proofs.BooksLaws.{books-say}
use Rattle.bufmodel.proofs.GoodLaws.{Good, good-sized, good-sound}
use Rattle.bufmodel.proofs.OutcomeLaws.{refusal-past, refusal-at, refusal-none, outcome-number}
use Rattle.bufmem.specs.Control.{top_read, control_read}
use Rattle.bufbooks.specs.Buffers.{Fitting, buffer_test}
use Rattle.bufbooks.specs.Books.{books_test}
use Rattle.bufbooks.specs.Lent.{check}
use Rattle.bufbooks.proofs.BooksLaws.{books-is}

-- ---- the two places
module _ (m : Memory) where
  pub checked_sizes : sized m ≡ false → 1 ≡ checked m []
  unfolding checked
  checked_sizes s = sym (refusal-at 1 (place 2 (not (sound m)) ∷ []) (ap not s))

  module _ (s : sized m ≡ true) where
    checked-past : checked m [] ≡ refusal_of (place 2 (not (sound m)) ∷ [])
    unfolding checked
    checked-past = refusal-past 1 (place 2 (not (sound m)) ∷ []) (ap not s)

    pub checked-books : sound m ≡ false → 2 ≡ checked m []
    checked-books b = sym (checked-past ∙ refusal-at 2 [] (ap not b))

    pub checked-none : sound m ≡ true → 0 ≡ checked m []
    checked-none b = sym (checked-past ∙ refusal-past 2 [] (ap not b) ∙ refusal-none)

-- memories that fit alike, and whose books are sound alike where they fit
checked-same : (a b : Memory) → sized a ≡ sized b → (sized b ≡ true → sound a ≡ sound b) → checked a [] ≡ checked b []
checked-same a b e alike =
    ⊎_elim
    (λ s. checked-past a (e ∙ s) ∙ ap (λ (t : Bool). refusal_of (place 2 (not t) ∷ [])) (alike s) ∙ sym (checked-past b s))
    (λ s. sym (checked_sizes a (e ∙ s)) ∙ checked_sizes b s)
    (true-or-false (sized b))

-- ---- sizes that fit: the books are checked without the store, and but for the last rule without the counts
abbrev pub bare : Memory → Memory
bare m = with_counts [] (with_store [] m)

pub fits : (m : Memory) → sized m ≡ true → Fitting m
unfolding sized
fits m h =
    let s = (sizes-say (size m) m).holds h in
    record {
      page = (sized-page s).0;
      buckets = omega (arith, s.least, s.wide);
      few = s.most;
      narrow = s.heads;
      names = s.names;
      pool = s.pool;
      free = s.free;
      chain = s.chain;
      rows = (rows-say m.rows).shown s.rows;
    }

books-bare : (m : Memory) → books_test (bare m) ≡ books_test m
unfolding books_test buffer_test empty_at
books-bare m = refl

module _ (m : Memory) (s : sized m ≡ true) where
  pub counts-fit : buffers m * max_holders ≤ length m.counts
  unfolding sized
  counts-fit = omega (arith, ((sizes-say (size m) m).holds s).counts)

  pub sound_both : (books_test m && sound_counts m) ≡ sound m
  sound_both = books-is m (fits m s)

  pub bare-fits : Fitting (bare m)
  bare-fits =
      let f = fits m s in
      record {
        page = f.page;
        buckets = f.buckets;
        few = f.few;
        narrow = f.narrow;
        names = f.names;
        pool = f.pool;
        free = f.free;
        chain = f.chain;
        rows = f.rows;
      }

  pub sound_bare : (books_test (bare m) && sound_counts m) ≡ sound m
  sound_bare = rw (books-bare m) sound_both

-- ---- the top of the free list: a word that no link can be, read in two ways, makes the books unsound
links-to : {ls : List ℤ} {w : ℕ} {xs : List ℕ} → Links ls (To w) xs → w < length ls
links-to (step h r) = h

links-bad : {ls : List ℤ} {l : Link} {xs : List ℕ} → Links ls l xs → l ≡ Bad → ⊥
links-bad link.done e = let z : ◌≡◌ {A = ℕ} 0 1 = cc in omega arith
links-bad (step h r) e = let z : ◌≡◌ {A = ℕ} 0 1 = cc in omega arith

unsound : (m : Memory) → ((xs : List ℕ) → Links m.free (link_of m.control.top) xs → ⊥) → sound m ≡ false
unsound m unlinked =
    ⊎_elim
    (λ h. let f = ((books-say m).holds h).free in absurd (unlinked f.list f.linked))
    (λ h. h)
    (true-or-false (sound m))

module _ (m : Memory) (w : ℕ) where
  -- the sizes do not look at it
  sized-top : (y z : ℤ) → sized (with_top y m) ≡ sized (with_top z m)
  unfolding sized sized_for
  sized-top y z = refl

  -- the two readings
  top-ones : eqb w one_bits ≡ true → top_read w ≡ top_of w
  unfolding top_read top_of
  top-ones e = rw e

  top-low : eqb w one_bits ≡ false → ltb w (2 ^ 31) ≡ true → top_read w ≡ top_of w
  unfolding top_read top_of
  top-low e l = rw (e, l)

  top-high : eqb w one_bits ≡ false → ltb w (2 ^ 31) ≡ false → (top_read w ≡ negsuc 2) × (top_of w ≡ pos w)
  unfolding top_read top_of
  top-high e l = (rw (e, l), rw e)

  module _ (s : sized (with_top (top_of w) m) ≡ true) where
    unsound-high : eqb w one_bits ≡ false → ltb w (2 ^ 31) ≡ false → sound (with_top (top_of w) m) ≡ false
    unfolding sized
    unsound-high e l =
        let k = (sizes-say (size m) (with_top (top_of w) m)).holds s in
        unsound (with_top (top_of w) m) (λ xs r.
        let low = links-to (subst (λ (z : ℤ). Links m.free (link_of z) xs) (top-high e l).1 r) in
        omega (arith, low, ltb-false w (2 ^ 31) l, k.free, k.most))

    sound-high : eqb w one_bits ≡ false → ltb w (2 ^ 31) ≡ false → sound (with_top (top_read w) m) ≡ sound (with_top (top_of w) m)
    sound-high e l =
        unsound (with_top (top_read w) m) (λ xs r. links-bad r (ap link_of (top-high e l).0)) ∙ sym (unsound-high e l)

    -- where they are sound, the readings are one
    top_read_is : sound (with_top (top_of w) m) ≡ true → top_read w ≡ top_of w
    top_read_is b =
        ⊎_elim
        top-ones
        (λ e. ⊎_elim (top-low e) (λ l. never b (unsound-high e l)) (true-or-false (ltb w (2 ^ 31))))
        (true-or-false (eqb w one_bits))

    sound-like : top_read w ≡ top_of w → sound (with_top (top_read w) m) ≡ sound (with_top (top_of w) m)
    sound-like e = ap (λ (z : ℤ). sound (with_top z m)) e

    sound-top : sound (with_top (top_read w) m) ≡ sound (with_top (top_of w) m)
    sound-top =
        ⊎_elim
        (λ e. sound-like (top-ones e))
        (λ e. ⊎_elim (λ l. sound-like (top-low e l)) (sound-high e) (true-or-false (ltb w (2 ^ 31))))
        (true-or-false (eqb w one_bits))

  -- so the two places refuse alike
  checked-top : checked (with_top (top_read w) m) [] ≡ checked (with_top (top_of w) m) []
  checked-top = checked-same (with_top (top_read w) m) (with_top (top_of w) m) (sized-top (top_read w) (top_of w)) sound-top

-- ---- the check as a call
ended-result : (m : Lent) (o : Outcome) (k : ℕ) → (ended m o k).result ≡ k
unfolding ended
ended-result m o zero = refl
ended-result m o (suc k) = refl

check-number : (m : Memory) → (check m).refusal ≡ checked m []
unfolding check
check-number m = outcome-number [] m (done zeros [] m) (checked m []) refl

pub read_opened : (m : Lent)
    → checked
    (with_counts m.counts
    (memory (control_read m.control) m.states m.names m.pool m.free m.heads m.chain m.rows m.store)) []
    ≡ checked (opened m) []
unfolding control_read control_of opened
read_opened m = checked-top (opened m) (get_or m.control 2 0)

-- and where it is good, it is read as it is
pub read-good : (m : Lent) → Good (opened m) → control_read m.control ≡ control_of m.control
unfolding control_read control_of opened
read-good m g =
    ap
    (λ (t : ℤ).
    record {
      size = get_or m.control 0 0;
      hand = get_or m.control 1 0;
      top = t;
      inserted = get_or m.control 3 0;
      flushed = get_or m.control 4 0;
      cap = get_or m.control 5 0;
    })
    (top_read_is (opened m) (get_or m.control 2 0) (good-sized (opened m) g) (good-sound (opened m) g))

module _ (m : Lent) (answer : List ℕ) where
  pub called-answer : length answer ≢ answer_words → 1 ≡ (called check m [] answer).result
  unfolding called
  called-answer a = rw (ne_eqb (length answer) answer_words a)

  module _ (a : length answer ≡ answer_words) where
    pub called-control : length m.control ≢ control_words → 1 ≡ (called check m [] answer).result
    unfolding called
    called-control h = rw (eq-eqb (length answer) answer_words a, ne_eqb (length m.control) control_words h)

    called-checked : length m.control ≡ control_words → (called check m [] answer).result ≡ checked (opened m) []
    unfolding called
    called-checked h =
        rw (eq-eqb (length answer) answer_words a, eq-eqb (length m.control) control_words h)
        (ended-result m (check (opened m)) (check (opened m)).refusal ∙ check-number (opened m))

    -- the memory as the code reads it
    pub called-read : length m.control ≡ control_words → {r : Control} → r ≡ control_read m.control
        → checked
        (with_counts m.counts (memory r m.states m.names m.pool m.free m.heads m.chain m.rows m.store)) []
        ≡ (called check m [] answer).result
    called-read h e = rw e (read_opened m ∙ sym (called-checked h))

pub ruleset calls = (called-answer, called-control, called-read)
