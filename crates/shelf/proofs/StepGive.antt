-- Give back agrees with the shelf: all of a holder's pins go, and with them what numbers hold whose pages have none left.
use Prim.Native.Nat.{ℕ, ◌^◌, ◌<◌}
use mathlib.Core.Path.{◌≡◌, refl, sym, ap, ◌∙◌, subst}
use mathlib.Core.Bool.{Bool, false, not, cond}
use mathlib.Core.Logic.{⊎_elim}
use mathlib.Core.List.{List, [], ◌∷◌}
use native.Mathlib.Omega.{arith}
use lib.Dec.{eqb}
use borrow.Author.Tests.{leb-false}
use Rattle.laws.specs.First.{Found, found, missing}
use Rattle.laws.proofs.Tests.{eq-or-ne, never, true-or-false}
use Rattle.bufmodel.specs.Word.{pinned, dirty, empty}
use Rattle.bufmodel.specs.Rows.{store_blocks, place_of}
use Rattle.bufmodel.specs.Memory.{Memory, buffers, cap_of, word_of, name_of, with_states, with_counts}
use Rattle.bufmodel.specs.Counts.{max_holders, count_at}
use Rattle.bufmodel.specs.Books.{empty_at}
use Rattle.bufmodel.specs.Outcome.{Place, refusal_of, zeros, done}
use Rattle.bufmodel.specs.Pin.{holder_place}
use Rattle.bufmodel.specs.Calls.{given_word, give_up_to, give_back}
use Rattle.bufmodel.specs.Step.{GiveBack, step}
use Rattle.bufmodel.proofs.WordLaws.{Held, held-lt, empty-zero}
use Rattle.bufmodel.proofs.HeldLaws.{pinned-full}
use Rattle.bufmodel.proofs.OutcomeLaws.{refusal-passed}
use Rattle.bufmodel.proofs.RecountLaws.{Turned, given-turned, given-held, given-free, Given, given-all}
use Rattle.shelf.specs.Shelf.{with, places, refuses, pins_in, still_held, given_back, shelf_after}
use Rattle.shelf.specs.Ledger.{back_by, new_by, put_by, dirtied_by, dirty_after, last_after, said_flushed, flushed_after, accepted_by}
use Rattle.shelf.proofs.CallKinds.{not-checkpoint}
use Rattle.shelf.proofs.Kept.{View, shelf_of, ledger_of, Has, Nobody, Same, Kept, Ended}
use Rattle.shelf.proofs.KeptLaws.{holds-page, holds-none, has-page, pins-in}
use Rattle.shelf.proofs.WithLaws.{with-same, with-other}
use Rattle.shelf.proofs.ShelfPlaces.{refuses-is}
use Rattle.shelf.proofs.Refused.{neither-none, neither-place, call_step}
use Rattle.shelf.proofs.Accepted.{Accepted, accepted-ended}
use Rattle.shelf.proofs.HighestLaws.{highest-still}

-- the counts after holder o gave back what it had
abbrev given : ℕ → (ℕ → ℕ → ℕ) → ℕ → ℕ → ℕ
given o counts = with o (λ g. 0) counts

-- what the ledger then says
abbrev view_given : View → ℕ → View
view_given v o =
    record {
      bytes = v.bytes;
      counts = given o v.counts;
      holds = λ b. still_held (given o v.counts) (v.holds b);
      bad = v.bad;
      dirty = v.dirty;
      last = v.last;
      put = v.put;
    }

-- words of 32 bits
word_fits : (m : Memory) (v : View) → Kept m v → (i : ℕ) → i < buffers m → word_of m i < 2 ^ 32
unfolding empty_at
word_fits m v k i l =
    ⊎_elim
    (λ e. subst (λ (w : ℕ). w < 2 ^ 32) (sym (empty-zero (word_of m i) e)) (omega arith))
    (λ f. held-lt (k.words i l f))
    (true-or-false (empty (word_of m i)))

module _ (m : Memory) (v : View) (k : Kept m v) (o : ℕ) (few : o < max_holders) (words counts : List ℕ)
    (d : Given m o (buffers m) (with_counts counts (with_states words m))) where
  abbrev m' : Memory
  m' = with_counts counts (with_states words m)

  abbrev c : ℕ → ℕ
  c i = count_at m.counts i o

  -- each word is empty and dirty as it was
  turned : (i : ℕ) → i < buffers m → Turned (cap_of m) (word_of m i) (given_word (c i) (word_of m i))
  turned i l = given-turned m k.good o i few l (word_fits m v k i l)

  same-empty : (i : ℕ) → i < buffers m → empty_at m' i ≡ empty_at m i
  unfolding empty_at
  same-empty i l = ap empty (d.word i l) ∙ (turned i l).blank

  same-dirty : (i : ℕ) → i < buffers m → dirty (word_of m' i) ≡ dirty (word_of m i)
  same-dirty i l = ap dirty (d.word i l) ∙ (turned i l).dirt

  -- buffers have the pages that they had
  below : (i : ℕ) → i < buffers m' → i < buffers m
  below i l = subst (λ (n : ℕ). i < n) d.many l

  has-then : (i g : ℕ) → Has m' i g → Has m i g
  has-then i g x = record { below = below i x.below; full = sym (same-empty i (below i x.below)) ∙ x.full; place = x.place }

  has-now : (i g : ℕ) → Has m i g → Has m' i g
  has-now i g x =
      record { below = subst (λ (n : ℕ). i < n) (sym d.many) x.below; full = same-empty i x.below ∙ x.full; place = x.place }

  nobody-then : (g : ℕ) → Nobody m' g → Nobody m g
  nobody-then g none i x = none i (has-now i g x)

  -- the counts of a page are those of its buffer
  new-count : (i g h : ℕ) → Has m i g → h < max_holders → given o v.counts h g ≡ count_at counts i h
  new-count i g h x l =
      ⊎_elim
      (λ e.
      subst (λ (y : ℕ). given o v.counts y g ≡ count_at counts i y) (sym e)
      (ap (λ (r : ℕ → ℕ). r g) (with-same o (λ y. 0) v.counts) ∙ sym (d.count i x.below)))
      (λ ne.
      ap (λ (r : ℕ → ℕ). r g) (with-other o (λ y. 0) v.counts h ne) ∙ (k.same i g x).counts h l ∙ sym (d.others i h l ne))
      (eq-or-ne h o)

  given-same : (i g : ℕ) → Has m i g → Same m' (view_given v o) i g
  given-same i g x =
      let s = k.same i g x in
      let e = same-dirty i x.below in
      record {
        bytes = s.bytes;
        counts = λ h l. new-count i g h x l;
        marked = s.marked ∙ sym e;
        last = s.last;
        clean = λ q. s.clean (sym e ∙ q);
        fine = s.fine;
      }

  -- ---- a page that no buffer has
  given-unpinned : (g : ℕ) → Nobody m' g → (h : ℕ) → h < max_holders → given o v.counts h g ≡ 0
  given-unpinned g none h l =
      ⊎_elim
      (λ e. subst (λ (y : ℕ). given o v.counts y g ≡ 0) (sym e) (ap (λ (r : ℕ → ℕ). r g) (with-same o (λ y. 0) v.counts)))
      (λ ne. ap (λ (r : ℕ → ℕ). r g) (with-other o (λ y. 0) v.counts h ne) ∙ k.unpinned g (nobody-then g none) h l)
      (eq-or-ne h o)

  -- ---- what a number holds: a page that has pins left
  pins-now : (i g : ℕ) → Has m i g → pins_in (given o v.counts) g ≡ pinned (word_of m' i)
  unfolding pinned
  pins-now i g x =
      pins-in (given o v.counts) counts i g (λ h l. new-count i g h x l)
      ∙ ap (λ (n : ℕ). not (eqb n 0)) (sym (d.good.books.counts i (has-now i g x).below))

  given_holds : (i : ℕ) → i < buffers m
      → still_held (given o v.counts) (v.holds i) ≡ cond (pinned (word_of m' i)) (place_of m.rows (name_of m i)) missing
  unfolding still_held
  given_holds i l =
      ⊎_elim
      (λ t.
      let p = has-page m k.good i l (pinned-full m i t) in
      ap (still_held (given o v.counts)) (holds-page m v k i p.0 p.1 t)
      ∙ ap (λ (y : Bool). cond y (found p.0) missing) (pins-now i p.0 p.1)
      ∙ ap (λ (f : Found). cond (pinned (word_of m' i)) f missing) (sym p.1.place))
      (λ f.
      ap (still_held (given o v.counts)) (holds-none m v k i l f)
      ∙ sym (ap (λ (y : Bool). cond y (place_of m.rows (name_of m i)) missing) (still-free i l f)))
      (true-or-false (pinned (word_of m i)))
    where
      still-free : (i : ℕ) → i < buffers m → pinned (word_of m i) ≡ false → pinned (word_of m' i) ≡ false
      still-free i l f = ap pinned (d.word i l) ∙ given-free m k.good o i few l (word_fits m v k i l) f

  given-kept : Kept m' (view_given v o)
  unfolding empty_at
  given-kept =
      record {
        good = d.good;
        words = λ i l f.
            let b = below i l in
            subst (Held (cap_of m)) (sym (d.word i b))
            (given-held m k.good o i few b (word_fits m v k i b) (sym (same-empty i b) ∙ f));
        same = λ i g x. given-same i g (has-then i g x);
        unpinned = given-unpinned;
        unmarked = λ g none. k.unmarked g (nobody-then g none);
        stored = λ n g e none. k.stored n g e (nobody-then g none);
        passed = k.passed;
        known = k.known;
        holds = λ i l. given_holds i (below i l);
        put = k.put;
      }

  give-accepted : refuses (shelf_of m v) (GiveBack o) ≡ 0 → Accepted m v (GiveBack o) zeros [] m'
  unfolding accepted_by shelf_after given_back dirty_after dirtied_by back_by new_by put_by last_after flushed_after said_flushed
  give-accepted e =
      record {
        number = e;
        answers = refl;
        shows = refl;
        many = sym d.many;
        wide = refl;
        cap = refl;
        rows = refl;
        inserted = refl;
        flushed = highest-still (ledger_of m v) m.control.flushed (store_blocks m.rows);
        kept = given-kept;
        others = λ g b z. refl;
        long = refl;
        stored = λ g t. never t refl;
        settled = λ q. absurd (not-checkpoint refl q);
      }

module _ (m : Memory) (v : View) (k : Kept m v) (o : ℕ) where
  abbrev ps : List Place
  ps = holder_place o ∷ []

  give-number : refusal_of ps ≡ refuses (shelf_of m v) (GiveBack o)
  unfolding holder_place places
  give-number = sym (refuses-is _ _)

  give-done : refusal_of ps ≡ 0 → Accepted m v (GiveBack o) zeros [] (give_up_to o (buffers m) m)
  unfolding holder_place
  give-done e =
      let few : o < max_holders = leb-false _ _ (refusal-passed 19 _ [] (omega arith) e).0 in
      let d = given-all m o few k.good (word_fits m v k) in
      subst (λ (y : Memory). Accepted m v (GiveBack o) zeros [] y) (sym d.rest)
      (give-accepted m v k o few _ _ (subst (Given m o (buffers m)) d.rest d) (sym give-number ∙ e))

  pub give-step : Ended m v (GiveBack o) (step m (GiveBack o))
  unfolding step give_back holder_place
  give-step =
      call_step m v (GiveBack o) k ps (done zeros [] (give_up_to o (buffers m) m)) refl give-number
      (neither-place 19 _ [] (omega arith) neither-none)
      (λ e. accepted-ended m v (GiveBack o) zeros [] _ (give-done e))
