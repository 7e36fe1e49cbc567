-- A page that no buffer had comes into the top of the free list: it is pinned once there, clean, and its bytes are the store's.
use Prim.Native.Nat.{ℕ, ◌+◌, ◌*◌, ◌≤◌, ◌<◌}
use mathlib.Core.Path.{◌≡◌, sym, ap, ◌∙◌, subst}
use mathlib.Core.Bool.{true, false, cond}
use mathlib.Core.Logic.{◌≢◌, ⊎_elim}
use native.Mathlib.Omega.{arith}
use lib.ListN.{length}
use Rattle.laws.specs.First.{found, missing}
use Rattle.laws.specs.Block.{block}
use Rattle.laws.proofs.Tests.{eq-or-ne, never}
use Rattle.buftag.specs.declared.link.Link.TheVariants.{To}
use Rattle.std.specs.Prelude.{None}
use Rattle.buftag.specs.declared.name.PageName.{PageName}
use Rattle.buftag.specs.Link.{link_of}
use Rattle.bufmodel.specs.Checksum.{bare}
use Rattle.bufmodel.specs.Word.{pins, pinned, dirty, clean_flags, loaded}
use Rattle.bufmodel.specs.Rows.{place_of, store_blocks}
use Rattle.bufmodel.specs.Memory.{Memory, buffers, size, cap_of, word_of, name_of, page_of}
use Rattle.bufmodel.specs.Counts.{max_holders, count_at, set_count}
use Rattle.bufmodel.specs.Books.{empty_at}
use Rattle.bufmodel.specs.Moves.{load_at}
use Rattle.bufmodel.specs.Pin.{held_in}
use Rattle.bufmodel.proofs.WordLaws.{pins-pinned, Held, Fields, loaded-fields, empty-zero, zero-pins}
use Rattle.bufmodel.proofs.CountLaws as counts
use Rattle.bufmodel.proofs.CountLaws.{holders-none}
use Rattle.bufmodel.proofs.RowsLaws.{place-in}
use Rattle.bufmodel.proofs.FreeListLaws.{top-empty}
use Rattle.bufmodel.proofs.LoadLaws.{load-buffers, load_word_is, load-name, load_kept, load-page}
use Rattle.bufmodel.proofs.LoadLaws.{load-own, load_full, load-own-name, load-own-page, loaded_for, load-good}
use Rattle.shelf.specs.Shelf.{with, count_with}
use Rattle.shelf.proofs.Kept.{View, Has, Nobody, Same, Kept}
use Rattle.shelf.proofs.KeptLaws.{has-place}
use Rattle.shelf.proofs.WithLaws.{with-same, with-other, count_same, count-holder, count-page}
use Rattle.shelf.proofs.NamePage.{held-nobody}

-- what the ledger says after a pin of holder o that got buffer number i for the page at place g
abbrev pub view_load : View → ℕ → ℕ → ℕ → View
view_load v o i g =
    record {
      bytes = v.bytes;
      counts = count_with o g (v.counts o g + 1) v.counts;
      holds = with i (found g) v.holds;
      bad = v.bad;
      dirty = v.dirty;
      last = with i (found g) v.last;
      put = v.put;
    }

module _ (m : Memory) (v : View) (k : Kept m v) (o : ℕ) (few : o < max_holders) (n : PageName) (i g : ℕ)
    (top : link_of m.control.top ≡ To i) (place : place_of m.rows n ≡ found g) (new : held_in m n ≡ None)
    (fine : v.bad g ≡ false) where
  abbrev after : Memory
  after = loaded_for m o n i g

  below : i < buffers m
  below = (top-empty m k.good i top).0

  stands : g < store_blocks m.rows
  stands = place-in m.rows k.good.sizes.rows n place

  none : Nobody m g
  none = held-nobody m k.good n g place new

  -- ---- which buffer has which page: buffer i has this one, the others keep theirs
  has-own : Has after i g
  unfolding load_at empty_at
  has-own =
      record {
        below = rw (load-buffers m n i g) below;
        full = load_full m n i g below;
        place = ap (place_of m.rows) (load-own-name m n i g k.good below) ∙ place;
      }

  has-load : (j h : ℕ) → j ≢ i → Has after j h → Has m j h
  unfolding load_at empty_at
  has-load j h ne x =
      record {
        below = rw (load-buffers m n i g) at x.below;
        full = sym (load_kept m n i g j ne) ∙ x.full;
        place = ap (place_of m.rows) (sym (load-name m n i g j ne)) ∙ x.place;
      }

  -- buffer i was empty
  was-empty : (j h : ℕ) → Has m j h → j ≢ i
  was-empty j h x e = never (ap (empty_at m) e ∙ (top-empty m k.good i top).1) x.full

  load_has : (j h : ℕ) → Has m j h → Has after j h
  unfolding load_at empty_at
  load_has j h x =
      let ne = was-empty j h x in
      record {
        below = rw (load-buffers m n i g) x.below;
        full = load_kept m n i g j ne ∙ x.full;
        place = ap (place_of m.rows) (load-name m n i g j ne) ∙ x.place;
      }

  load-nobody : (h : ℕ) → Nobody after h → (h ≢ g) × Nobody m h
  load-nobody h gone = (λ e. gone i (subst (Has after i) (sym e) has-own), λ j x. gone j (load_has j h x))

  -- ---- what the ledger says of the page that came
  own-word : word_of after i ≡ loaded
  own-word = load-own m n i g below

  -- every cap allows its usage
  one-use : Fields (cap_of m) loaded 1 1 clean_flags false
  one-use = loaded-fields k.good.books.cap.0

  own-page : page_of after i ≡ block (size m) g m.store
  own-page = load-own-page m n i g k.good below stands

  room : i * max_holders + max_holders ≤ length m.counts
  room = let b = below in omega (arith, k.good.sizes.counts)

  -- it had no pins; its buffer no holders
  no-count : (b : ℕ) → b < max_holders → count_at m.counts i b ≡ 0
  unfolding empty_at
  no-count b l =
      let e = empty-zero (word_of m i) (top-empty m k.good i top).1 in
      holders-none m.counts i b l (sym (k.good.books.counts i below) ∙ ap pins e ∙ zero-pins)

  own-counts : (b : ℕ) → b < max_holders
      → count_with o g (v.counts o g + 1) v.counts b g ≡ count_at (set_count m.counts i o 1) i b
  own-counts b l =
      ⊎_elim
      (λ e.
      subst (λ (y : ℕ). count_with o g (v.counts o g + 1) v.counts y g ≡ count_at (set_count m.counts i o 1) i y) (sym e)
      (count_same o g (v.counts o g + 1) v.counts ∙ one ∙ sym (counts.count_same m.counts i o 1 room few)))
      (λ ne.
      count-holder o g (v.counts o g + 1) v.counts b g ne ∙ k.unpinned g none b l ∙ sym (no-count b l)
      ∙ sym (counts.count-other m.counts i o 1 room few i b l (λ q e. ne e)))
      (eq-or-ne b o)
    where
      one : v.counts o g + 1 ≡ 1
      one = omega (arith, k.unpinned g none o few)

  -- other buffers keep their holders
  other-counts : (j b : ℕ) → j ≢ i → b < max_holders → count_at (set_count m.counts i o 1) j b ≡ count_at m.counts j b
  other-counts j b ne l = counts.count-other m.counts i o 1 room few j b l (λ e q. ne e)

  own_same : Same after (view_load v o i g) i g
  unfolding load_at
  own_same =
      record {
        bytes = k.stored n g place none ∙ ap bare (sym own-page);
        counts = own-counts;
        marked = k.unmarked g none ∙ sym (ap dirty own-word ∙ one-use.dirty);
        last = with-same i (found g) v.last;
        clean = λ d. ap bare (sym own-page);
        fine = fine;
      }

  -- and of the others
  other-same : (j h : ℕ) → j ≢ i → Has m j h → Same after (view_load v o i g) j h
  unfolding load_at
  other-same j h ne x =
      let q = k.same j h x in
      let w = load_word_is m n i g j ne in
      let p = load-page m n i g k.good below stands j ne in
      let other : h ≢ g = λ e. none j (subst (Has m j) e x) in
      record {
        bytes = q.bytes ∙ ap bare (sym p);
        counts = λ b l. count-page o g (v.counts o g + 1) v.counts b h other ∙ q.counts b l ∙ sym (other-counts j b ne l);
        marked = q.marked ∙ ap dirty (sym w);
        last = with-other i (found g) v.last j ne ∙ q.last;
        clean = λ d. q.clean (ap dirty (sym w) ∙ d) ∙ ap bare (sym p);
        fine = q.fine;
      }

  -- ---- all that the relation says
  load-words : (j : ℕ) → j < buffers m → empty_at after j ≡ false → Held (cap_of m) (word_of after j)
  unfolding empty_at
  load-words j l f =
      ⊎_elim
      (λ e. subst (λ (x : ℕ). Held (cap_of m) (word_of after x)) (sym e) (subst (Held (cap_of m)) (sym own-word) one-use.held))
      (λ ne. rw (load_word_is m n i g j ne) (k.words j l (sym (load_kept m n i g j ne) ∙ f)))
      (eq-or-ne j i)

  load_same : (j h : ℕ) → Has after j h → Same after (view_load v o i g) j h
  load_same j h x =
      ⊎_elim
      (λ e.
      let good = load-good m k.good o few n i g top place new in
      let q : g ≡ h = has-place after good i g h has-own (subst (λ (y : ℕ). Has after y h) e x) in
      subst (λ (y : ℕ). Same after (view_load v o i g) y h) (sym e) (subst (Same after (view_load v o i g) i) q own_same))
      (λ ne. other-same j h ne (has-load j h ne x))
      (eq-or-ne j i)

  -- the word of a page just loaded is pinned
  own-pinned : pinned (word_of after i) ≡ true
  own-pinned = ap pinned own-word ∙ pins-pinned loaded (omega (arith, one-use.pins))

  own-place : place_of m.rows (name_of after i) ≡ found g
  own-place = ap (place_of m.rows) (load-own-name m n i g k.good below) ∙ place

  load-holds : (j : ℕ) → j < buffers m
      → with i (found g) v.holds j ≡ cond (pinned (word_of after j)) (place_of m.rows (name_of after j)) missing
  load-holds j l =
      ⊎_elim
      (λ e. rw e (rw (own-pinned, own-place) (with-same i (found g) v.holds)))
      (λ ne. rw (load_word_is m n i g j ne, load-name m n i g j ne) (with-other i (found g) v.holds j ne ∙ k.holds j l))
      (eq-or-ne j i)

  -- the relation is kept
  pub kept-load : Kept (loaded_for m o n i g) (view_load v o i g)
  unfolding load_at
  kept-load =
      let b = load-buffers m n i g in
      record {
        good = load-good m k.good o few n i g top place new;
        words = λ j l. load-words j (rw b at l);
        same = load_same;
        unpinned = λ h gone.
            let w = load-nobody h gone in
            λ b l. count-page o g (v.counts o g + 1) v.counts b h w.0 ∙ k.unpinned h w.1 b l;
        unmarked = λ h gone. k.unmarked h (load-nobody h gone).1;
        stored = λ p h e gone. k.stored p h e (load-nobody h gone).1;
        passed = k.passed;
        known = k.known;
        holds = λ j l. load-holds j (rw b at l);
        put = k.put;
      }
