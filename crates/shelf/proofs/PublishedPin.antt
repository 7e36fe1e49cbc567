-- A pin's probes, buffer and words are as published: held, from the free list, the victim of a sweep, or refused.
use Prim.Native.Nat.{ℕ, ◌+◌, ◌*◌, ◌≤◌, ◌<◌}
use mathlib.Core.Path.{◌≡◌, refl, sym, ap, ◌∙◌, subst}
use mathlib.Core.Bool.{Bool}
use mathlib.Core.Logic.{◌≢◌, ⊎_elim}
use mathlib.Core.List.{List, [], ◌∷◌}
use native.Mathlib.Omega.{arith}
use lib.ListN.{length, get_or, length-set}
use lib.Seq.{get_or-set_other}
use Rattle.laws.specs.Sum.{ind}
use Rattle.laws.specs.First.{Found, found}
use Rattle.laws.specs.Block.{block}
use Rattle.laws.proofs.Tests.{eq-or-ne}
use Rattle.laws.proofs.Block.{length-block}
use Rattle.buftag.specs.declared.link.Link.{Link}
use Rattle.buftag.specs.declared.link.Link.TheVariants.{To, End}
use Rattle.buftag.specs.Lookup.{Held}
use Rattle.std.specs.Prelude.{Some, None}
use Rattle.buftag.specs.declared.name.PageName.{PageName}
use Rattle.buftag.specs.declared.number.BufferNumber.{BufferNumber}
use Rattle.buftag.specs.Name.{bucket_of}
use Rattle.buftag.specs.Link.{link_of}
use Rattle.buftag.proofs.NameLaws.{bucket-lt}
use Rattle.bufmodel.specs.Word.{dirty}
use Rattle.bufmodel.specs.Rows.{store_blocks, place_of}
use Rattle.bufmodel.specs.Memory.{Memory, buffers, size, cap_of, word_of, name_of, page_of, with_states, with_counts, with_hand}
use Rattle.bufmodel.specs.Counts.{count_at, set_count}
use Rattle.bufmodel.specs.Books.{BooksSound}
use Rattle.bufmodel.specs.Sweep.{Swept, Sweeps, sweep_all}
use Rattle.bufmodel.specs.Moves.{write_back, release, load_at, load}
use Rattle.bufmodel.specs.Outcome.{refusal_of, checked, done, refused}
use Rattle.bufmodel.specs.Pin.{held_in, pin_places, pin_held, pin_free, pin_victim, pin_swept, pin_new, pin_to, pin}
use Rattle.bufmodel.specs.Step.{Pin, step}
use Rattle.bufmodel.proofs.RowsLaws.{place-in, place_same}
use Rattle.bufmodel.proofs.GoodLaws.{Good, checked-good}
use Rattle.bufmodel.proofs.OutcomeLaws.{outcome-done, outcome-refused}
use Rattle.bufmodel.proofs.HeldLaws.{pinned-full, dirty-full, held_none, held_at}
use Rattle.bufmodel.proofs.FreeListLaws.{top-none, top-empty, top-full}
use Rattle.bufmodel.proofs.LoadLaws.{load_is, load-buffers, loaded_for}
use Rattle.bufmodel.proofs.ReleaseLaws.{release-top}
use Rattle.bufmodel.proofs.LessUsedLaws.{less-dirty}
use Rattle.bufmodel.proofs.SweepLaws.{SweptFrom, sweeps-from}
use Rattle.bufmodel.proofs.SweepEnds.{sweep_all-relates, sweep-stuck}
use Rattle.shelf.specs.Shelf.{with}
use Rattle.shelf.specs.Published.{marks_of, with_words, emptied, Alike, blocks_of, backed, Leaves, counts_by, loaded, Sought}
use Rattle.shelf.specs.Published.{hit, free, early, taken, stuck}
use Rattle.shelf.proofs.MemoryPlaces.{pin-stuck, pin-holder, pin-place, pin-victim}
use Rattle.shelf.proofs.PublishedWords.{held-word-is, few-used}
use Rattle.shelf.proofs.PublishedMarks.{alike_same, alike_then, emptied-past, loaded-alike, Shape, good-shape}
use Rattle.shelf.proofs.PublishedMarks.{release-shape, release-marks, load-wide, load-marks}
use Rattle.shelf.proofs.PublishedStore.{put-with, back_store, backed-other, back-blocks}
use Rattle.shelf.proofs.PublishedLeaves.{ind-cond, pins-set}

-- ---- a load
load-pages : (m : Memory) (n : PageName) (i g : ℕ) → i < buffers m → length m.pool ≡ buffers m * size m
    → length (block (size m) g m.store) ≡ size m → (j : ℕ)
    → page_of (load_at m n i g) j ≡ with i (blocks_of m g) (page_of m) j
unfolding load_at
load-pages m n i g l pool page j = put-with (size m) (buffers m) (blocks_of m g) m.pool pool page i l j

-- the sweep of a sound memory is as published, and ends in time
pub sweep-published : (m : Memory) → BooksSound m
    → let s = sweep_all (cap_of m) m.states m.control.hand in
    Sweeps (buffers m) 0 m.control.hand m.states s × (s.probes ≤ (cap_of m + 1) * buffers m)
sweep-published m b = sweep_all-relates (cap_of m) m.states m.control.hand b.hand (few-used m b)

module _ (m : Memory) (k : Good m) (h : ℕ) (n : PageName) where
  -- ---- refused
  stuck-sought : refusal_of (pin_places m h n) ≡ 6 → Sought m h n (cap_of m) (buffers m) (refused 6 [] m)
  stuck-sought e =
      let p = pin-stuck m h n e in
      let w = sweep-stuck m.states m.control.hand k.books.hand p.1 in
      let end = top-full m k (λ i l. pinned-full m i (p.1 i l)) in
      record {
        probes = w.0.probes;
        looked = stuck {s = w.0} p.0 end refl w.1 w.2;
        bound = omega (arith, w.3);
        at_six = λ z. w.3;
        answered = λ z. absurd (omega arith);
      }

  refused-sought : (i : ℕ) → i ≢ 0 → refusal_of (pin_places m h n) ≡ i → Sought m h n (cap_of m) (buffers m) (refused i [] m)
  refused-sought i ne e =
      ⊎_elim
      (λ q. subst (λ (j : ℕ). Sought m h n (cap_of m) (buffers m) (refused j [] m)) (sym q) (stuck-sought (e ∙ q)))
      (λ f. record { probes = 0; looked = early ne f; bound = omega arith; at_six = λ z. absurd (f z); answered = λ z. absurd (ne z) })
      (eq-or-ne i 6)

  -- ---- held
  hit-sought : h < 64 → (b : BufferNumber) → held_in m n ≡ Some b → Sought m h n (cap_of m) (buffers m) (pin_held m h b.0)
  unfolding pin_held count_at
  hit-sought few b e =
      let c = counts_by m h b.0 in
      record {
        probes = 0;
        looked = hit {b = b} e refl refl
            (pins-set m _ h k few b.0 (c + 1) (held_at m n b e).0 (held-word-is (cap_of m) c (word_of m b.0)));
        bound = omega arith;
        at_six = λ q. absurd (omega arith);
        answered = λ q. refl;
      }

  -- ---- not held, and the page is at place g
  module _ (few : h < 64) (new : held_in m n ≡ None) (g : ℕ) (place : place_of m.rows n ≡ found g) where
    -- the page's bucket and block
    in-heads : bucket_of n (length m.heads) < length m.heads
    in-heads = bucket-lt n (length m.heads) (omega (arith, k.sizes.least, k.sizes.wide))

    in-store : g < store_blocks m.rows
    in-store = place-in m.rows k.sizes.rows n place

    -- from the free list
    free-leaves : (i : ℕ) → i < buffers m → (answer : List ℕ)
        → Leaves m (done answer [] (loaded_for m h n i g)) (loaded m h n i (marks_of m)) (with i (blocks_of m g) (page_of m)) (blocks_of m)
    unfolding load_at
    free-leaves i l answer =
        let s = good-shape m k in
        record {
          many = load-buffers m n i g;
          wide = load-wide m s i l n g;
          alike = load-marks m s i l n g h few in-heads;
          pages = λ j h.
              load-pages m n i g l k.sizes.pool
              (length-block (size m) (store_blocks m.rows) g m.store k.sizes.store in-store) j;
          blocks = λ h l. refl;
        }

    free-sought : (i : ℕ) → link_of m.control.top ≡ To i → Sought m h n (cap_of m) (buffers m) (pin_free m h n i)
    unfolding pin_free
    free-sought i top =
        subst
        (λ (o : Memory). Sought m h n (cap_of m) (buffers m) (done (i ∷ 0 ∷ 0 ∷ 0 ∷ []) [] (with_counts (set_count m.counts i h 1) o)))
        (sym (load_is m n i g top place))
        (record {
          probes = 0;
          looked = free new top refl refl place (free-leaves i (top-empty m k i top).0 _);
          bound = omega arith;
          at_six = λ q. absurd (omega arith);
          answered = λ q. refl;
        })

    -- ---- the victim of a sweep
    module _ (top : link_of m.control.top ≡ End) where
      abbrev s : Swept
      s = sweep_all (cap_of m) m.states m.control.hand

      sweeps : Sweeps (buffers m) 0 m.control.hand m.states s × (s.probes ≤ (cap_of m + 1) * buffers m)
      sweeps = sweep-published m k.books

      from : SweptFrom m.states s
      from = sweeps-from k.books.hand refl sweeps.0

      module _ (v : ℕ) (victim : s.victim ≡ found v) where
        -- after the sweep, after the write-back, and with the victim on top of the free list
        abbrev swept : Memory
        swept = with_hand s.hand (with_states s.words m)

        abbrev back : Memory
        back = write_back swept v

        abbrev released : Memory
        released = release back v

        abbrev after : Memory
        after = loaded_for released h n v g

        after_is : with_counts (set_count m.counts v h 1) (load released n) ≡ after
        unfolding release write_back
        after_is =
            ap (λ (o : Memory). with_counts (set_count m.counts v h 1) o) (load_is released n v g (release-top back v) place)

        below : v < buffers m
        below = (from.taken v victim).0

        back-shape : Shape (buffers m) (length m.heads) back
        unfolding write_back
        back-shape =
            record {
              many = length-set s.words v _ ∙ from.same_length;
              wide = refl;
              names = k.sizes.names;
              free = k.sizes.free;
              chain = k.sizes.chain;
              counts = k.sizes.counts;
            }

        released-shape : Shape (buffers m) (length m.heads) released
        released-shape = release-shape back back-shape v below

        -- the victim's word was set on the way
        back-marks : Alike (buffers m) (length m.heads) (emptied v (marks_of back))
            (emptied v (with_words (λ i. get_or s.words i 0) s.hand (marks_of m)))
        unfolding write_back
        back-marks = emptied-past v below (λ i. get_or s.words i 0) (λ j ne. get_or-set_other s.words v j _ 0 ne) alike_same

        taken-alike : Alike (buffers m) (length m.heads) (marks_of after)
            (loaded m h n v (emptied v (with_words (λ i. get_or s.words i 0) s.hand (marks_of m))))
        taken-alike =
            alike_then (load-marks released released-shape v below n g h few in-heads)
            (loaded-alike (bucket_of n (length m.heads)) in-heads h n v below
            (alike_then (release-marks back back-shape v below) back-marks))

        -- the write-back put the victim's page into the store; the wanted page's block is another, and as it was
        swept-dirty : dirty (get_or s.words v 0) ≡ dirty (word_of m v)
        swept-dirty = less-dirty (from.each v)

        store-back : (h : ℕ) → block (size m) h released.store ≡ backed m v (blocks_of m) h
        unfolding release write_back
        store-back h =
            ap (λ (d : Bool). block (size m) h (back_store m v d m.store)) swept-dirty
            ∙ back-blocks m v k below m.store k.sizes.store h

        wanted : block (size m) g released.store ≡ blocks_of m g
        wanted =
            store-back g
            ∙ backed-other m v (blocks_of m) g
            (λ d e. held_none m n new v (dirty-full m v d) (place_same m.rows k.sizes.rows (name_of m v) n e place))

        page-long : length (block (size m) g released.store) ≡ size m
        page-long =
            ap length wanted ∙ length-block (size m) (store_blocks m.rows) g m.store k.sizes.store in-store

        pool-long : length released.pool ≡ buffers released * size released
        unfolding release write_back
        pool-long = rw released-shape.many k.sizes.pool

        taken-leaves : (answer : List ℕ)
            → Leaves m (done answer [] after) (loaded m h n v (emptied v (with_words (λ i. get_or s.words i 0) s.hand (marks_of m))))
            (with v (blocks_of m g) (page_of m)) (backed m v (blocks_of m))
        unfolding release write_back load_at
        taken-leaves answer =
            record {
              many = load-buffers released n v g ∙ released-shape.many;
              wide = load-wide released released-shape v below n g;
              alike = taken-alike;
              pages = λ i h.
                  load-pages released n v g (omega (arith, below, released-shape.many)) pool-long page-long i
                  ∙ ap (λ (x : List ℕ). with v x (page_of m) i) wanted;
              blocks = λ h l. store-back h;
            }

        taken-sought : Sought m h n (cap_of m) (buffers m) (pin_victim m h n s (found v))
        unfolding pin_victim
        taken-sought =
            let answer = v ∷ 0 ∷ ind (dirty (word_of m v)) ∷ s.probes ∷ [] in
            subst (λ (o : Memory). Sought m h n (cap_of m) (buffers m) (done answer [] o)) (sym after_is)
            (record {
              probes = s.probes;
              looked = taken new top refl sweeps.0 victim
                  (ap (λ (w : ℕ). v ∷ 0 ∷ w ∷ s.probes ∷ []) (ind-cond (dirty (word_of m v)))) place (taken-leaves answer);
              bound = sweeps.1;
              at_six = λ q. absurd (omega arith);
              answered = λ q. refl;
            })

  -- ---- accepted
  module _ (z : refusal_of (pin_places m h n) ≡ 0) where
    abbrev page : (g : ℕ) × (place_of m.rows n ≡ found g)
    page = pin-place m h n z

    module _ (new : held_in m n ≡ None) where
      -- some buffer is unpinned, so a sweep finds a victim
      swept-sought : link_of m.control.top ≡ End
          → Sought m h n (cap_of m) (buffers m) (pin_swept m h n (sweep_all (cap_of m) m.states m.control.hand))
      unfolding pin_swept
      swept-sought top =
          let f = pin-victim m h n z k new in
          subst
          (λ (x : Found). Sought m h n (cap_of m) (buffers m) (pin_victim m h n (sweep_all (cap_of m) m.states m.control.hand) x))
          (sym f.1)
          (taken-sought (pin-holder m h n z) new page.0 page.1 top f.0 f.1)

      new-sought : Sought m h n (cap_of m) (buffers m) (pin_new m h n (link_of m.control.top))
      unfolding pin_new
      new-sought =
          ⊎_elim
          (λ top. subst (λ (l : Link). Sought m h n (cap_of m) (buffers m) (pin_new m h n l)) (sym top) (swept-sought top))
          (λ t.
          subst (λ (l : Link). Sought m h n (cap_of m) (buffers m) (pin_new m h n l)) (sym t.1)
          (free-sought (pin-holder m h n z) new page.0 page.1 t.0 t.1))
          (top-none m k)

    accepted-sought : Sought m h n (cap_of m) (buffers m) (pin_to m h n (held_in m n))
    unfolding pin_to
    accepted-sought = go (held_in m n) refl
      where
        go : (x : Held) → held_in m n ≡ x → Sought m h n (cap_of m) (buffers m) (pin_to m h n x)
        go (Some b) e = hit-sought (pin-holder m h n z) b e
        go None e = new-sought e

  -- ---- refused or accepted
  pub pin-sought : Sought m h n (cap_of m) (buffers m) (step m (Pin h n))
  unfolding step pin
  pin-sought =
      let own = pin_places m h n in
      let o = pin_to m h n (held_in m n) in
      let e = checked-good m k own in
      ⊎_elim
      (λ z. subst (Sought m h n (cap_of m) (buffers m)) (sym (outcome-done [] m o (e ∙ z))) (accepted-sought z))
      (λ ne.
      let f : checked m own ≢ 0 = λ z. ne (sym e ∙ z) in
      subst (Sought m h n (cap_of m) (buffers m)) (sym (outcome-refused [] m o (checked m own) f))
      (refused-sought (checked m own) f (sym e)))
      (eq-or-ne (refusal_of own) 0)
