-- Writing back one page: what it does, and that the relation between memory and ledger is kept.
use Prim.Native.Nat.{ℕ, ◌≤◌, ◌<◌, max}
use mathlib.Core.Path.{◌≡◌, refl, sym, ap, ◌∙◌, subst}
use mathlib.Core.Bool.{true, false, not, ◌&&◌, ◌||◌}
use mathlib.Core.Logic.{◌≢◌, ⊎_elim}
use mathlib.Core.List.{List}
use native.Mathlib.Omega.{arith}
use lib.ListN.{length, length-set}
use lib.Seq.{get_or-set_same, get_or-set_other}
use Rattle.laws.specs.First.{found}
use Rattle.laws.specs.Block.{block, put_block}
use Rattle.laws.proofs.Tests.{eq-or-ne, never}
use Rattle.laws.proofs.Block.{length-block, length-put_block, block-put-same, block-put-other}
use Rattle.buftag.specs.declared.name.PageName.{PageName}
use Rattle.bufmodel.specs.Word.{pins, usage, pinned, dirty, clean_flags, make_clean}
use Rattle.bufmodel.specs.Position.{position}
use Rattle.bufmodel.specs.Checksum.{bare, sealed, passes}
use Rattle.bufmodel.specs.Rows.{store_blocks, place_of}
use Rattle.bufmodel.specs.Memory.{Memory, buffers, size, cap_of, word_of, name_of, page_of}
use Rattle.bufmodel.specs.Moves.{put_at, write_back}
use Rattle.bufmodel.proofs.ChecksumLaws.{alike-position, bare-sealed, length-sealed, sealed-passes}
use Rattle.bufmodel.proofs.WordLaws.{pinned-same, Fields, make-clean}
use Rattle.bufmodel.proofs.RowsLaws.{place-in, place_same}
use Rattle.bufmodel.proofs.SizesLaws.{sized-least}
use Rattle.shelf.specs.Ledger.{is_place}
use Rattle.shelf.proofs.Kept.{View, Has, Kept}
use Rattle.shelf.proofs.KeptLaws.{is_place-self, is_place-other}
use Rattle.shelf.proofs.TurnKept.{turned, turned_then, turned-has, turn-kept}

-- ---- what it does
-- the memory after the dirty page of buffer i was written back to place g
abbrev pub back_of : Memory → ℕ → ℕ → Memory
back_of m i g =
    turned m i (max m.control.flushed (position (page_of m i))) (make_clean (word_of m i)) m.pool
    (put_block (size m) g (sealed (name_of m i).block.0 (page_of m i)) m.store) m.counts

-- a dirty page goes to its place
pub back-dirty : (m : Memory) (i g : ℕ) → place_of m.rows (name_of m i) ≡ found g → dirty (word_of m i) ≡ true
    → write_back m i ≡ back_of m i g
unfolding write_back put_at
back-dirty m i g e d = rw (d, e)

-- as many buffers as before
pub back-buffers : (m : Memory) (i : ℕ) → buffers (write_back m i) ≡ buffers m
unfolding write_back
back-buffers m i = length-set m.states i _

-- ---- the ledger's view of it
abbrev pub view_back : View → ℕ → View
view_back v g =
    record {
      bytes = v.bytes;
      counts = v.counts;
      holds = v.holds;
      bad = v.bad;
      dirty = λ h. not (is_place (found g) h) && v.dirty h;
      last = v.last;
      put = λ h. is_place (found g) h || v.put h;
    }

module _ (m : Memory) (v : View) (k : Kept m v) (i g : ℕ) (x : Has m i g) where
  -- ---- the words: buffer i's is made clean, the others stay
  clean-word : Fields (cap_of m) (make_clean (word_of m i)) (pins (word_of m i)) (usage (word_of m i)) clean_flags false
  clean-word = make-clean (k.words i x.below x.full)

  word-own : word_of (back_of m i g) i ≡ make_clean (word_of m i)
  word-own = get_or-set_same m.states i (make_clean (word_of m i)) 0 x.below

  pub back-word : (j : ℕ) → j ≢ i → word_of (back_of m i g) j ≡ word_of m j
  back-word j ne = get_or-set_other m.states i j (make_clean (word_of m i)) 0 ne

  -- the page is dirty no more, and pinned as it was
  pub back-own : dirty (word_of (back_of m i g) i) ≡ false
  back-own = ap dirty word-own ∙ clean-word.dirty

  pub back-pinned : pinned (word_of (back_of m i g) i) ≡ pinned (word_of m i)
  back-pinned = pinned-same (word_of (back_of m i g) i) (word_of m i) (ap pins word-own ∙ clean-word.pins)

  -- ---- the same buffers have the same pages
  pub back-then : (j q : ℕ) → Has (back_of m i g) j q → Has m j q
  back-then = turned_then m i g x _ _ _ _ _ clean-word.held.full

  pub back-has : (j q : ℕ) → Has m j q → Has (back_of m i g) j q
  back-has = turned-has m i g x _ _ _ _ _ clean-word.held.full

  -- ---- the store: the page's block is put, the others stay
  -- the page fits its block, and its place is in the store
  page-long : length (page_of m i) ≡ size m
  page-long = length-block (size m) (buffers m) i m.pool k.good.sizes.pool x.below

  -- as it goes to the store: as long, and the same page but for bytes 8 and 9
  abbrev out : List ℕ
  out = sealed (name_of m i).block.0 (page_of m i)

  long : 10 ≤ length (page_of m i)
  long = omega (arith, page-long, sized-least k.good.sizes)

  out-long : length out ≡ size m
  out-long = length-sealed (name_of m i).block.0 (page_of m i) long ∙ page-long

  out-bare : bare out ≡ bare (page_of m i)
  out-bare = bare-sealed (name_of m i).block.0 (page_of m i) long

  out-position : position out ≡ position (page_of m i)
  out-position = alike-position out (page_of m i) out-bare

  pub place-below : g < store_blocks m.rows
  place-below = place-in m.rows k.good.sizes.rows (name_of m i) x.place

  pub back_long : length (back_of m i g).store ≡ length m.store
  back_long = length-put_block (size m) (store_blocks m.rows) out m.store k.good.sizes.store out-long g place-below

  back-same : block (size m) g (back_of m i g).store ≡ out
  back-same = block-put-same (size m) (store_blocks m.rows) out m.store k.good.sizes.store out-long g place-below

  pub back-other : (q : ℕ) → q ≢ g → block (size m) q (back_of m i g).store ≡ block (size m) q m.store
  back-other = block-put-other (size m) (store_blocks m.rows) out m.store k.good.sizes.store out-long g place-below

  -- its block has its checksum
  back_passes : (n : PageName) → place_of m.rows n ≡ found g → passes n.block.0 (block (size m) g (back_of m i g).store) ≡ true
  back_passes n e =
      subst (λ (y : PageName). passes y.block.0 (block (size m) g (back_of m i g).store) ≡ true)
      (place_same m.rows k.good.sizes.rows (name_of m i) n x.place e)
      (ap (passes (name_of m i).block.0) back-same ∙ sealed-passes (name_of m i).block.0 (page_of m i) long)

  -- ---- the relation is kept
  pub kept-back_of : dirty (word_of m i) ≡ true → Kept (back_of m i g) (view_back v g)
  unfolding pinned
  kept-back_of d =
      let s = k.same i g x in
      let b = k.good.books in
      turn-kept m v k i g x _ (make_clean (word_of m i)) m.pool (back_of m i g).store m.counts (view_back v g)
      (record {
        held = clean-word.held;
        log = omega (arith, b.log, b.low i x.below d);
        size_pool = refl;
        pages = λ j l ne. refl;
        size_store = back_long;
        blocks = λ h l ne. back-other h ne;
        size_counts = refl;
        rows = λ j ne h l. refl;
        holders = clean-word.pins ∙ b.counts i x.below;
        low = λ t. never t clean-word.dirty;
        clean = λ t. ap bare back-same ∙ out-bare;
        sum = back_passes;
        bads = λ h. refl;
        bytes = s.bytes;
        counts = s.counts;
        marked = rw (is_place-self g) (sym clean-word.dirty);
        holds = k.holds i x.below ∙ rw (x.place, clean-word.pins);
        last = s.last;
        elsewhere = record {
          bytes = λ h ne. refl;
          counts = λ o h ne. refl;
          marks = λ h ne. rw (is_place-other g h ne);
          holds = λ j ne. refl;
          last = λ j ne. refl;
        };
        put = λ h t.
            ⊎_elim
            (λ q. rw q (place-below, omega (arith, ap position back-same, out-position)))
            (λ ne.
            let o = k.put h (rw (is_place-other g h ne) at t) in
            (o.0, omega (arith, o.1, ap position (back-other h ne))))
            (eq-or-ne h g);
      })
