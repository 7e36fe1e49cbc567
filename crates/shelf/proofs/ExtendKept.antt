-- One block more in a file keeps the relation: no buffer has the new page, and its bytes are zeros on both sides.
use Prim.Native.Nat.{ℕ, suc, ◌+◌, ◌≤◌, ◌<◌}
use mathlib.Core.Path.{◌≡◌, refl, sym, ap, ◌∙◌}
use mathlib.Core.Logic.{◌≢◌, ◌⊎◌, inl, inr, ⊎_elim}
use mathlib.Core.Bool.{Bool, true, false, not, ◌||◌, cond}
use mathlib.Core.List.{List}
use native.Mathlib.Omega.{arith}
use lib.Dec.{eqb}
use lib.ListN.{length, replicate, length-replicate}
use borrow.Author.Tests.{ne_eqb}
use Rattle.laws.specs.First.{found, missing}
use Rattle.laws.specs.Block.{block, put_block}
use Rattle.laws.proofs.Tests.{eq-or-ne, true-or-false}
use Rattle.laws.proofs.First.{found-same}
use Rattle.laws.proofs.Block.{length-put_block, block-put-same, block-put-other}
use Rattle.buftag.specs.declared.name.PageName.{PageName}
use Rattle.bufmodel.specs.Checksum.{bare, passes}
use Rattle.bufmodel.specs.Word.{pinned}
use Rattle.bufmodel.specs.Position.{position}
use Rattle.bufmodel.specs.Rows.{files, blocks_at, capacity_at, set_blocks, start_of, store_blocks, place_of}
use Rattle.bufmodel.specs.Memory.{Memory, buffers, size, word_of, name_of, with_rows, with_store}
use Rattle.bufmodel.specs.Books.{empty_at}
use Rattle.bufmodel.proofs.ChecksumLaws.{zeros-pass}
use Rattle.bufmodel.proofs.PositionLaws.{position-zeros}
use Rattle.bufmodel.proofs.HeldLaws.{empty-unpinned}
use Rattle.bufmodel.proofs.RowsLaws.{start-in, in-row-only, row-found, place_found, store-set, place_kept, place-new}
use Rattle.bufmodel.proofs.FilesLaws.{extend-good}
use Rattle.shelf.specs.Shelf.{with}
use Rattle.shelf.proofs.Kept.{View, Has, Nobody, Same, Kept}
use Rattle.shelf.proofs.WithLaws.{with-same, with-other}

-- ---- the new block
-- the rows with one block more in row r, and the place of that block
abbrev pub rows_more : List ℕ → ℕ → List ℕ
rows_more rows r = set_blocks rows r (suc (blocks_at rows r))

abbrev pub place_more : List ℕ → ℕ → ℕ
place_more rows r = start_of rows r + blocks_at rows r

-- the memory and the view with it
abbrev pub memory_more : Memory → ℕ → Memory
memory_more m r =
    with_store (put_block (size m) (place_more m.rows r) (replicate (size m) 0) m.store) (with_rows (rows_more m.rows r) m)

abbrev pub view_more : Memory → View → ℕ → View
view_more m v r =
    record {
      bytes = with (place_more m.rows r) (replicate (size m) 0) v.bytes;
      counts = v.counts;
      holds = v.holds;
      bad = v.bad;
      dirty = v.dirty;
      last = v.last;
      put = λ g. eqb g (place_more m.rows r) || v.put g;
    }

module _ (m : Memory) (v : View) (k : Kept m v) (r : ℕ) (l : r < files m.rows)
    (room : blocks_at m.rows r < capacity_at m.rows r) where
  -- ---- its place is within the store, and of no page of before
  more-in : place_more m.rows r < store_blocks m.rows
  more-in = start-in m.rows r (blocks_at m.rows r) l room

  more-new : (n : PageName) (g : ℕ) → place_of m.rows n ≡ found g → g ≢ place_more m.rows r
  more-new n g e q =
      let p = place_found m.rows n e in
      let fill = k.good.sizes.rows.fill p.0 (row-found m.rows n.file p.1).0 in
      let a : p.0 ≡ r = in-row-only m.rows p.0 r g (omega arith) (omega arith) (omega arith) (omega arith) in
      omega (arith, ap (start_of m.rows) a, ap (blocks_at m.rows) a)

  -- ---- the store
  pub store_same : block (size m) (place_more m.rows r) (memory_more m r).store ≡ replicate (size m) 0
  store_same =
      block-put-same (size m) (store_blocks m.rows) (replicate (size m) 0) m.store k.good.sizes.store
      (length-replicate (size m) 0) (place_more m.rows r) more-in

  pub store_other : (g : ℕ) → g ≢ place_more m.rows r
      → block (size m) g (memory_more m r).store ≡ block (size m) g m.store
  store_other =
      block-put-other (size m) (store_blocks m.rows) (replicate (size m) 0) m.store k.good.sizes.store
      (length-replicate (size m) 0) (place_more m.rows r) more-in

  pub store_long : length (memory_more m r).store ≡ length m.store
  store_long =
      length-put_block (size m) (store_blocks m.rows) (replicate (size m) 0) m.store k.good.sizes.store
      (length-replicate (size m) 0) (place_more m.rows r) more-in

  -- ---- a page of before has the place it had, so the buffers have the same pages
  place-more : (n : PageName) (g : ℕ) → place_of m.rows n ≡ found g → place_of (rows_more m.rows r) n ≡ found g
  place-more n g e =
      let p = place_found m.rows n e in
      place_kept m.rows r (suc (blocks_at m.rows r)) n e
      (λ q. omega (arith, ap (blocks_at m.rows) (found-same (sym p.1 ∙ q))))

  has_more : (i g : ℕ) → Has m i g → Has (memory_more m r) i g
  unfolding empty_at
  has_more i g x = record { below = x.below; full = x.full; place = place-more (name_of m i) g x.place }

  has-less : (i g : ℕ) → Has (memory_more m r) i g → Has m i g
  unfolding empty_at
  has-less i g x =
      let p = k.good.books.page i x.below x.full in
      record {
        below = x.below;
        full = x.full;
        place = p.1 ∙ sym (place-more (name_of m i) p.0 p.1) ∙ x.place;
      }

  -- ---- the relation, field by field
  same_more : (i g : ℕ) → Has (memory_more m r) i g → Same (memory_more m r) (view_more m v r) i g
  same_more i g x =
      let y = has-less i g x in
      let s = k.same i g y in
      let ne = more-new (name_of m i) g y.place in
      record {
        bytes = ap bare (with-other (place_more m.rows r) (replicate (size m) 0) v.bytes g ne) ∙ s.bytes;
        counts = s.counts;
        marked = s.marked;
        last = s.last;
        clean = λ d. ap bare (store_other g ne) ∙ s.clean d;
        fine = s.fine;
      }

  -- a page that no buffer has: one of before, or the new one
  stored_more : (n : PageName) (g : ℕ) → place_of (rows_more m.rows r) n ≡ found g → Nobody (memory_more m r) g
      → bare ((view_more m v r).bytes g) ≡ bare (block (size m) g (memory_more m r).store)
  stored_more n g e x =
      ⊎_elim
      (λ q.
      let ne = more-new n g q in
      ap bare (with-other (place_more m.rows r) (replicate (size m) 0) v.bytes g ne)
      ∙ k.stored n g q (λ i y. x i (has_more i g y)) ∙ ap bare (sym (store_other g ne)))
      (λ q. ap bare (rw q.2 (with-same (place_more m.rows r) (replicate (size m) 0) v.bytes ∙ sym store_same)))
      (place-new m.rows r (suc (blocks_at m.rows r)) n refl e)

  -- the new block is zeros, and did not come in bad
  new-fine : v.bad (place_more m.rows r) ≡ false
  new-fine =
      ⊎_elim (λ t. let w = k.known (place_more m.rows r) t in absurd (more-new w.0 _ w.1 refl)) (λ f. f)
      (true-or-false (v.bad (place_more m.rows r)))

  passed-more : (n : PageName) (g : ℕ) → place_of (rows_more m.rows r) n ≡ found g
      → v.bad g ≡ not (passes n.block.0 (block (size m) g (memory_more m r).store))
  passed-more n g e =
      ⊎_elim
      (λ q.
      k.passed n g q
      ∙ ap (λ (y : List ℕ). not (passes n.block.0 y)) (sym (store_other g (more-new n g q))))
      (λ q.
      ap v.bad q.2 ∙ new-fine
      ∙ sym
      (ap not
      (ap (λ (h : ℕ). passes n.block.0 (block (size m) h (memory_more m r).store)) q.2 ∙ ap (passes n.block.0) store_same
      ∙ zeros-pass n.block.0 (size m))))
      (place-new m.rows r (suc (blocks_at m.rows r)) n refl e)

  -- a pinned buffer has a page, and its place is the one of before
  holds_more : (i : ℕ) → i < buffers m
      → v.holds i ≡ cond (pinned (word_of m i)) (place_of (rows_more m.rows r) (name_of m i)) missing
  holds_more i h = k.holds i h ∙ go (empty_at m i) refl
    where
      go : (t : Bool) → empty_at m i ≡ t
          → cond (pinned (word_of m i)) (place_of m.rows (name_of m i)) missing
          ≡ cond (pinned (word_of m i)) (place_of (rows_more m.rows r) (name_of m i)) missing
      go true e = rw (empty-unpinned m i e)
      go false e =
          let p = k.good.books.page i h e in
          rw (p.1, place-more (name_of m i) p.0 p.1)

  -- what was put: the new block, which is at 0, or one of before
  put-more : (g : ℕ) → (view_more m v r).put g ≡ true
      → (g < store_blocks (rows_more m.rows r)) × (position (block (size m) g (memory_more m r).store) ≤ m.control.flushed)
  put-more g e = go (eq-or-ne g (place_more m.rows r))
    where
      go : (g ≡ place_more m.rows r) ⊎ (g ≢ place_more m.rows r)
          → (g < store_blocks (rows_more m.rows r)) × (position (block (size m) g (memory_more m r).store) ≤ m.control.flushed)
      go (inl q) =
          let z = ap (λ (h : ℕ). position (block (size m) h (memory_more m r).store)) q ∙ ap position store_same in
          (omega (arith, more-in, store-set m.rows r (suc (blocks_at m.rows r))), omega (arith, z, position-zeros (size m)))
      go (inr ne) =
          let p = k.put g (rw (ne_eqb g (place_more m.rows r) ne) at e) in
          (omega (arith, store-set m.rows r (suc (blocks_at m.rows r))), rw (store_other g ne) p.1)

  -- all of it
  pub kept_more : Kept (memory_more m r) (view_more m v r)
  unfolding empty_at
  kept_more =
      record {
        good = extend-good m k.good r room _ store_long;
        words = k.words;
        same = same_more;
        unpinned = λ g x. k.unpinned g (λ i y. x i (has_more i g y));
        unmarked = λ g x. k.unmarked g (λ i y. x i (has_more i g y));
        stored = stored_more;
        passed = passed-more;
        known = λ g t. let w = k.known g t in (w.0, place-more w.0 g w.1);
        holds = holds_more;
        put = put-more;
      }
