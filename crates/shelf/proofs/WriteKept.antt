-- An accepted write keeps the relation: the pool's page and the shelf's bytes are written alike, and both sides are dirty.
use Prim.Native.Nat.{ℕ, ◌+◌, ◌^◌, ◌≤◌, ◌<◌}
use mathlib.Core.Path.{◌≡◌, refl, sym, ap, ◌∙◌, subst}
use mathlib.Core.Bool.{◌||◌}
use mathlib.Core.List.{List}
use native.Mathlib.Omega.{arith}
use lib.ListN.{length, set}
use Rattle.laws.specs.First.{Found, found}
use Rattle.laws.specs.Block.{put_block}
use Rattle.laws.proofs.Tests.{never}
use Rattle.laws.proofs.Block.{length-block, length-put_block, block-put-same, block-put-other}
use Rattle.bufmodel.specs.Word.{pinned, make_dirty}
use Rattle.bufmodel.specs.Position.{position, written}
use Rattle.bufmodel.specs.Checksum.{bare}
use Rattle.bufmodel.specs.Memory.{Memory, buffers, size, word_of, page_of, with_states, with_pool}
use Rattle.bufmodel.specs.Calls.{write_to}
use Rattle.bufmodel.proofs.WordLaws.{make-dirty}
use Rattle.bufmodel.proofs.PositionLaws.{length-written, position-written}
use Rattle.bufmodel.proofs.ChecksumLaws.{length-bare, written-alike}
use Rattle.shelf.specs.Shelf.{Shelf, with, written_page, written_at}
use Rattle.shelf.specs.Ledger.{is_place}
use Rattle.shelf.proofs.Kept.{View, shelf_of, Has, Kept}
use Rattle.shelf.proofs.BufferPlaces.{PinnedPage}
use Rattle.shelf.proofs.KeptLaws.{is_place-self, is_place-other}
use Rattle.shelf.proofs.WithLaws.{with-same, with-other}
use Rattle.shelf.proofs.WrittenLaws.{written_is}
use Rattle.shelf.proofs.TurnKept.{turn-kept, block-passes}

-- ---- the relation
module _ (m : Memory) (v : View) (k : Kept m v) (i g : ℕ) (x : Has m i g) where
  -- other bytes, in the pool and on the shelf, and dirty
  page-kept : (page shelf : List ℕ) → length page ≡ size m → position page ≤ m.control.inserted → bare shelf ≡ bare page
      → Kept (with_pool (put_block (size m) i page m.pool) (with_states (set m.states i (make_dirty (word_of m i))) m))
      (record {
        bytes = with g shelf v.bytes;
        counts = v.counts;
        holds = v.holds;
        bad = v.bad;
        dirty = λ h. is_place (found g) h || v.dirty h;
        last = v.last;
        put = v.put;
      })
  unfolding pinned
  page-kept page shelf e low alike =
      let s = k.same i g x in
      let b = k.good.books in
      let p = k.good.sizes.pool in
      let w = make-dirty (k.words i x.below x.full) in
      let own = block-put-same (size m) (buffers m) page m.pool p e i x.below in
      turn-kept m v k i g x m.control.flushed (make_dirty (word_of m i)) (put_block (size m) i page m.pool) m.store m.counts _
      (record {
        held = w.held;
        log = b.log;
        size_pool = length-put_block (size m) (buffers m) page m.pool p e i x.below;
        pages = λ j l ne. block-put-other (size m) (buffers m) page m.pool p e i x.below j ne;
        size_store = refl;
        blocks = λ h l ne. refl;
        size_counts = refl;
        rows = λ j ne h l. refl;
        holders = w.pins ∙ b.counts i x.below;
        low = λ d. omega (arith, ap position own);
        clean = λ d. never w.dirty d;
        sum = block-passes m v k i g x;
        bads = λ h. refl;
        bytes = ap bare (with-same g shelf v.bytes) ∙ alike ∙ ap bare (sym own);
        counts = s.counts;
        marked = rw (is_place-self g) (sym w.dirty);
        holds = k.holds i x.below ∙ rw (x.place, w.pins);
        last = s.last;
        elsewhere = record {
          bytes = with-other g shelf v.bytes;
          counts = λ o h ne. refl;
          marks = λ h ne. rw (is_place-other g h ne);
          holds = λ j ne. refl;
          last = λ j ne. refl;
        };
        put = k.put;
      })

-- what the places 9 and 11 leave: the bytes are within the page, behind its position, and the new position is at most inserted
pub record WriteFits (m : Memory) (from : ℕ) (bytes : List ℕ) (at : ℕ) : Type 0 where
  pub inside : from + length bytes ≤ size m
  pub behind : 8 ≤ from
  pub low : at ≤ m.control.inserted

-- the view with another shelf, and with the page at f dirty besides
abbrev pub view_dirtied : View → Shelf → Found → View
view_dirtied v s f =
    record {
      bytes = s.bytes;
      counts = s.counts;
      holds = s.holds;
      bad = s.bad;
      dirty = λ h. is_place f h || v.dirty h;
      last = v.last;
      put = v.put;
    }

module _ (m : Memory) (v : View) (from : ℕ) (bytes : List ℕ) (at : ℕ) where
  -- the view after a write to the page at f
  abbrev pub view_written : Found → View
  view_written f = view_dirtied v (written_at (shelf_of m v) from bytes at f) f

  -- it is kept, where f is what the number of a pinned buffer holds
  pub write_kept : Kept m v → at < 2 ^ 64 → WriteFits m from bytes at → (i : ℕ) → PinnedPage m v i
      → Kept (write_to m i from bytes at) (view_written (v.holds i))
  unfolding written_at write_to
  write_kept k short fits i p =
      let page = page_of m i in
      let e : length page ≡ size m = length-block (size m) (buffers m) i m.pool k.good.sizes.pool p.has.below in
      let room : from + length bytes ≤ length page = omega arith in
      let long : 8 ≤ length page = omega arith in
      let own = v.bytes p.page in
      let as_long : length own ≡ length page = sym (length-bare 0 own) ∙ ap length p.same.bytes ∙ length-bare 0 page in
      let inside : from ≤ length own = omega arith in
      let alike = written-alike at from bytes own page inside (sym as_long) p.same.bytes in
      subst (λ (f : Found). Kept (write_to m i from bytes at) (view_written f)) (sym p.holds)
      (page-kept m v k i p.page p.has (written at from bytes page) (written_page at from bytes own)
      (length-written at from bytes page room long ∙ e) (omega (arith, position-written at from bytes page short))
      (ap bare (sym (written_is at from bytes own fits.behind inside)) ∙ alike))
