-- What the calls on one buffer, give back, peek, extend and the log calls leave, where they are accepted.
use Prim.Native.Nat.{ℕ, ◌+◌, ◌-◌, ◌≤◌, ◌<◌}
use mathlib.Core.Path.{◌≡◌, refl, sym, ap, ◌∙◌, subst}
use mathlib.Core.Logic.{◌≢◌, ⊎_elim}
use mathlib.Core.Bool.{false, ◌||◌}
use mathlib.Core.List.{List, [], ◌∷◌}
use native.Mathlib.Omega.{arith}
use lib.Dec.{ltb}
use lib.ListN.{length, replicate, length-replicate}
use borrow.Author.Tests.{eq-eqb, ne_eqb, eqb-false, leb-false, ltb-false}
use Rattle.laws.specs.First.{Found, found, missing}
use Rattle.laws.proofs.Tests.{eq-or-ne, or-neither}
use Rattle.laws.proofs.Block.{length-block}
use Rattle.buftag.specs.Lookup.{Held}
use Rattle.buftag.specs.declared.name.FileName.{FileName}
use Rattle.buftag.specs.declared.name.PageName.{PageName}
use Rattle.bufmodel.specs.Word.{pins, dirty}
use Rattle.bufmodel.specs.Position.{written}
use Rattle.bufmodel.specs.Rows.{blocks_at, capacity_at, row_of, start_of, store_blocks}
use Rattle.bufmodel.specs.Memory.{Memory, buffers, size, word_of, page_of}
use Rattle.bufmodel.specs.Counts.{count_at}
use Rattle.bufmodel.specs.Moves.{write_back}
use Rattle.bufmodel.specs.Outcome.{place, zeros, one, two, done}
use Rattle.bufmodel.specs.Pin.{holder_place, no_row, held_in}
use Rattle.bufmodel.specs.Calls.{buffer_places, unpin_at, unpin, read, write_places, write_to, write, flush, offset_of, part_of, peek}
use Rattle.bufmodel.specs.Calls.{give_up_to, give_back, file_full, extend_at, extend, log_inserted, log_flushed}
use Rattle.bufmodel.specs.Step.{Call, Unpin, Read, Write, Flush, GiveBack, Peek, Extend, LogInserted, LogFlushed, step}
use Rattle.bufmodel.proofs.WordLaws.{pins-pinned}
use Rattle.bufmodel.proofs.CountLaws.{pin-some}
use Rattle.bufmodel.proofs.PositionLaws.{length-written}
use Rattle.bufmodel.proofs.RowsLaws.{row-found, start-in}
use Rattle.bufmodel.proofs.GoodLaws.{Good}
use Rattle.bufmodel.proofs.OutcomeLaws.{refusal-passed}
use Rattle.bufmodel.proofs.RecountLaws.{Given, given-all}
use Rattle.bufmodel.proofs.HeldLaws.{pinned-full}
use Rattle.shelf.specs.Shelf.{with, written_page}
use Rattle.shelf.specs.Published.{Accepts, Peeks, Words, counts_by, extended_by}
use Rattle.shelf.proofs.WrittenLaws.{written_is}
use Rattle.shelf.proofs.MemoryPlaces.{number_passed}
use Rattle.shelf.proofs.PublishedWords.{HeldWords, less-word-is, given-word-is, dirtied-is, narrow-words, cleaned-is, dirty-held}
use Rattle.shelf.proofs.PublishedStore.{put-with, back-blocks}
use Rattle.shelf.proofs.PublishedLeaves.{ind-cond, Pages, Blocks, stays-whole, stays-set, pins-left, pins-set, call-done}

-- what an accepted call leaves
abbrev pub Says : Memory → Call → Type 0
Says m c = (step m c).refusal ≡ 0 → Accepts m c (step m c)

-- ---- calls on a buffer
-- a buffer on which a holder has pins counts one at least
some-pins : (m : Memory) → Good m → (h i : ℕ) → h < 64 → i < buffers m → count_at m.counts i h ≢ 0 → 0 < pins (word_of m i)
some-pins m k h i few l ne = omega (arith, pin-some m.counts i h few ne, k.books.counts i l)

module _ (m : Memory) (h i : ℕ) where
  pub unpin-says : Good m → Says m (Unpin h i)
  unfolding step unpin unpin_at count_at
  unpin-says k =
      call-done m (buffer_places m h i []) [] (done zeros [] (unpin_at m h i)) refl (Accepts m (Unpin h i))
      (λ e.
      let p = number_passed m h i [] e in
      let c = counts_by m h i in
      pins-set m zeros h k p.3 i (c - 1) p.0 (less-word-is c (word_of m i) (some-pins m k h i p.3 p.0)))

  pub read-says : (from : ℕ) (out : List ℕ) → Says m (Read h i from out)
  unfolding step read
  read-says from out =
      call-done m (buffer_places m h i _) out (done zeros _ m) refl (Accepts m (Read h i from out))
      (λ e. (stays-whole m _ refl refl refl (λ j l. refl) (λ g l. refl), refl))

  pub flush-says : Good m → HeldWords m → Says m (Flush h i)
  unfolding step flush write_back
  flush-says k held =
      call-done m (buffer_places m h i []) [] (done _ [] (write_back m i)) refl (Accepts m (Flush h i))
      (λ e.
      let p = number_passed m h i [] e in (
        stays-set m _ refl refl p.0 (cleaned-is (word_of m i) (dirty-held m held i p.0)) refl (λ j l. refl)
            (λ g l. back-blocks m i k p.0 m.store k.sizes.store g),
        ap one (ind-cond (dirty (word_of m i))),
      ))

-- ---- write
-- where the bytes are within the page and behind the position: a page as long as it was, and written as the statement says it
write-fits : (size from at : ℕ) (bytes page : List ℕ) → length page ≡ size
    → (ltb size (from + length bytes) || ltb from 8) ≡ false
    → (length (written at from bytes page) ≡ size) × (written at from bytes page ≡ written_page at from bytes page)
write-fits size from at bytes page e h =
    let n = or-neither (ltb size (from + length bytes)) (ltb from 8) h in
    let inside : from + length bytes ≤ size = ltb-false _ _ n.0 in
    let behind : 8 ≤ from = ltb-false _ _ n.1 in
    (length-written at from bytes page (omega arith) (omega arith) ∙ e, written_is at from bytes page behind (omega arith))

module _ (m : Memory) (k : Good m) (held : HeldWords m) (h i from : ℕ) (bytes : List ℕ) (at : ℕ) where
  write-pages : i < buffers m → (ltb (size m) (from + length bytes) || ltb from 8) ≡ false
      → Pages m (write_to m i from bytes at) (with i (written_page at from bytes (page_of m i)) (page_of m))
  unfolding write_to
  write-pages b fits j l =
      let page = length-block (size m) (buffers m) i m.pool k.sizes.pool b in
      let w = write-fits (size m) from at bytes (page_of m i) page fits in
      put-with (size m) (buffers m) _ m.pool k.sizes.pool w.0 i b j
      ∙ ap (λ (x : List ℕ). with i x (page_of m) j) w.1

  pub write-says : Says m (Write h i from bytes at)
  unfolding step write write_places write_to
  write-says =
      call-done m (write_places m h i from bytes at) bytes (done zeros bytes (write_to m i from bytes at)) refl
      (Accepts m (Write h i from bytes at))
      (λ e.
      let p = number_passed m h i _ e in
      let full = pinned-full m i (pins-pinned (word_of m i) (some-pins m k h i p.3 p.0 p.1)) in
      stays-set m _ refl refl p.0 (dirtied-is (held i p.0 full)) refl
      (write-pages p.0 (refusal-passed 9 _ _ (omega arith) p.2).0) (λ g l. refl))

-- ---- give back
module _ (m : Memory) (k : Good m) (held : HeldWords m) (h : ℕ) where
  give-leaves : h < 64 → {d : Memory} → Given m h (buffers m) d → Accepts m (GiveBack h) (done zeros [] d)
  unfolding count_at
  give-leaves few {d} x =
      subst (λ (y : Memory). Accepts m (GiveBack h) (done zeros [] y)) (sym x.rest)
      (pins-left m zeros h (λ i. 0) d.states d.counts x.many
      (λ i l. x.word i l ∙ given-word-is (counts_by m h i) (word_of m i) (some-pins m k h i few l))
      (λ i o l t.
      ⊎_elim
      (λ e. rw (eq-eqb o h e, e) (x.count i l))
      (λ ne. rw (ne_eqb o h ne) (x.others i o t ne))
      (eq-or-ne o h)))

  pub give-says : Says m (GiveBack h)
  unfolding step give_back holder_place
  give-says =
      call-done m (holder_place h ∷ []) [] (done zeros [] (give_up_to h (buffers m) m)) refl (Accepts m (GiveBack h))
      (λ e.
      let few = leb-false _ _ (refusal-passed 19 _ _ (omega arith) e).0 in
      give-leaves few (given-all m h few k (narrow-words m held)))

-- ---- calls that change no word
module _ (m : Memory) where
  peek-part : (n : PageName) → Peeks m n (done (part_of m n (held_in m n)) [] m)
  unfolding part_of offset_of
  peek-part n =
      record {
        in_pool = λ b e. ap (λ (h : Held). part_of m n h) e;
        in_store = λ g e f. ap (λ (h : Held). part_of m n h) e ∙ ap (λ (x : Found). two 0 (offset_of m x)) f;
      }

  pub peek-says : (n : PageName) → Says m (Peek n)
  unfolding step peek
  peek-says n =
      call-done m _ [] (done (part_of m n (held_in m n)) [] m) refl (Accepts m (Peek n))
      (λ e. (stays-whole m _ refl refl refl (λ j l. refl) (λ g l. refl), peek-part n))

  extend-done : (r : Found) → (extend_at m r).refusal ≡ 0
  unfolding extend_at
  extend-done (found r) = refl
  extend-done missing = refl

  -- the new block is within the store
  extend-blocks : Good m → (f : FileName) (r : ℕ) → row_of m.rows f ≡ found r → file_full m.rows (found r) ≡ false
      → Blocks m (extend_at m (found r)).after (extended_by m (found r))
  unfolding extend_at extended_by file_full
  extend-blocks k f r e spare g l =
      let below = (row-found m.rows f e).0 in
      let blocks = blocks_at m.rows r in
      let room : blocks < capacity_at m.rows r =
      omega (arith, eqb-false blocks (capacity_at m.rows r) spare, k.sizes.rows.fill r below) in
      put-with (size m) (store_blocks m.rows) (replicate (size m) 0) m.store k.sizes.store (length-replicate (size m) 0)
      (start_of m.rows r + blocks) (start-in m.rows r blocks below room) g

  extend-stays : Good m → (f : FileName) (r : Found) → row_of m.rows f ≡ r → file_full m.rows r ≡ false
      → Words m (extend_at m r) (word_of m) (extended_by m r)
  unfolding extend_at extended_by
  extend-stays k f (found r) e spare = stays-whole m _ refl refl refl (λ j l. refl) (extend-blocks k f r e spare)
  extend-stays k f missing e spare = stays-whole m _ refl refl refl (λ j l. refl) (λ g l. refl)

  pub extend-says : Good m → (f : FileName) → Says m (Extend f)
  unfolding step extend
  extend-says k f =
      let r = row_of m.rows f in
      call-done m (place 3 (no_row r) ∷ place 13 (file_full m.rows r) ∷ []) [] (extend_at m r) (extend-done r) (Accepts m (Extend f))
      (λ e.
      let later = (refusal-passed 3 _ _ (omega arith) e).1 in
      extend-stays k f r refl (refusal-passed 13 _ _ (omega arith) later).0)

  pub inserted-says : (p : ℕ) → Says m (LogInserted p)
  unfolding step log_inserted
  inserted-says p =
      call-done m _ [] (done zeros [] _) refl (Accepts m (LogInserted p)) (λ e. stays-whole m _ refl refl refl (λ j l. refl) (λ g l. refl))

  pub flushed-says : (p : ℕ) → Says m (LogFlushed p)
  unfolding step log_flushed
  flushed-says p =
      call-done m _ [] (done zeros [] _) refl (Accepts m (LogFlushed p)) (λ e. stays-whole m _ refl refl refl (λ j l. refl) (λ g l. refl))
