-- The calls on a file: what their places answer, and the release of a file's buffers, one after another.
use Prim.Native.Nat.{ℕ, zero, suc, ◌+◌, ◌≤◌, ◌<◌}
use native.Mathlib.Numerals.{add-one}
use native.Mathlib.Omega.{arith}
use mathlib.Core.Path.{◌≡◌, refl, sym, ap, ◌∙◌, subst}
use mathlib.Core.Logic.{◌≢◌, ⊎_elim}
use mathlib.Core.Bool.{Bool, true, false}
use mathlib.Core.List.{List, [], ◌∷◌}
use lib.IntN.{ℤ}
use lib.ListN.{length, replicate}
use borrow.Author.Tests.{eq-eqb, ne_eqb}
use Rattle.laws.specs.First.{Found, found, missing}
use Rattle.laws.specs.Block.{put_block}
use Rattle.laws.proofs.Tests.{eq-or-ne, true-or-false}
use Rattle.buftag.specs.declared.name.FileName.{FileName}
use Rattle.buftag.proofs.UnchainLaws.{length-unchain-heads}
use Rattle.bufmodel.specs.declared.control.Control.{Control}
use Rattle.std.specs.Prelude.{Result, Ok, Err}
use Rattle.bufmodel.specs.declared.refusal.Refusal.{Refusal}
use Rattle.bufmodel.specs.declared.refusal.Refusal.TheVariants.{NoFile, FileFull, FilePinned}
use Rattle.bufmodel.specs.Refusal.{refusal_number}
use Rattle.buftag.specs.declared.number.BlockNumber.{BlockNumber}
use Rattle.bufmodel.specs.Word.{pins}
use Rattle.bufmodel.specs.Memory.{Memory, memory, buffers, size, word_of, with_rows, with_counts}
use Rattle.bufmodel.specs.Books.{empty_at}
use Rattle.bufmodel.specs.Rows.{blocks_at, capacity_at, set_blocks, row_of, start_of, store_blocks}
use Rattle.bufmodel.specs.Outcome.{Outcome, Place, place, checked, refused, outcome}
use Rattle.bufmodel.specs.Moves.{release, of_file, release_if, release_up_to}
use Rattle.bufmodel.specs.Pin.{no_row}
use Rattle.bufmodel.specs.Calls.{file_full, extend_at, extend, file_pinned, drop_at, drop_file}
use Rattle.bufmodel.specs.Answer.{extend_words, extended_at}
use Rattle.bufmodel.proofs.OutcomeLaws.{refusal-past, refusal-at, refusal-none}
use Rattle.bufmodel.proofs.GoodLaws.{Good}
use Rattle.bufmodel.proofs.AnswerLaws.{Ends, AcceptedEnds, refused-first, refused-own, end-done, refused-all, done-all, accepted-refused, accepted-done}
use Rattle.bufmodel.proofs.RowsLaws.{row-found, start-in}
use Rattle.bufmodel.proofs.WordLaws.{unpinned-none}
use Rattle.bufmodel.proofs.ReleaseLaws.{release-buffers, release-own, release-word, release-name, release-good}
use Rattle.bufmodel.proofs.DropLaws.{of-says, of-same, none-pinned}
use Rattle.bufmoves.specs.Exchange.{Chained}
use Rattle.bufcalls.specs.File.{held_of, pinned_of}
use Rattle.bufmoves.proofs.WholeLaws.{good-chained}

-- ---- a call with the place 3 for a row, and one more
module _ (m : Memory) (g : Good m) (r : Found) (why : Refusal) (t : Bool) (o : Outcome) where
  abbrev places : List Place
  places = place 3 (no_row r) ∷ place (refusal_number why) t ∷ []

  call-missing : r ≡ missing → outcome (checked m places) [] m o ≡ refused 3 [] m
  unfolding no_row
  call-missing e = refused-own m places [] o NoFile g (refusal-at 3 (place (refusal_number why) t ∷ []) (ap no_row e))

  call-refused : {s : ℕ} → r ≡ found s → t ≡ true → outcome (checked m places) [] m o ≡ refused (refusal_number why) [] m
  unfolding no_row
  call-refused e f =
      refused-own m places [] o why g (refusal-past 3 (place (refusal_number why) t ∷ []) (ap no_row e) ∙ refusal-at (refusal_number why) [] f)

  call-done : {s : ℕ} → r ≡ found s → t ≡ false → outcome (checked m places) [] m o ≡ o
  unfolding no_row
  call-done e f = end-done m places [] o g (refusal-past 3 (place (refusal_number why) t ∷ []) (ap no_row e) ∙ refusal-past (refusal_number why) [] f ∙ refusal-none)

-- ---- extend
abbrev pub ExtendedEnds : Result BlockNumber Refusal → Memory → Outcome → Type 0
ExtendedEnds = Ends extend_words extended_at

module _ (m : Memory) (f : FileName) where
  pub extend-early : (r : Refusal) → refusal_number r ≡ checked m [] → ExtendedEnds (Err r) m (extend m f)
  unfolding extend
  extend-early r e = refused-all extend_words extended_at r (refused-first m _ [] _ r e)

  module _ (g : Good m) where
    pub extend-missing : row_of m.rows f ≡ missing → ExtendedEnds (Err NoFile) m (extend m f)
    unfolding extend
    extend-missing e = refused-all extend_words extended_at NoFile (call-missing m g (row_of m.rows f) FileFull _ _ e)

    module _ {r : ℕ} (e : row_of m.rows f ≡ found r) where
      pub extend-full : blocks_at m.rows r ≡ capacity_at m.rows r → ExtendedEnds (Err FileFull) m (extend m f)
      unfolding extend file_full
      extend-full q =
          refused-all extend_words extended_at FileFull (call-refused m g (row_of m.rows f) FileFull _ _ e (rw e (eq-eqb _ _ q)))

      extend-done : blocks_at m.rows r ≢ capacity_at m.rows r → extend m f ≡ extend_at m (found r)
      unfolding extend file_full
      extend-done q =
          call-done m g (row_of m.rows f) FileFull _ _ e (rw e (ne_eqb _ _ q)) ∙ ap (extend_at m) e

      -- the next block is within the capacity, so within the store
      pub next-less : blocks_at m.rows r ≢ capacity_at m.rows r → blocks_at m.rows r < capacity_at m.rows r
      next-less q = omega (arith, g.sizes.rows.fill r (row-found m.rows f e).0)

      pub next-in : blocks_at m.rows r ≢ capacity_at m.rows r
          → start_of m.rows r + blocks_at m.rows r < store_blocks m.rows
      next-in q = start-in m.rows r (blocks_at m.rows r) (row-found m.rows f e).0 (next-less q)

      pub extended-more : blocks_at m.rows r ≢ capacity_at m.rows r → {b : ℕ} {rows store : List ℕ} → b ≡ blocks_at m.rows r
          → rows ≡ set_blocks m.rows r (b + 1)
          → store ≡ put_block (size m) (start_of m.rows r + b) (replicate (size m) 0) m.store
          → ExtendedEnds (Ok (record { 0 = b }))
          (with_counts m.counts (memory m.control m.states m.names m.pool m.free m.heads m.chain rows store)) (extend m f)
      unfolding extend_at
      extended-more q b x y = rw (x, y, b, add-one) (done-all extend_words extended_at (extend-done q) refl refl)

-- ---- drop
module _ (m : Memory) (f : FileName) where
  pub drop-early : (r : Refusal) → refusal_number r ≡ checked m [] → AcceptedEnds (Err r) m (drop_file m f)
  unfolding drop_file
  drop-early r e = accepted-refused r (refused-first m _ [] _ r e)

  module _ (g : Good m) where
    pub drop-missing : row_of m.rows f ≡ missing → AcceptedEnds (Err NoFile) m (drop_file m f)
    unfolding drop_file
    drop-missing e = accepted-refused NoFile (call-missing m g (row_of m.rows f) FilePinned _ _ e)

    module _ {r : ℕ} (e : row_of m.rows f ≡ found r) where
      pub drop-pinned : pinned_of m.states m.names f ≡ true → AcceptedEnds (Err FilePinned) m (drop_file m f)
      unfolding drop_file file_pinned pinned_of of_file held_of empty_at
      drop-pinned q = accepted-refused FilePinned (call-refused m g (row_of m.rows f) FilePinned _ _ e q)

      drop-done : pinned_of m.states m.names f ≡ false → drop_file m f ≡ drop_at m f (found r)
      unfolding drop_file file_pinned pinned_of of_file held_of empty_at
      drop-done q = call-done m g (row_of m.rows f) FilePinned _ _ e q ∙ ap (drop_at m f) e

      pub dropped : pinned_of m.states m.names f ≡ false → {d : Memory} {rows : List ℕ} → d ≡ release_up_to f (buffers m) m
          → rows ≡ set_blocks m.rows r 0
          → AcceptedEnds (Ok (tt {0})) (with_rows rows d) (drop_file m f)
      unfolding drop_at
      dropped q x y = rw (x, y) (accepted-done (drop-done q))

-- ---- the release of a file's buffers
-- a memory with parts that are equal to those of another
pub memory-same : (d : Memory) {c : Control} {s n : List ℕ} {f h l : List ℤ} → c ≡ d.control → s ≡ d.states → n ≡ d.names
    → f ≡ d.free → h ≡ d.heads → l ≡ d.chain → with_counts d.counts (memory c s n d.pool f h l d.rows d.store) ≡ d
memory-same d a b c e f g = rw (a, b, c, e, f, g)

-- whether a buffer is of the file, by the words and names alone
pub of-file : (m : Memory) (f : FileName) (i : ℕ) → held_of m.states m.names f i ≡ of_file m f i
unfolding held_of of_file empty_at
of-file m f i = refl

-- what release asks of such a buffer
pub file-chained : (m : Memory) (f : FileName) (i : ℕ) → Good m → i < buffers m → held_of m.states m.names f i ≡ true
    → Chained (memory m.control m.states m.names [] m.free m.heads m.chain [] []) i
file-chained m f i g l e = good-chained m g i l ((of-says m f i).holds (sym (of-file m f i) ∙ e)).0

zero-pins : pins 0 ≡ 0
unfolding pins
zero-pins = refl

-- a memory on the way: the books are sound, the lengths are those of before, and none of the file's buffers is pinned
pub record Way (m : Memory) (f : FileName) (d : Memory) : Type 0 where
  pub good : Good d
  pub many : buffers d ≡ buffers m
  pub heads : length d.heads ≡ length m.heads
  pub idle : (i : ℕ) → i < buffers m → of_file d f i ≡ true → pins (word_of d i) ≡ 0

module _ (m : Memory) (f : FileName) (d : Memory) (i : ℕ) (w : Way m f d) (l : i < buffers m) (full : of_file d f i ≡ true) where
  here : i < buffers d
  here = omega (arith, w.many)

  idle-release : (j : ℕ) → j < buffers m → of_file (release d i) f j ≡ true → pins (word_of (release d i) j) ≡ 0
  idle-release j k o =
      ⊎_elim
      (λ e. subst (λ (n : ℕ). pins (word_of (release d i) n) ≡ 0) (sym e) (ap pins (release-own d i here) ∙ zero-pins))
      (λ ne.
      let word = release-word d i j ne in
      ap pins word ∙ w.idle j k (sym (of-same d (release d i) f j word (release-name d i j ne)) ∙ o))
      (eq-or-ne j i)

  release-heads : length (release d i).heads ≡ length m.heads
  unfolding release
  release-heads = length-unchain-heads d.chain i d.heads ∙ w.heads

  way-release : Way m f (release d i)
  way-release =
      record {
        good = release-good d w.good i here ((of-says d f i).holds full).0 (w.idle i l full);
        many = release-buffers d i ∙ w.many;
        heads = release-heads;
        idle = idle-release;
      }

module _ (m : Memory) (f : FileName) where
  pub released-none : m ≡ release_up_to f 0 m
  unfolding release_up_to
  released-none = refl

  pub released-hit : (i : ℕ) (d : Memory) → d ≡ release_up_to f i m → held_of d.states d.names f i ≡ true
      → release d i ≡ release_up_to f (i + 1) m
  unfolding release_up_to release_if
  released-hit i d e h =
      let q : of_file (release_up_to f i m) f i ≡ true = subst (λ (x : Memory). of_file x f i ≡ true) e (sym (of-file d f i) ∙ h) in
      rw (add-one, q) (ap (λ (x : Memory). release x i) e)

  pub released-miss : (i : ℕ) (d : Memory) → d ≡ release_up_to f i m → held_of d.states d.names f i ≡ false
      → d ≡ release_up_to f (i + 1) m
  unfolding release_up_to release_if
  released-miss i d e h =
      let q : of_file (release_up_to f i m) f i ≡ false = subst (λ (x : Memory). of_file x f i ≡ false) e (sym (of-file d f i) ∙ h) in
      rw (add-one, q) e

  way_next : (k : ℕ) (d : Memory) → Way m f d → k < buffers m → Way m f (release_if (of_file d f k) d k)
  unfolding release_if
  way_next k d w l =
      ⊎_elim
      (λ t. rw t (way-release m f d k w l t))
      (λ n. rw n w)
      (true-or-false (of_file d f k))

  -- where none was at first
  module _ (g : Good m) (free : pinned_of m.states m.names f ≡ false) where
    way-first : (i : ℕ) → i < buffers m → of_file m f i ≡ true → pins (word_of m i) ≡ 0
    unfolding file_pinned pinned_of of_file held_of empty_at
    way-first i l o = unpinned-none (word_of m i) (none-pinned m f free i l o)

    pub way-up-to : (k : ℕ) → k ≤ buffers m → Way m f (release_up_to f k m)
    unfolding release_up_to
    way-up-to zero l = record { good = g; many = refl; heads = refl; idle = way-first }
    way-up-to (suc k) l = way_next k (release_up_to f k m) (way-up-to k (omega arith)) l
