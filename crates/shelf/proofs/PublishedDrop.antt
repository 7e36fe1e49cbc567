-- What drop leaves: the file's buffers are emptied and put on top of the free list one after another, rising.
use Prim.Native.Nat.{ℕ, zero, suc, ◌≤◌, ◌<◌}
use mathlib.Core.Path.{◌≡◌, refl, ap, ap₂, ◌∙◌}
use mathlib.Core.Bool.{true, false, not, ◌&&◌}
use mathlib.Core.Logic.{⊎_elim}
use mathlib.Core.List.{[], ◌∷◌}
use native.Mathlib.Omega.{arith}
use lib.Dec.{eqb}
use lib.ListN.{length}
use Rattle.laws.specs.First.{Found, found, missing}
use Rattle.laws.specs.Block.{block}
use Rattle.laws.proofs.Tests.{never, true-or-false}
use Rattle.buftag.specs.declared.name.FileName.{FileName}
use Rattle.buftag.specs.declared.name.PageName.{PageName}
use Rattle.buftag.specs.Name.{same_file}
use Rattle.bufmodel.specs.Word.{empty}
use Rattle.bufmodel.specs.Rows.{row_of}
use Rattle.bufmodel.specs.Memory.{Memory, buffers, size, word_of, name_of, page_of}
use Rattle.bufmodel.specs.Books.{empty_at}
use Rattle.bufmodel.specs.Moves.{release, of_file, release_if, release_up_to}
use Rattle.bufmodel.specs.Outcome.{place}
use Rattle.bufmodel.specs.Pin.{no_row}
use Rattle.bufmodel.specs.Calls.{file_pinned, drop_at, drop_file}
use Rattle.bufmodel.specs.Step.{Drop, step}
use Rattle.bufmodel.proofs.GoodLaws.{Good}
use Rattle.bufmodel.proofs.OutcomeLaws.{refusal-passed}
use Rattle.bufmodel.proofs.ReleaseLaws.{release-word, release-name}
use Rattle.shelf.specs.Published.{marks_of, Alike, filed, dropped_to, Accepts}
use Rattle.shelf.proofs.PublishedMarks.{alike_same, alike_then, emptied-alike, Shape, good-shape, release-shape, release-marks}
use Rattle.shelf.proofs.PublishedLeaves.{call-done}
use Rattle.shelf.proofs.PublishedCalls.{Says}

-- the pool's test of a file's buffer goes by word and name
filed-is : (m d : Memory) (f : FileName) (i : ℕ) → word_of d i ≡ word_of m i → name_of d i ≡ name_of m i → of_file d f i ≡ filed m f i
unfolding of_file empty_at empty filed
filed-is m d f i w n = ap₂ (λ (x : ℕ) (y : PageName). not (eqb x 0) && same_file y.file f) w n

module _ (m : Memory) (f : FileName) where
  -- memory d is m after the file's buffers below k were released
  record DroppedTo (k : ℕ) (d : Memory) : Type 0 where
    shape : Shape (buffers m) (length m.heads) d
    alike : Alike (buffers m) (length m.heads) (marks_of d) (dropped_to m f k)
    page : (i : ℕ) → page_of d i ≡ page_of m i
    store : d.store ≡ m.store
    -- the other buffers
    words : (i : ℕ) → k ≤ i → word_of d i ≡ word_of m i
    names : (i : ℕ) → k ≤ i → name_of d i ≡ name_of m i

  module _ (k : ℕ) (d : Memory) (x : DroppedTo k d) where
    -- a buffer of another file
    dropped-past : filed m f k ≡ false → DroppedTo (suc k) d
    unfolding dropped_to
    dropped-past e =
        record {
          shape = x.shape;
          alike = rw e x.alike;
          page = x.page;
          store = x.store;
          words = λ i l. x.words i (omega arith);
          names = λ i l. x.names i (omega arith);
        }

    -- one of the file
    dropped-alike : k < buffers m → filed m f k ≡ true
        → Alike (buffers m) (length m.heads) (marks_of (release d k)) (dropped_to m f (suc k))
    unfolding dropped_to
    dropped-alike b e = rw e (alike_then (release-marks d x.shape k b) (emptied-alike k b x.alike))

    dropped-here : k < buffers m → filed m f k ≡ true → DroppedTo (suc k) (release d k)
    unfolding release
    dropped-here b e =
        record {
          shape = release-shape d x.shape k b;
          alike = dropped-alike b e;
          page = x.page;
          store = x.store;
          words = λ i l. release-word d k i (λ q. omega arith) ∙ x.words i (omega arith);
          names = λ i l. release-name d k i (λ q. omega arith) ∙ x.names i (omega arith);
        }

    dropped-more : k < buffers m → DroppedTo (suc k) (release_if (of_file d f k) d k)
    unfolding release_if
    dropped-more l =
        let same = filed-is m d f k (x.words k (omega arith)) (x.names k (omega arith)) in
        ⊎_elim
        (λ e. let q : of_file d f k ≡ true = same ∙ e in rw q (dropped-here l e))
        (λ e. let q : of_file d f k ≡ false = same ∙ e in rw q (dropped-past e))
        (true-or-false (filed m f k))

  module _ (good : Good m) where
    dropped-to : (k : ℕ) → k ≤ buffers m → DroppedTo k (release_up_to f k m)
    unfolding release_up_to dropped_to
    dropped-to zero l =
        record {
          shape = good-shape m good;
          alike = alike_same;
          page = λ i. refl;
          store = refl;
          words = λ i h. refl;
          names = λ i h. refl;
        }
    dropped-to (suc k) l = dropped-more k (release_up_to f k m) (dropped-to k (omega arith)) l

    drop-done : (r : Found) → (drop_at m f r).refusal ≡ 0
    unfolding drop_at
    drop-done (found r) = refl
    drop-done missing = refl

    drop-leaves : (r : Found) → no_row r ≡ false → Accepts m (Drop f) (drop_at m f r)
    unfolding drop_at no_row
    drop-leaves (found r) e =
        let x = dropped-to (buffers m) (omega arith) in
        record {
          many = x.shape.many;
          wide = x.shape.wide;
          alike = x.alike;
          pages = λ i l. x.page i;
          blocks = λ g l. ap (block (size m) g) x.store;
        }
    drop-leaves missing e = never refl e

    pub drop-says : Says m (Drop f)
    unfolding step drop_file
    drop-says =
        let r = row_of m.rows f in
        call-done m (place 3 (no_row r) ∷ place 14 (file_pinned m f) ∷ []) [] (drop_at m f r) (drop-done r) (Accepts m (Drop f))
        (λ e. drop-leaves r (refusal-passed 3 _ _ (omega arith) e).0)
