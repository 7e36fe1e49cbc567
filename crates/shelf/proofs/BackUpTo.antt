-- The dirty pages of the first k buffers, written back one after another.
use Prim.Native.Nat.{ℕ, zero, suc, ◌≤◌, ◌<◌}
use mathlib.Core.Path.{◌≡◌, refl, ap, ◌∙◌}
use mathlib.Core.Bool.{Bool, true, false, not, ◌&&◌, ◌||◌, and-not_self}
use mathlib.Core.Logic.{⊎_elim}
use mathlib.Core.List.{List}
use native.Mathlib.Nat.{not-suc-le-zero}
use native.Mathlib.Omega.{arith}
use lib.ListN.{length, get_or, length-set}
use Rattle.laws.specs.First.{found}
use Rattle.laws.specs.Block.{block}
use Rattle.laws.proofs.Tests.{and_right, true-or-false, eq-or-ne, never}
use Rattle.bufmodel.specs.Word.{dirty}
use Rattle.bufmodel.specs.Rows.{store_blocks}
use Rattle.bufmodel.specs.Memory.{Memory, buffers, size}
use Rattle.bufmodel.specs.Moves.{write_back, write_up_to}
use Rattle.bufmodel.proofs.LikeLaws.{like}
use Rattle.bufmodel.proofs.HeldLaws.{dirty-full}
use Rattle.shelf.specs.Ledger.{is_place}
use Rattle.shelf.proofs.Kept.{View, ledger_of, Has, Kept}
use Rattle.shelf.proofs.KeptLaws.{same-position, is_place-self, is_place-other, has-page}
use Rattle.shelf.proofs.HighestLaws.{Bounds}
use Rattle.bufmodel.proofs.CleanLaws.{back-clean}
use Rattle.shelf.proofs.BackKept.{back_of, back-dirty, view_back}
use Rattle.bufmodel.proofs.CleanLaws.{back-clean}
use Rattle.shelf.proofs.BackKept.{back-own, back-word, back-other, place-below, kept-back_of}

-- ---- what writing back changes
-- in the memory: flushed, words and store
abbrev pub back_with : Memory → ℕ → List ℕ → List ℕ → Memory
back_with m flushed words store = like m m.control.hand m.control.inserted flushed words m.pool store

-- in the ledger: what is dirty and what was put
abbrev pub view_with : View → (ℕ → Bool) → (ℕ → Bool) → View
view_with v marks puts =
    record { bytes = v.bytes; counts = v.counts; holds = v.holds; bad = v.bad; dirty = marks; last = v.last; put = puts }

-- what the first k turns of a checkpoint leave
pub record BackUpTo (m : Memory) (v : View) (k : ℕ) : Type 0 where
  pub flushed : ℕ
  pub words : List ℕ
  pub store : List ℕ
  pub marks : ℕ → Bool
  pub puts : ℕ → Bool
  pub is : write_up_to k m ≡ back_with m flushed words store
  pub kept : Kept (back_with m flushed words store) (view_with v marks puts)
  pub many : length words ≡ buffers m
  -- no page of the first k buffers is dirty any more
  pub clean : (j : ℕ) → j < k → dirty (get_or words j 0) ≡ false
  -- a page that is dirty was so before
  pub before : (g : ℕ) → marks g ≡ true → v.dirty g ≡ true
  -- put were those that are dirty no more
  pub put : (g : ℕ) → puts g ≡ (v.dirty g && not (marks g) || v.put g)
  -- blocks of pages that were not dirty are as they were
  pub others : (g : ℕ) → v.dirty g ≡ false → block (size m) g store ≡ block (size m) g m.store
  -- flushed did not fall, and is at most what bounds the dirty pages' positions
  pub above : m.control.flushed ≤ flushed
  pub least : (c : ℕ) → Bounds (ledger_of m v) v.dirty m.control.flushed (store_blocks m.rows) c → flushed ≤ c

module _ (m : Memory) (v : View) (kept : Kept m v) where
  back_none : BackUpTo m v 0
  unfolding write_up_to
  back_none =
      record {
        flushed = m.control.flushed;
        words = m.states;
        store = m.store;
        marks = v.dirty;
        puts = v.put;
        is = refl;
        kept = kept;
        many = refl;
        clean = λ j l. absurd (not-suc-le-zero l);
        before = λ g e. e;
        put = λ g. rw and-not_self;
        others = λ g e. refl;
        above = omega arith;
        least = λ c b. b.first;
      }

  module _ (k : ℕ) (r : BackUpTo m v k) where
    abbrev now : Memory
    now = back_with m r.flushed r.words r.store

    -- what was put, with a page more
    put-more : (g : ℕ) → v.dirty g ≡ true → (h : ℕ)
        → (is_place (found g) h || r.puts h) ≡ (v.dirty h && not (not (is_place (found g) h) && r.marks h) || v.put h)
    put-more g was h =
        ⊎_elim
        (λ e.
        let here : is_place (found g) h ≡ true = ap (is_place (found g)) e ∙ is_place-self g in
        let so : v.dirty h ≡ true = ap v.dirty e ∙ was in
        rw (here, so))
        (λ ne. rw (is_place-other g h ne) (r.put h))
        (eq-or-ne h g)

    -- buffer k's page is not dirty
    back-past : dirty (get_or r.words k 0) ≡ false → BackUpTo m v (suc k)
    unfolding write_up_to
    back-past d =
        record {
          flushed = r.flushed;
          words = r.words;
          store = r.store;
          marks = r.marks;
          puts = r.puts;
          is = ap (λ (o : Memory). write_back o k) r.is ∙ back-clean now k d;
          kept = r.kept;
          many = r.many;
          clean = λ j l. ⊎_elim (λ e. rw e d) (λ ne. r.clean j (omega arith)) (eq-or-ne j k);
          before = r.before;
          put = r.put;
          others = r.others;
          above = r.above;
          least = r.least;
        }

    -- buffer k's page is dirty, and at place g
    back_more : (g : ℕ) → Has now k g → dirty (get_or r.words k 0) ≡ true → BackUpTo m v (suc k)
    unfolding write_up_to
    back_more g x d =
        let w = view_with v r.marks r.puts in
        let b = back_of now k g in
        let s = r.kept.same k g x in
        let was : v.dirty g ≡ true = r.before g (s.marked ∙ d) in
        record {
          flushed = b.control.flushed;
          words = b.states;
          store = b.store;
          marks = (view_back w g).dirty;
          puts = (view_back w g).put;
          is = ap (λ (o : Memory). write_back o k) r.is ∙ back-dirty now k g x.place d;
          kept = kept-back_of now w r.kept k g x d;
          many = rw length-set r.many;
          clean = λ j l.
              ⊎_elim (λ e. rw e (back-own now w r.kept k g x))
              (λ ne. ap dirty (back-word now w r.kept k g x j ne) ∙ r.clean j (omega arith)) (eq-or-ne j k);
          before = λ h e. r.before h (and_right (not (is_place (found g) h)) _ e);
          put = put-more g was;
          others = λ h e. back-other now w r.kept k g x h (λ z. never was (rw z at e)) ∙ r.others h e;
          above = omega (arith, r.above);
          least = λ c b. omega (arith, r.least c b, b.each g (place-below now w r.kept k g x) was, same-position s);
        }

  -- they leave that, whatever k is
  pub back-up-to : (k : ℕ) → k ≤ buffers m → BackUpTo m v k
  back-up-to zero h = back_none
  back-up-to (suc k) h =
      let r = back-up-to k (omega arith) in
      ⊎_elim
      (λ d.
      let p = has-page (now k r) r.kept.good k (omega (arith, r.many)) (dirty-full (now k r) k d) in
      back_more k r p.0 p.1 d)
      (λ d. back-past k r d)
      (true-or-false (dirty (get_or r.words k 0)))
