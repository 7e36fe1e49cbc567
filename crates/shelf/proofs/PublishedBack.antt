-- What checkpoint leaves: dirty pages are written back one after another, rising.
use Prim.Native.Nat.{ℕ, zero, suc, max, ◌≤◌, ◌<◌}
use mathlib.Core.Path.{◌≡◌, refl, sym, ap, ◌∙◌, subst}
use mathlib.Core.Bool.{cond}
use mathlib.Core.Logic.{⊎_elim}
use mathlib.Core.List.{List, []}
use native.Mathlib.Omega.{arith}
use lib.ListN.{length, get_or, set, length-set}
use lib.Seq.{get_or-set_same, get_or-set_other}
use Rattle.laws.specs.Sum.{count}
use Rattle.laws.specs.Block.{block}
use Rattle.laws.proofs.Tests.{eq-or-ne}
use Rattle.bufmodel.specs.Word.{dirty, make_clean}
use Rattle.bufmodel.specs.Position.{position}
use Rattle.bufmodel.specs.Memory.{Memory, buffers, size, word_of, page_of, with_states, with_store, with_flushed}
use Rattle.bufmodel.specs.Moves.{write_back, write_up_to}
use Rattle.bufmodel.specs.Outcome.{one, done}
use Rattle.bufmodel.specs.Calls.{checkpoint}
use Rattle.bufmodel.specs.Step.{Checkpoint, step}
use Rattle.bufmodel.proofs.GoodLaws.{Good}
use Rattle.shelf.specs.Published.{cleaned, backed_to, Accepts}
use Rattle.shelf.proofs.PublishedWords.{HeldWords, cleaned-is, dirty-held}
use Rattle.shelf.proofs.PublishedStore.{blocks_in, back_store, backed-same, back_long, back-blocks}
use Rattle.shelf.proofs.PublishedLeaves.{words_left, call-done}
use Rattle.shelf.proofs.PublishedCalls.{Says}

-- memory d is m after the pages of the buffers below k were written back: other words, another store, another log position
record BackTo (m : Memory) (k : ℕ) (d : Memory) : Type 0 where
  flushed : ℕ
  words : List ℕ
  store : List ℕ
  is : d ≡ with_flushed flushed (with_store store (with_states words m))
  many : length words ≡ buffers m
  before : (i : ℕ) → i < k → get_or words i 0 ≡ cleaned (word_of m i)
  later : (i : ℕ) → k ≤ i → get_or words i 0 ≡ word_of m i
  long : length store ≡ length m.store
  blocks : (g : ℕ) → block (size m) g store ≡ backed_to m k g

module _ (m : Memory) (good : Good m) (held : HeldWords m) where
  back_more : (k : ℕ) → k < buffers m → (d : Memory) → BackTo m k d → BackTo m (suc k) (write_back d k)
  unfolding write_back backed_to
  back_more k l d x =
      let w = get_or x.words k 0 in
      let same : w ≡ word_of m k = x.later k (omega arith) in
      let own =
      ap (λ (w : ℕ). cond (dirty w) (make_clean w) w) same ∙ cleaned-is (word_of m k) (dirty-held m held k l) in
      record {
        flushed = cond (dirty w) (max x.flushed (position (page_of m k))) x.flushed;
        words = set x.words k (cond (dirty w) (make_clean w) w);
        store = back_store m k (dirty w) x.store;
        is = ap (λ (o : Memory). write_back o k) x.is;
        many = length-set x.words k _ ∙ x.many;
        before = λ i h.
            ⊎_elim (λ e. rw e (get_or-set_same x.words k _ 0 (omega (arith, x.many)) ∙ own))
            (λ ne. get_or-set_other x.words k i _ 0 ne ∙ x.before i (omega arith))
            (eq-or-ne i k);
        later = λ i h. get_or-set_other x.words k i _ 0 (λ e. omega arith) ∙ x.later i (omega arith);
        long = back_long m k good l x.store (x.long ∙ good.sizes.store) (dirty w) ∙ x.long;
        blocks = λ g.
            ap (λ (v : ℕ). block (size m) g (back_store m k (dirty v) x.store)) same
            ∙ back-blocks m k good l x.store (x.long ∙ good.sizes.store) g
            ∙ backed-same m k (blocks_in (size m) x.store) (backed_to m k) g (x.blocks g);
      }

  back_to : (k : ℕ) → k ≤ buffers m → BackTo m k (write_up_to k m)
  unfolding write_up_to backed_to
  back_to zero l =
      record {
        flushed = m.control.flushed;
        words = m.states;
        store = m.store;
        is = refl;
        many = refl;
        before = λ i h. absurd (omega arith);
        later = λ i h. refl;
        long = refl;
        blocks = λ g. refl;
      }
  back_to (suc k) l = back_more k l (write_up_to k m) (back_to k (omega arith))

  pub checkpoint-says : Says m Checkpoint
  unfolding step checkpoint
  checkpoint-says =
      let x = back_to (buffers m) (omega arith) in
      let answer = one (count (buffers m) (λ i. dirty (word_of m i))) in
      call-done m [] [] (done answer [] (write_up_to (buffers m) m)) refl (Accepts m Checkpoint)
      (λ e.
      subst (λ (d : Memory). Accepts m Checkpoint (done answer [] d)) (sym x.is)
      (words_left m _ refl refl x.many x.before (λ i l. refl) (λ g l. x.blocks g), refl))
