-- What a call leaves: calls that change one word or none, or words and one holder's counts, and how a call is accepted.
use Prim.Native.Nat.{ℕ, ◌<◌}
use native.Mathlib.Omega.{arith}
use mathlib.Core.Path.{◌≡◌, refl, sym, ap, ◌∙◌, subst}
use mathlib.Core.Bool.{Bool, true, false, cond}
use mathlib.Core.List.{List, []}
use lib.ListN.{length, get_or, set, length-set}
use Rattle.laws.specs.Sum.{ind}
use Rattle.laws.specs.Block.{block}
use Rattle.bufmodel.specs.Rows.{store_blocks}
use Rattle.bufmodel.specs.Memory.{Memory, buffers, size, word_of, page_of, with_states, with_counts}
use Rattle.bufmodel.specs.Counts.{set_count}
use Rattle.bufmodel.specs.Outcome.{Outcome, Place, refusal_of, checked, done, outcome}
use Rattle.bufmodel.proofs.GoodLaws.{Good, checked-passed}
use Rattle.bufmodel.proofs.OutcomeLaws.{outcome-done, outcome-number}
use Rattle.bufmodel.proofs.RecountLaws.{recounted}
use Rattle.shelf.specs.Shelf.{with}
use Rattle.shelf.specs.Published.{Marks, marks_of, with_words, Alike, Leaves, Words, Pins, counts_by}
use Rattle.shelf.proofs.PublishedCounts.{counts_in, count_by}
use Rattle.shelf.proofs.PublishedMarks.{set-with}

-- 1 or 0 by a test, as the pool counts and as the statement says it
pub ind-cond : (d : Bool) → ind d ≡ cond d 1 0
ind-cond true = refl
ind-cond false = refl

-- the pages of the pool and the blocks of the store, place by place
abbrev pub Pages : Memory → Memory → (ℕ → List ℕ) → Type 0
Pages m d page = (i : ℕ) → i < buffers m → page_of d i ≡ page i

abbrev pub Blocks : Memory → Memory → (ℕ → List ℕ) → Type 0
Blocks m d store = (g : ℕ) → g < store_blocks m.rows → block (size m) g d.store ≡ store g

-- ---- other words and nothing else of the books
module _ (m : Memory) (o : Outcome) (wide : length o.after.heads ≡ length m.heads)
    (marks : marks_of o.after ≡ with_words (word_of o.after) m.control.hand (marks_of m)) where
  pub words_left : {word : ℕ → ℕ} {page store : ℕ → List ℕ} → buffers o.after ≡ buffers m
      → ((i : ℕ) → i < buffers m → word_of o.after i ≡ word i)
      → Pages m o.after page
      → Blocks m o.after store
      → Leaves m o (with_words word m.control.hand (marks_of m)) page store
  words_left {word} many words pages blocks =
      record {
        many = many;
        wide = wide;
        alike =
            subst (λ (k : Marks). Alike (buffers m) (length m.heads) k (with_words word m.control.hand (marks_of m)))
            (sym marks)
            (record {
              words = words;
              names = λ i l. refl;
              links = λ i l. refl;
              chains = λ i l. refl;
              heads = λ j l. refl;
              counts = λ i h l q. refl;
              hand = refl;
              top = refl;
            });
        pages = pages;
        blocks = blocks;
      }

  -- no word, and no page
  pub stays-whole : {store : ℕ → List ℕ} → o.after.states ≡ m.states → Pages m o.after (page_of m) → Blocks m o.after store
      → Words m o (word_of m) store
  stays-whole e pages blocks = words_left (ap length e) (λ i l. ap (λ (xs : List ℕ). get_or xs i 0) e) pages blocks

  -- one word
  pub stays-set : {b x w : ℕ} {page store : ℕ → List ℕ} → b < buffers m → x ≡ w → o.after.states ≡ set m.states b x
      → Pages m o.after page
      → Blocks m o.after store
      → Leaves m o (with_words (with b w (word_of m)) m.control.hand (marks_of m)) page store
  stays-set {b} {x} l q e pages blocks =
      words_left (ap length e ∙ length-set m.states b x)
      (λ i h. ap (λ (xs : List ℕ). get_or xs i 0) e ∙ set-with m.states b x 0 l i ∙ ap (λ (y : ℕ). with b y (word_of m) i) q)
      pages blocks

-- ---- other words and other counts by holder h, and nothing else
module _ (m : Memory) (answer : List ℕ) (h : ℕ) where
  pub pins-left : {word : ℕ → ℕ} (count : ℕ → ℕ) (words counts : List ℕ) → length words ≡ buffers m
      → ((i : ℕ) → i < buffers m → get_or words i 0 ≡ word i)
      → ((i o : ℕ) → i < buffers m → o < 64 → counts_in counts i o ≡ with h (count i) (counts_in m.counts i) o)
      → Pins m (done answer [] (with_counts counts (with_states words m))) word h count
  pins-left count words counts many same held =
      record {
        many = many;
        wide = refl;
        alike =
            record {
              words = same;
              names = λ i l. refl;
              links = λ i l. refl;
              chains = λ i l. refl;
              heads = λ j l. refl;
              counts = held;
              hand = refl;
              top = refl;
            };
        pages = λ i l. refl;
        blocks = λ g l. refl;
      }

  -- of one buffer
  pub pins-set : Good m → h < 64 → (i c : ℕ) → i < buffers m → {x w : ℕ} → x ≡ w
      → Pins m (done answer [] (recounted m h i x c)) (with i w (word_of m)) h (with i c (counts_by m h))
  pins-set k few i c l {x} e =
      pins-left (with i c (counts_by m h)) (set m.states i x) (set_count m.counts i h c) (length-set m.states i x)
      (λ j q. set-with m.states i x 0 l j ∙ ap (λ (y : ℕ). with i y (word_of m) j) e)
      (λ j o q t. count_by m.counts i h c (omega (arith, k.sizes.counts)) few j o t)

-- ---- an accepted call ends as it does where none of its places refuses
pub call-done : (m : Memory) (own : List Place) (bytes : List ℕ) (o : Outcome) → o.refusal ≡ 0 → (P : Outcome → Type 0)
    → (refusal_of own ≡ 0 → P o) → (outcome (checked m own) bytes m o).refusal ≡ 0 → P (outcome (checked m own) bytes m o)
call-done m own bytes o z P p e =
    let k = sym (outcome-number bytes m o (checked m own) z) ∙ e in
    subst P (sym (outcome-done bytes m o k)) (p (checked-passed m own refl k).1)
