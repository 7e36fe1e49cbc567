-- The buffers of a file, released one after another: what that leaves, and that the books stay sound.
use Prim.Native.Nat.{ℕ, zero, suc, ◌≤◌, ◌<◌}
use mathlib.Core.Path.{◌≡◌, refl, sym, ap, ap₂, ◌∙◌, subst}
use mathlib.Core.Bool.{true, false, not, ◌&&◌}
use mathlib.Core.Logic.{◌≢◌, ⊎_elim}
use native.Mathlib.Omega.{arith}
use borrow.Author.Tests.{not-true}
use Rattle.laws.specs.First.{found}
use Rattle.laws.specs.Says.{Says}
use Rattle.laws.proofs.Tests.{eq-or-ne, never, true-or-false}
use Rattle.laws.proofs.Says.{says-and, says_any, says-as, says-it}
use Rattle.buftag.specs.declared.name.FileName.{FileName}
use Rattle.buftag.specs.declared.name.PageName.{PageName}
use Rattle.buftag.specs.Name.{same_file}
use Rattle.buftag.proofs.NameLaws.{says-same-file}
use Rattle.bufmodel.specs.Word.{pins, empty, pinned}
use Rattle.bufmodel.specs.Rows.{set_blocks, row_of}
use Rattle.bufmodel.specs.Memory.{Memory, buffers, word_of, name_of, with_rows}
use Rattle.bufmodel.specs.Books.{empty_at}
use Rattle.bufmodel.specs.Moves.{release, of_file, release_if, release_up_to}
use Rattle.bufmodel.specs.Calls.{file_pinned}
use Rattle.bufmodel.proofs.GoodLaws.{Good}
use Rattle.bufmodel.proofs.RowsLaws.{row-found}
use Rattle.bufmodel.proofs.WordLaws.{unpinned-none}
use Rattle.bufmodel.proofs.FilesLaws.{clear-good}
use Rattle.bufmodel.proofs.ReleaseLaws.{release-buffers, release-word, release-name, release-own, release-good}

-- ---- a buffer that holds a page of a file
pub of-says : (m : Memory) (f : FileName) (i : ℕ) → Says (of_file m f i) ((empty_at m i ≡ false) × ((name_of m i).file ≡ f))
unfolding of_file
of-says m f i = says-and (says-as (not-true _) (ap not) (says-it (not (empty_at m i)))) (says-same-file (name_of m i).file f)

-- it goes by the buffer's word and name
pub of-same : (m d : Memory) (f : FileName) (i : ℕ) → word_of d i ≡ word_of m i → name_of d i ≡ name_of m i → of_file d f i ≡ of_file m f i
unfolding of_file empty_at
of-same m d f i w n = ap₂ (λ (x : ℕ) (y : PageName). not (empty x) && same_file y.file f) w n

-- one of the file's buffers is pinned, or none
pub pinned-says : (m : Memory) (f : FileName)
    → Says (file_pinned m f) ((i : ℕ) × (i < buffers m) × ((of_file m f i ≡ true) × (pinned (word_of m i) ≡ true)))
unfolding file_pinned
pinned-says m f = says_any (buffers m) _ _ (λ i l. says-and (says-it _) (says-it _))

-- where the test fails, none is
pub none-pinned : (m : Memory) (f : FileName) → file_pinned m f ≡ false → (i : ℕ) → i < buffers m → of_file m f i ≡ true
    → pinned (word_of m i) ≡ false
none-pinned m f e i l o =
    ⊎_elim (λ t. never ((pinned-says m f).shown (i, l, (o, t))) e) (λ n. n) (true-or-false (pinned (word_of m i)))

-- ---- the memory with the words, names and lists of links of another
abbrev pub onto : Memory → Memory → Memory
onto m d =
    record {
      control =
          record {
            size = m.control.size;
            hand = m.control.hand;
            top = d.control.top;
            inserted = m.control.inserted;
            flushed = m.control.flushed;
            cap = m.control.cap;
          };
      states = d.states;
      names = d.names;
      pool = m.pool;
      free = d.free;
      heads = d.heads;
      chain = d.chain;
      rows = m.rows;
      store = m.store;
      counts = m.counts;
    }

-- a release changes nothing else
onto-release : (m d : Memory) (i : ℕ) → d ≡ onto m d → release d i ≡ onto m (release d i)
unfolding release
onto-release m d i e = subst (λ (x : Memory). release x i ≡ onto m (release x i)) (sym e) refl

-- ---- memory d is m after the file's buffers below k were released
pub record Released (m : Memory) (f : FileName) (k : ℕ) (d : Memory) : Type 0 where
  pub good : Good d
  pub many : buffers d ≡ buffers m
  pub rest : d ≡ onto m d
  -- those buffers are empty, and the others have the words and names that they had
  pub gone : (i : ℕ) → i < k → of_file m f i ≡ true → word_of d i ≡ 0
  pub word : (i : ℕ) → (i < k → of_file m f i ≡ false) → word_of d i ≡ word_of m i
  pub name : (i : ℕ) → (i < k → of_file m f i ≡ false) → name_of d i ≡ name_of m i

module _ (m : Memory) (f : FileName) where
  released-none : Good m → Released m f 0 m
  released-none g =
      record {
        good = g;
        many = refl;
        rest = refl;
        gone = λ i l. absurd (omega arith);
        word = λ i h. refl;
        name = λ i h. refl;
      }

  -- the next buffer, by whether it is of the file; none of those that are is pinned
  module _ (free : file_pinned m f ≡ false) (k : ℕ) (d : Memory) (x : Released m f k d) where
    -- it is as it was
    next-same : of_file d f k ≡ of_file m f k
    next-same = of-same m d f k (x.word k (λ l. absurd (omega arith))) (x.name k (λ l. absurd (omega arith)))

    released-past : of_file m f k ≡ false → Released m f (suc k) d
    released-past e =
        record {
          good = x.good;
          many = x.many;
          rest = x.rest;
          gone = λ i l o.
              ⊎_elim (λ q. never (subst (λ (j : ℕ). of_file m f j ≡ true) q o) e) (λ ne. x.gone i (omega arith) o) (eq-or-ne i k);
          word = λ i h. x.word i (λ l. h (omega arith));
          name = λ i h. x.name i (λ l. h (omega arith));
        }

    released-here : k < buffers m → of_file m f k ≡ true → Released m f (suc k) (release d k)
    released-here l e =
        let b : k < buffers d = omega (arith, x.many) in
        let idle : pins (word_of d k) ≡ 0 =
        ap pins (x.word k (λ z. absurd (omega arith))) ∙ unpinned-none (word_of m k) (none-pinned m f free k l e) in
        record {
          good = release-good d x.good k b ((of-says d f k).holds (next-same ∙ e)).0 idle;
          many = release-buffers d k ∙ x.many;
          rest = onto-release m d k x.rest;
          gone = λ i h o.
              ⊎_elim (λ q. subst (λ (j : ℕ). word_of (release d k) j ≡ 0) (sym q) (release-own d k b))
              (λ ne. release-word d k i ne ∙ x.gone i (omega arith) o)
              (eq-or-ne i k);
          word = λ i h. release-word d k i (other i h) ∙ x.word i (λ z. h (omega arith));
          name = λ i h. release-name d k i (other i h) ∙ x.name i (λ z. h (omega arith));
        }
      where
        other : (i : ℕ) → (i < suc k → of_file m f i ≡ false) → i ≢ k
        other i h q = never e (subst (λ (j : ℕ). of_file m f j ≡ false) q (h (omega arith)))

    released-more : k < buffers m → Released m f (suc k) (release_if (of_file d f k) d k)
    unfolding release_if
    released-more l =
        ⊎_elim
        (λ e. let q : of_file d f k ≡ true = next-same ∙ e in rw q (released-here l e))
        (λ e. let q : of_file d f k ≡ false = next-same ∙ e in rw q (released-past e))
        (true-or-false (of_file m f k))

  released-up-to : file_pinned m f ≡ false → Good m → (k : ℕ) → k ≤ buffers m → Released m f k (release_up_to f k m)
  unfolding release_up_to
  released-up-to free g zero l = released-none g
  released-up-to free g (suc k) l = released-more free k (release_up_to f k m) (released-up-to free g k (omega arith)) l

  -- ---- all of them
  pub released-all : file_pinned m f ≡ false → Good m → Released m f (buffers m) (release_up_to f (buffers m) m)
  released-all free g = released-up-to free g (buffers m) (omega arith)

module _ (m d : Memory) (f : FileName) (x : Released m f (buffers m) d) where
  -- the same, with all that was not changed shared by computation
  released-onto : Released m f (buffers m) (onto m d)
  released-onto = subst (Released m f (buffers m)) x.rest x

  -- a buffer in use afterwards is not of the file
  pub left_other : (i : ℕ) → empty_at d i ≡ false → i < buffers m → of_file m f i ≡ false
  unfolding empty_at empty
  left_other i e l = ⊎_elim (λ t. never (ap empty (x.gone i l t)) e) (λ n. n) (true-or-false (of_file m f i))

  -- so that the file may have no block
  pub cleared-good : {r : ℕ} → row_of m.rows f ≡ found r → Good (with_rows (set_blocks m.rows r 0) (onto m d))
  unfolding empty_at
  cleared-good {r} e =
      let w = row-found m.rows f e in
      clear-good (onto m d) released-onto.good r (λ i l full q.
      let n : i < buffers m → of_file m f i ≡ false = left_other i full in
      never
      ((of-says m f i).shown (ap empty (sym (x.word i n)) ∙ full, ap (λ (y : PageName). y.file) (sym (x.name i n)) ∙ q ∙ w.1))
      (n (omega (arith, x.many))))
