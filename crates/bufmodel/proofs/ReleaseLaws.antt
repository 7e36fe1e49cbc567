-- Release: a buffer in use is emptied and put on top of the free list. What it does, and that the books stay sound.
use Prim.Native.Nat.{ℕ, ◌<◌}
use mathlib.Core.Path.{◌≡◌, refl, sym, ap, ◌∙◌}
use mathlib.Core.Bool.{true, false}
use mathlib.Core.Logic.{◌≢◌, ⊎_elim}
use native.Mathlib.Omega.{arith}
use lib.IntN.{pos}
use lib.ListN.{length, set, length-set}
use lib.Seq.{get_or-set_same, get_or-set_other}
use Rattle.laws.proofs.Tests.{eq-or-ne, never}
use Rattle.buftag.specs.declared.link.Link.TheVariants.{To}
use Rattle.buftag.specs.Names.{no_name}
use Rattle.buftag.specs.Link.{link_of, Holds}
use Rattle.buftag.proofs.NamesLaws.{length-set_name, name-put, name-kept, name_in}
use Rattle.buftag.proofs.UnchainLaws.{length-unchain, length-unchain-heads}
use Rattle.buftag.proofs.MoveLaws.{left, distinct-left}
use Rattle.bufmodel.specs.Word.{pins, empty, dirty, sound_word}
use Rattle.bufmodel.specs.Memory.{Memory, buffers, size, cap_of, word_of, name_of}
use Rattle.bufmodel.specs.Sizes.{SizedFor}
use Rattle.bufmodel.specs.Books.{empty_at, BooksSound}
use Rattle.bufmodel.specs.Moves.{release}
use Rattle.bufmodel.proofs.WordLaws.{zero-sound, zero-clean, zero-pins}
use Rattle.bufmodel.proofs.GoodLaws.{Good}
use Rattle.bufmodel.proofs.FreeListLaws.{holds-push}
use Rattle.bufmodel.proofs.HeldLaws.{full-used, empty-same}

-- ---- what it does
module _ (m : Memory) (i : ℕ) where
  pub release-buffers : buffers (release m i) ≡ buffers m
  unfolding release
  release-buffers = length-set m.states i 0

  -- the other buffers keep their words and names; their pages stay by computation
  pub release-word : (j : ℕ) → j ≢ i → word_of (release m i) j ≡ word_of m j
  unfolding release
  release-word j ne = get_or-set_other m.states i j 0 0 ne

  pub release-name : (j : ℕ) → j ≢ i → name_of (release m i) j ≡ name_of m j
  unfolding release
  release-name j ne = name-kept m.names i no_name j ne

  pub release-kept : (j : ℕ) → j ≢ i → empty_at (release m i) j ≡ empty_at m j
  release-kept j ne = empty-same (release m i) m j j (release-word j ne)

  pub release-top : link_of (release m i).control.top ≡ To i
  unfolding release
  release-top = refl

  -- it is empty afterwards, with a name of zeros
  pub release-own : i < buffers m → word_of (release m i) i ≡ 0
  unfolding release
  release-own l = get_or-set_same m.states i 0 0 l

  pub release-empty : i < buffers m → empty_at (release m i) i ≡ true
  unfolding empty_at empty
  release-empty l = ap empty (release-own l)

  pub release-own-name : Good m → i < buffers m → name_of (release m i) i ≡ no_name
  unfolding release
  release-own-name k l = name-put m.names i no_name (name_in (buffers m) i m.names k.sizes.names l)

-- ---- the sizes and the books afterwards
module _ (m : Memory) (k : Good m) (i : ℕ) (l : i < buffers m) where
  release-sizes : SizedFor (size (release m i)) (release m i)
  unfolding release
  release-sizes =
      let s = k.sizes in
      let n : length (set m.states i 0) ≡ buffers m = length-set m.states i 0 in
      let h = length-unchain-heads m.chain i m.heads in
      record {
        permitted = s.permitted;
        least = rw n s.least;
        most = rw n s.most;
        wide = rw (n, h) s.wide;
        heads = rw h s.heads;
        names = rw n (length-set_name m.names i no_name ∙ s.names);
        pool = rw n s.pool;
        free = rw n (length-set m.free i m.control.top ∙ s.free);
        chain = rw n (length-unchain m.chain i ∙ s.chain);
        rows = s.rows;
        store = s.store;
        counts = rw n s.counts;
      }

  -- only other buffers are in use, or dirty
  release-full : (j : ℕ) → empty_at (release m i) j ≡ false → j ≢ i
  release-full j f e = never (release-empty m i l) (rw e at f)

  release-dirty : (j : ℕ) → dirty (word_of (release m i) j) ≡ true → j ≢ i
  release-dirty j d e = never (rw e at d) (ap dirty (release-own m i l) ∙ zero-clean)

  -- an unpinned buffer has no holders
  module _ (full : empty_at m i ≡ false) (idle : pins (word_of m i) ≡ 0) where
    release-free : Holds (release m i).free (link_of (release m i).control.top) (empty_at (release m i))
    unfolding release
    release-free =
        holds-push i m.control.top (omega (arith, k.sizes.free)) k.books.free full (release-empty m i l) (release-kept m i)

    release-books : BooksSound (release m i)
    unfolding release
    release-books =
        let b = k.books in
        let n = release-buffers m i in
        record {
          cap = b.cap;
          hand = rw n b.hand;
          log = b.log;
          words = λ j h.
              ⊎_elim (λ e. rw e (ap (sound_word (cap_of m)) (release-own m i l) ∙ zero-sound (cap_of m)))
              (λ ne. rw (release-word m i j ne) (b.words j (rw n at h)))
              (eq-or-ne j i);
          blank = λ j h e.
              ⊎_elim (λ q. rw q (release-own-name m i k l))
              (λ ne. release-name m i j ne ∙ b.blank j (rw n at h) (sym (release-kept m i j ne) ∙ e))
              (eq-or-ne j i);
          free = release-free;
          off = λ j h f.
              let ne = release-full j f in
              ap link_of (get_or-set_other m.free i j m.control.top (pos 0) ne)
              ∙ b.off j (rw n at h) (sym (release-kept m i j ne) ∙ f);
          distinct = distinct-left m.states m.names i l b.distinct;
          page = λ j h f.
              let ne = release-full j f in
              rw (release-name m i j ne) (b.page j (rw n at h) (sym (release-kept m i j ne) ∙ f));
          chains = left m.states m.names m.heads m.chain i k.sizes.chain k.sizes.names l
              (omega (arith, k.sizes.least, k.sizes.wide)) (full-used m i full) b.chains;
          low = λ j h d.
              let ne = release-dirty j d in
              b.low j (rw n at h) (rw (release-word m i j ne) at d);
          counts = λ j h.
              ⊎_elim (λ e. rw e (ap pins (release-own m i l) ∙ zero-pins ∙ sym idle ∙ b.counts i l))
              (λ ne. ap pins (release-word m i j ne) ∙ b.counts j (rw n at h))
              (eq-or-ne j i);
        }

pub release-good : (m : Memory) → Good m → (i : ℕ) → i < buffers m → empty_at m i ≡ false → pins (word_of m i) ≡ 0 → Good (release m i)
release-good m k i l full idle = record { sizes = release-sizes m k i l; books = release-books m k i l full idle }
