-- One law for all calls that leave names, lists of links and rows alone: such a change keeps the memory good.
use Prim.Native.Nat.{ℕ, ◌≤◌, ◌<◌}
use mathlib.Core.Path.{◌≡◌, refl, sym, ap, ◌∙◌}
use mathlib.Core.Bool.{Bool, true, not, ◌&&◌}
use mathlib.Core.Logic.{⊎_elim}
use mathlib.Core.List.{List}
use native.Mathlib.Omega.{arith}
use lib.ListN.{length, get_or}
use lib.IntN.{ℤ}
use lib.Dec.{eqb}
use Rattle.laws.specs.Block.{block}
use Rattle.laws.proofs.Tests.{lt-or-le}
use Rattle.buftag.specs.Lookup.{used}
use Rattle.buftag.specs.Chain.{in_bucket_by, ChainsBy, Distinct}
use Rattle.buftag.proofs.LinkLaws.{holds-like}
use Rattle.buftag.proofs.HoldsLaws.{used-out}
use Rattle.bufmodel.specs.Word.{pins, empty, dirty, sound_word}
use Rattle.bufmodel.specs.Position.{position}
use Rattle.bufmodel.specs.Memory.{Memory, buffers, size, cap_of, word_of}
use Rattle.bufmodel.specs.Counts.{holders_of}
use Rattle.bufmodel.specs.Sizes.{SizedFor}
use Rattle.bufmodel.specs.Books.{empty_at, BooksSound}
use Rattle.bufmodel.proofs.GoodLaws.{Good}

-- the memory with another hand, other log positions, words, pool, store and counts
abbrev pub counted : Memory → ℕ → ℕ → ℕ → List ℕ → List ℕ → List ℕ → List ℕ → Memory
counted m hand inserted flushed words pool store counts =
    record {
      control =
          let c = m.control in
          record { size = c.size; hand = hand; top = c.top; inserted = inserted; flushed = flushed; cap = c.cap };
      states = words;
      names = m.names;
      pool = pool;
      free = m.free;
      heads = m.heads;
      chain = m.chain;
      rows = m.rows;
      store = store;
      counts = counts;
    }

-- with the same counts
abbrev pub like : Memory → ℕ → ℕ → ℕ → List ℕ → List ℕ → List ℕ → Memory
like m hand inserted flushed words pool store = counted m hand inserted flushed words pool store m.counts

-- ---- words with the same buffers in use
module _ (words news : List ℕ) (many : length news ≡ length words) where
  -- beyond the buffers none is in use
  used-like : ((i : ℕ) → i < length words → empty (get_or news i 0) ≡ empty (get_or words i 0)) → (i : ℕ) → used news i ≡ used words i
  unfolding empty
  used-like same i =
      ⊎_elim (λ l. ap not (same i l)) (λ l. used-out news i (omega arith) ∙ sym (used-out words i l)) (lt-or-le i (length words))

module _ (words news : List ℕ) (same : (i : ℕ) → used news i ≡ used words i) where
  distinct-like : (names : List ℕ) → Distinct words names → Distinct news names
  distinct-like names d i j u v e = d i j (sym (same i) ∙ u) (sym (same j) ∙ v) e

  chains-like : {home : ℕ → ℕ} {heads chain : List ℤ} → ChainsBy words home heads chain → ChainsBy news home heads chain
  chains-like {home} s =
      record {
        each = λ b l.
            holds-like (in_bucket_by words home b) (in_bucket_by news home b)
            (λ i h. ap (λ (t : Bool). t && eqb (home i) b) (sym (same i))) (s.each b l);
        idle = λ i l u. s.idle i l (sym (same i) ∙ u);
      }

-- ---- the change
module _ (m : Memory) (k : Good m) (hand inserted flushed : ℕ) (words pool store counts : List ℕ) where
  -- as many words, pool and store bytes and counts as before
  like-sized : length words ≡ buffers m → length pool ≡ length m.pool → length store ≡ length m.store
      → length counts ≡ length m.counts → SizedFor (size m) (counted m hand inserted flushed words pool store counts)
  like-sized e f g c =
      let s = k.sizes in
      record {
        permitted = s.permitted;
        least = rw e s.least;
        most = rw e s.most;
        wide = rw e s.wide;
        heads = s.heads;
        names = rw e s.names;
        pool = f ∙ rw e s.pool;
        free = rw e s.free;
        chain = rw e s.chain;
        rows = s.rows;
        store = g ∙ s.store;
        counts = c ∙ rw e s.counts;
      }

  -- the same buffers empty, sound words, no dirty page above the inserted position, and words that count the holders
  like-books : hand < buffers m → flushed ≤ inserted → length words ≡ buffers m
      → ((i : ℕ) → i < buffers m → empty (get_or words i 0) ≡ empty_at m i)
      → ((i : ℕ) → i < buffers m → sound_word (cap_of m) (get_or words i 0) ≡ true)
      → ((i : ℕ) → i < buffers m → dirty (get_or words i 0) ≡ true → position (block (size m) i pool) ≤ inserted)
      → ((i : ℕ) → i < buffers m → pins (get_or words i 0) ≡ holders_of counts i)
      → BooksSound (counted m hand inserted flushed words pool store counts)
  unfolding empty_at
  like-books h l e same sounds lows holders =
      let b = k.books in
      let u = used-like m.states words e same in
      record {
        cap = b.cap;
        hand = rw e h;
        log = l;
        words = λ i n. sounds i (rw e at n);
        blank = λ i n z. b.blank i (rw e at n) (sym (same i (rw e at n)) ∙ z);
        free = holds-like (λ i. empty (get_or m.states i 0)) (λ i. empty (get_or words i 0))
            (λ i n. sym (same i (rw k.sizes.free at n))) b.free;
        off = λ i n z. b.off i (rw e at n) (sym (same i (rw e at n)) ∙ z);
        distinct = distinct-like m.states words u m.names b.distinct;
        page = λ i n z. b.page i (rw e at n) (sym (same i (rw e at n)) ∙ z);
        chains = chains-like m.states words u b.chains;
        low = λ i n d. lows i (rw e at n) d;
        counts = λ i n. holders i (rw e at n);
      }

-- the change keeps the memory good
pub counted-good : (m : Memory) → Good m → (hand inserted flushed : ℕ) (words pool store counts : List ℕ) → hand < buffers m
    → flushed ≤ inserted
    → length words ≡ buffers m
    → length pool ≡ length m.pool
    → length store ≡ length m.store
    → length counts ≡ length m.counts
    → ((i : ℕ) → i < buffers m → empty (get_or words i 0) ≡ empty_at m i)
    → ((i : ℕ) → i < buffers m → sound_word (cap_of m) (get_or words i 0) ≡ true)
    → ((i : ℕ) → i < buffers m → dirty (get_or words i 0) ≡ true → position (block (size m) i pool) ≤ inserted)
    → ((i : ℕ) → i < buffers m → pins (get_or words i 0) ≡ holders_of counts i)
    → Good (counted m hand inserted flushed words pool store counts)
counted-good m k hand inserted flushed words pool store counts h l e f g c same sounds lows holders =
    record {
      sizes = like-sized m k hand inserted flushed words pool store counts e f g c;
      books = like-books m k hand inserted flushed words pool store counts h l e same sounds lows holders;
    }

-- and so does one that leaves the counts, and each word's pins
pub like-good : (m : Memory) → Good m → (hand inserted flushed : ℕ) (words pool store : List ℕ) → hand < buffers m → flushed ≤ inserted
    → length words ≡ buffers m
    → length pool ≡ length m.pool
    → length store ≡ length m.store
    → ((i : ℕ) → i < buffers m → empty (get_or words i 0) ≡ empty_at m i)
    → ((i : ℕ) → i < buffers m → sound_word (cap_of m) (get_or words i 0) ≡ true)
    → ((i : ℕ) → i < buffers m → dirty (get_or words i 0) ≡ true → position (block (size m) i pool) ≤ inserted)
    → ((i : ℕ) → i < buffers m → pins (get_or words i 0) ≡ pins (word_of m i))
    → Good (like m hand inserted flushed words pool store)
like-good m k hand inserted flushed words pool store h l e f g same sounds lows pinned =
    counted-good m k hand inserted flushed words pool store m.counts h l e f g refl same sounds lows
    (λ i n. pinned i n ∙ k.books.counts i n)
