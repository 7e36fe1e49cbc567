-- Memory set up for use is good: all buffers are empty, and the free list is 0, 1, .. N − 1.
use Prim.Native.Nat.{ℕ, zero, suc, ◌+◌, ◌*◌, ◌≤◌, ◌<◌}
use mathlib.Core.Path.{◌≡◌, refl, sym, ap, ◌∙◌}
use mathlib.Core.Bool.{true, false, not}
use mathlib.Core.Logic.{⊎_elim}
use mathlib.Core.List.{List, [], ◌∷◌}
use native.Mathlib.Omega.{arith}
use lib.ListN.{length, length-replicate, get_or-replicate}
use lib.IntN.{pos}
use borrow.Author.Tests.{eq-eqb}
use Rattle.laws.specs.Times.{times}
use Rattle.laws.proofs.Tests.{never, eq-or-ne}
use Rattle.laws.proofs.Times.{times-here, times-later}
use Rattle.laws.proofs.Sum.{count-nobody}
use Rattle.laws.proofs.Lists.{get_d-replicate-all}
use Rattle.buftag.specs.declared.link.Link.TheVariants.{To, End}
use Rattle.buftag.specs.Names.{name_words, no_name}
use Rattle.buftag.specs.Link.{none, link_of, link_at, Links, done, step, Holds}
use Rattle.buftag.specs.Lookup.{used}
use Rattle.buftag.specs.Chain.{ChainsSound}
use Rattle.buftag.proofs.LinkLaws.{links-once}
use Rattle.bufmodel.specs.Word.{max_cap, pins}
use Rattle.bufmodel.specs.Memory.{Memory, buffers, word_of, name_of}
use Rattle.bufmodel.specs.Counts.{max_holders, count_place, count_at, has_pin, holders_of}
use Rattle.bufmodel.specs.Sizes.{SizedFor}
use Rattle.bufmodel.specs.Books.{empty_at, BooksSound}
use Rattle.bufmodel.specs.Calls.{free_links, fresh}
use Rattle.bufmodel.proofs.WordLaws.{zero-empty, zero-sound, zero-clean, zero-pins}
use Rattle.bufmodel.proofs.GoodLaws.{Good}

-- ---- the free list
-- n numbers, rising from i
unfoldable pub rising : ℕ → ℕ → List ℕ
rising i zero = []
rising i (suc n) = i ∷ rising (suc i) n

-- each of them is there
rising-has : (n i k : ℕ) → i ≤ k → k < i + n → 0 < times k (rising i n)
unfolding rising
rising-has zero i k l h = absurd (omega arith)
rising-has (suc n) i k l h =
    ⊎_elim (λ e. rw e (times-here i (rising (suc i) n)))
    (λ ne. times-later k i (rising (suc i) n) (rising-has n (suc i) k (omega arith) (omega arith))) (eq-or-ne k i)

pub length-free_links : (i n : ℕ) → length (free_links i n) ≡ n
unfolding free_links
length-free_links i zero = refl
length-free_links i (suc zero) = refl
length-free_links i (suc (suc n)) = ap suc (length-free_links (suc i) (suc n))

-- a link leads to the next buffer, the last one ends the list
link-next : (i n j t : ℕ) → suc j < n → t ≡ suc (i + j) → link_at (free_links i n) j ≡ To t
unfolding free_links
link-next i zero j t h e = absurd (omega arith)
link-next i (suc zero) j t h e = absurd (omega arith)
link-next i (suc (suc n)) zero t h e = ap To (omega arith)
link-next i (suc (suc n)) (suc j) t h e = link-next (suc i) (suc n) j t (omega arith) (omega arith)

link-last : (i j : ℕ) → link_at (free_links i (suc j)) j ≡ End
unfolding free_links
link-last i zero = refl
link-last i (suc j) = link-last (suc i) j

-- from buffer j on, with k more behind it
free-from : (n k j : ℕ) → n ≡ suc (j + k) → Links (free_links 0 n) (To j) (rising j (suc k))
unfolding rising
free-from n zero j e =
    let q : n ≡ suc j = omega arith in
    step {i = j} {is = []} (omega (arith, length-free_links 0 n)) (rw (q, link-last 0 j) done)
free-from n (suc k) j e =
    step {i = j} {is = rising (suc j) (suc k)} (omega (arith, length-free_links 0 n))
    (rw (link-next 0 n j (suc j) (omega arith) (omega arith)) (free-from n k (suc j) (omega arith)))

-- the free list leads through 0, 1, .. n − 1
pub fresh-free : (n : ℕ) → 0 < n → Links (free_links 0 n) (To 0) (rising 0 n)
fresh-free zero h = absurd (omega arith)
fresh-free (suc n) h = free-from (suc n) n 0 (omega arith)

-- ---- the memory
module _ (m : Memory) (p at cap : ℕ) where
  -- as many buffers as before
  pub fresh-many : buffers (fresh m p at cap) ≡ buffers m
  unfolding fresh
  fresh-many = length-replicate (buffers m) 0

  -- all words are 0
  pub fresh-word : (i : ℕ) → word_of (fresh m p at cap) i ≡ 0
  unfolding fresh
  fresh-word i = get_d-replicate-all (buffers m) i 0

  pub fresh-empty : (i : ℕ) → empty_at (fresh m p at cap) i ≡ true
  unfolding empty_at
  fresh-empty i = rw (fresh-word i) zero-empty

  fresh-idle : (i : ℕ) → used (fresh m p at cap).states i ≡ false
  fresh-idle i = rw (fresh-word i)

  -- all names are zeros
  pub fresh-name : (i : ℕ) → name_of (fresh m p at cap) i ≡ no_name
  unfolding fresh
  fresh-name i = simp get_d-replicate-all

  -- every part is as long as before, or as the buffers are many
  fresh-sized : SizedFor p m → SizedFor p (fresh m p at cap)
  unfolding fresh
  fresh-sized s =
      let n = length-replicate {A = ℕ} (buffers m) 0 in
      let b = length-replicate (length m.heads) none in
      record {
        permitted = s.permitted;
        least = rw n s.least;
        most = rw n s.most;
        wide = rw (n, b) s.wide;
        heads = rw b s.heads;
        names = rw n (length-replicate (name_words * buffers m) 0);
        pool = rw n s.pool;
        free = rw n (length-free_links 0 (buffers m));
        chain = rw n (length-replicate (length m.chain) none ∙ s.chain);
        rows = s.rows;
        store = s.store;
        counts = rw n (length-replicate (length m.counts) 0 ∙ s.counts);
      }

  -- the free list holds all buffers
  fresh_holds : 1 ≤ buffers m → Holds (free_links 0 (buffers m)) (To 0) (empty_at (fresh m p at cap))
  fresh_holds l =
      let r = fresh-free (buffers m) l in
      record {
        list = rising 0 (buffers m);
        linked = r;
        once = λ k h.
            let n = length-free_links 0 (buffers m) in
            rw (fresh-empty k) (omega (arith, links-once r k, rising-has (buffers m) 0 k (omega arith) (omega arith)));
      }

  -- all chains are empty
  fresh-chains : ChainsSound (fresh m p at cap).states (fresh m p at cap).names (fresh m p at cap).heads (fresh m p at cap).chain
  unfolding fresh times
  fresh-chains =
      let b = length-replicate (length m.heads) none in
      let n = length-replicate (length m.chain) none in
      record {
        each = λ i h.
            rw (get_or-replicate (length m.heads) i none (pos 0) (omega arith))
            (record { list = []; linked = done; once = λ k l. rw (fresh-idle k) });
        idle = λ i h e. ap link_of (get_or-replicate (length m.chain) i none (pos 0) (omega arith));
      }

  -- no holder has a pin
  fresh-count : (i h : ℕ) → count_at (fresh m p at cap).counts i h ≡ 0
  unfolding fresh count_at
  fresh-count i h = get_d-replicate-all (length m.counts) (count_place i h) 0

  fresh-holders : (i : ℕ) → holders_of (fresh m p at cap).counts i ≡ 0
  unfolding holders_of has_pin
  fresh-holders i = count-nobody _ max_holders (λ h l t. never t (ap not (eq-eqb _ 0 (fresh-count i h))))

  fresh-books : 1 ≤ buffers m → (1 ≤ cap) × (cap ≤ max_cap) → BooksSound (fresh m p at cap)
  unfolding fresh
  fresh-books l c =
      record {
        cap = c;
        hand = omega (arith, fresh-many);
        log = omega arith;
        words = λ i h. rw (fresh-word i) (zero-sound cap);
        blank = λ i h e. fresh-name i;
        free = fresh_holds l;
        off = λ i h e. never (fresh-empty i) e;
        distinct = λ i j u v e. never u (fresh-idle i);
        page = λ i h e. never (fresh-empty i) e;
        chains = fresh-chains;
        low = λ i h e. never e (rw (fresh-word i) zero-clean);
        counts = λ i h. ap pins (fresh-word i) ∙ zero-pins ∙ sym (fresh-holders i);
      }

pub fresh-good : (m : Memory) (p at cap : ℕ) → SizedFor p m → (1 ≤ cap) × (cap ≤ max_cap) → Good (fresh m p at cap)
unfolding fresh
fresh-good m p at cap s c = record { sizes = fresh-sized m p at cap s; books = fresh-books m p at cap s.least c }
