-- One buffer that has a page gets another word, its page other bytes, and the page's block in the store other bytes: the relation is kept,
-- where the ledger says so of that page and the same of all others. Unpin, a hit, a write and a write-back are such changes.
use Prim.Native.Nat.{ℕ, ◌+◌, ◌*◌, ◌≤◌, ◌<◌}
use mathlib.Core.Path.{◌≡◌, refl, sym, ap, ◌∙◌, subst}
use mathlib.Core.Bool.{true, false, not, cond}
use mathlib.Core.Logic.{◌≢◌, ⊎_elim}
use mathlib.Core.List.{List}
use native.Mathlib.Omega.{arith}
use lib.Dec.{eqb}
use lib.ListN.{length, get_or, set, length-set}
use lib.Seq.{get_or-set_same, get_or-set_other}
use borrow.Author.Tests.{not-false}
use Rattle.laws.specs.Sum.{ind}
use Rattle.laws.specs.First.{Found, found, missing}
use Rattle.laws.specs.Block.{block}
use Rattle.laws.proofs.Tests.{eq-or-ne}
use Rattle.buftag.specs.declared.name.PageName.{PageName}
use Rattle.bufmodel.specs.Word.{pins, pinned, dirty, empty, sound_word}
use Rattle.bufmodel.specs.Position.{position}
use Rattle.bufmodel.specs.Checksum.{bare, passes}
use Rattle.bufmodel.specs.Rows.{store_blocks, place_of}
use Rattle.bufmodel.specs.Memory.{Memory, buffers, size, cap_of, word_of, name_of, page_of, with_states, with_counts}
use Rattle.bufmodel.specs.Counts.{max_holders, count_at, set_count, has_pin, holders_of}
use Rattle.bufmodel.specs.Books.{empty_at}
use Rattle.bufmodel.proofs.GoodLaws.{Good}
use Rattle.bufmodel.proofs.WordLaws.{Held, held-sound, held-lt}
use Rattle.bufmodel.proofs.RowsLaws.{place-in}
use Rattle.bufmodel.proofs.CountLaws.{length-set_count, holders-change, holders-same}
use Rattle.bufmodel.proofs.CountLaws as counts
use Rattle.bufmodel.proofs.LikeLaws.{counted, counted-good}
use Rattle.shelf.specs.Shelf.{with, count_with}
use Rattle.shelf.proofs.Kept.{View, Has, Nobody, Same, Kept}
use Rattle.shelf.proofs.KeptLaws.{has_one, has-place}
use Rattle.shelf.proofs.WithLaws.{with-same, with-other, count_same, count-holder, count-page}

-- ---- views that differ at page g and buffer i at most
pub record Elsewhere (v v' : View) (i g : ℕ) : Type 0 where
  pub bytes : (h : ℕ) → h ≢ g → v'.bytes h ≡ v.bytes h
  pub counts : (o h : ℕ) → h ≢ g → v'.counts o h ≡ v.counts o h
  pub marks : (h : ℕ) → h ≢ g → v'.dirty h ≡ v.dirty h
  pub holds : (j : ℕ) → j ≢ i → v'.holds j ≡ v.holds j
  pub last : (j : ℕ) → j ≢ i → v'.last j ≡ v.last j

-- ---- the change: buffer i has page g; its new word is w
pub record Turned (m : Memory) (v : View) (i g flushed w : ℕ) (pool store cs : List ℕ) (v' : View) : Type 0 where
  pub held : Held (cap_of m) w
  -- flushed may rise
  pub log : flushed ≤ m.control.inserted
  -- other pages in the pool and other blocks of the store stay
  pub size_pool : length pool ≡ length m.pool
  pub pages : (j : ℕ) → j < buffers m → j ≢ i → block (size m) j pool ≡ page_of m j
  pub size_store : length store ≡ length m.store
  pub blocks : (h : ℕ) → h < store_blocks m.rows → h ≢ g → block (size m) h store ≡ block (size m) h m.store
  -- other buffers' counts stay, and the word counts the holders of this one
  pub size_counts : length cs ≡ length m.counts
  pub rows : (j : ℕ) → j ≢ i → (h : ℕ) → h < max_holders → count_at cs j h ≡ count_at m.counts j h
  pub holders : pins w ≡ holders_of cs i
  -- the page, dirty or not
  pub low : dirty w ≡ true → position (block (size m) i pool) ≤ m.control.inserted
  pub clean : dirty w ≡ false → bare (block (size m) g store) ≡ bare (block (size m) i pool)
  -- its block passes
  pub sum : (n : PageName) → place_of m.rows n ≡ found g → passes n.block.0 (block (size m) g store) ≡ true
  -- what the ledger then says of it
  pub bytes : bare (v'.bytes g) ≡ bare (block (size m) i pool)
  pub counts : (h : ℕ) → h < max_holders → v'.counts h g ≡ count_at cs i h
  pub marked : v'.dirty g ≡ dirty w
  pub holds : v'.holds i ≡ cond (pinned w) (found g) missing
  pub last : v'.last i ≡ found g
  pub bads : (h : ℕ) → v'.bad h ≡ v.bad h
  pub elsewhere : Elsewhere v v' i g
  pub put : (h : ℕ) → v'.put h ≡ true → (h < store_blocks m.rows) × (position (block (size m) h store) ≤ flushed)

-- ---- the words and the buffers in use
abbrev pub turned : Memory → ℕ → ℕ → ℕ → List ℕ → List ℕ → List ℕ → Memory
turned m i flushed w pool store cs =
    counted m m.control.hand m.control.inserted flushed (set m.states i w) pool store cs

module _ (words : List ℕ) (i w : ℕ) (l : i < length words) where
  -- what holds of the new word and of the old others holds of each
  word_each : (P : ℕ → ℕ → Type 0) → P i w → ((j : ℕ) → j ≢ i → P j (get_or words j 0)) → (j : ℕ) → P j (get_or (set words i w) j 0)
  word_each P own other j =
      ⊎_elim
      (λ e. subst (λ (x : ℕ). P x (get_or (set words i w) x 0)) (sym e) (subst (P i) (sym (get_or-set_same words i w 0 l)) own))
      (λ ne. subst (P j) (sym (get_or-set_other words i j w 0 ne)) (other j ne))
      (eq-or-ne j i)

module _ (m : Memory) (i g : ℕ) (x : Has m i g) (flushed w : ℕ) (pool store cs : List ℕ) (full : empty w ≡ false) where
  -- the same buffers are in use
  turned-empty : (j : ℕ) → empty_at (turned m i flushed w pool store cs) j ≡ empty_at m j
  unfolding empty_at
  turned-empty = word_each m.states i w x.below (λ j y. empty y ≡ empty_at m j) (full ∙ sym x.full) (λ j ne. refl)

  -- and have the same pages
  pub turned_then : (j h : ℕ) → Has (turned m i flushed w pool store cs) j h → Has m j h
  turned_then j h y =
      record { below = rw length-set at y.below; full = sym (turned-empty j) ∙ y.full; place = y.place }

  pub turned-has : (j h : ℕ) → Has m j h → Has (turned m i flushed w pool store cs) j h
  turned-has j h y = record { below = rw length-set y.below; full = turned-empty j ∙ y.full; place = y.place }

module _ (m : Memory) (v : View) (k : Kept m v) (i g : ℕ) (x : Has m i g) (flushed w : ℕ) (pool store cs : List ℕ) (v' : View)
    (t : Turned m v i g flushed w pool store cs v') where
  abbrev m' : Memory
  m' = turned m i flushed w pool store cs

  many : buffers m' ≡ buffers m
  many = length-set m.states i w

  each : (P : ℕ → ℕ → Type 0) → P i w → ((j : ℕ) → j ≢ i → P j (word_of m j)) → (j : ℕ) → P j (word_of m' j)
  each = word_each m.states i w x.below

  empty-now : (j : ℕ) → empty_at m' j ≡ empty_at m j
  empty-now = turned-empty m i g x flushed w pool store cs t.held.full

  has-then : (j h : ℕ) → Has m' j h → Has m j h
  has-then = turned_then m i g x flushed w pool store cs t.held.full

  has-now : (j h : ℕ) → Has m j h → Has m' j h
  has-now = turned-has m i g x flushed w pool store cs t.held.full

  nobody-then : (h : ℕ) → Nobody m' h → Nobody m h
  nobody-then h n j y = n j (has-now j h y)

  -- a page that no buffer has is another one
  nobody-other : (h : ℕ) → Nobody m' h → h ≢ g
  nobody-other h n e = n i (has-now i h (subst (Has m i) (sym e) x))

  -- ---- the books
  word_sound : (j : ℕ) → j < buffers m → sound_word (cap_of m) (word_of m' j) ≡ true
  word_sound j b =
      each (λ j y. j < buffers m → sound_word (cap_of m) y ≡ true) (λ b. (held-sound (held-lt t.held) t.held).0)
      (λ j ne b. k.good.books.words j b) j b

  page-low : (j : ℕ) → j < buffers m → dirty (word_of m' j) ≡ true → position (block (size m) j pool) ≤ m.control.inserted
  page-low j b =
      each (λ j y. j < buffers m → dirty y ≡ true → position (block (size m) j pool) ≤ m.control.inserted) (λ b. t.low)
      (λ j ne b d. omega (arith, k.good.books.low j b d, ap position (t.pages j b ne))) j b

  word-holders : (j : ℕ) → j < buffers m → pins (word_of m' j) ≡ holders_of cs j
  word-holders j b =
      each (λ j y. j < buffers m → pins y ≡ holders_of cs j) (λ b. t.holders)
      (λ j ne b. k.good.books.counts j b ∙ sym (holders-same cs m.counts j (t.rows j ne))) j b

  good-now : Good m'
  unfolding empty_at
  good-now =
      counted-good m k.good m.control.hand m.control.inserted flushed (set m.states i w) pool store cs
      k.good.books.hand t.log many t.size_pool t.size_store t.size_counts (λ j b. empty-now j) word_sound page-low
      word-holders

  -- ---- the pages
  same-own : Same m' v' i g
  same-own =
      let own : word_of m' i ≡ w = get_or-set_same m.states i w 0 x.below in
      record {
        bytes = t.bytes;
        counts = t.counts;
        marked = t.marked ∙ ap dirty (sym own);
        last = t.last;
        clean = λ d. t.clean (ap dirty (sym own) ∙ d);
        fine = t.bads g ∙ (k.same i g x).fine;
      }

  same-other : (j h : ℕ) → j ≢ i → Has m j h → Same m' v' j h
  same-other j h ne y =
      let s = k.same j h y in
      let e : word_of m' j ≡ word_of m j = get_or-set_other m.states i j w 0 ne in
      let far : h ≢ g = λ q. ne (has_one m k.good j i g (subst (Has m j) q y) x) in
      let here = t.pages j y.below ne in
      let inside = place-in m.rows k.good.sizes.rows (name_of m j) y.place in
      record {
        bytes = ap bare (t.elsewhere.bytes h far) ∙ s.bytes ∙ ap bare (sym here);
        counts = λ o q. t.elsewhere.counts o h far ∙ s.counts o q ∙ sym (t.rows j ne o q);
        marked = t.elsewhere.marks h far ∙ s.marked ∙ ap dirty (sym e);
        last = t.elsewhere.last j ne ∙ s.last;
        clean = λ d. ap bare (t.blocks h inside far) ∙ s.clean (ap dirty (sym e) ∙ d) ∙ ap bare (sym here);
        fine = t.bads h ∙ s.fine;
      }

  same-now : (j h : ℕ) → Has m j h → Same m' v' j h
  same-now j h y =
      ⊎_elim
      (λ e.
      let q : g ≡ h = has-place m k.good i g h x (subst (λ (b : ℕ). Has m b h) e y) in
      subst (λ (b : ℕ). Same m' v' b h) (sym e) (subst (Same m' v' i) q same-own))
      (λ ne. same-other j h ne y)
      (eq-or-ne j i)

  -- ---- what the numbers hold
  holds-now : (j : ℕ) → j < buffers m → v'.holds j ≡ cond (pinned (word_of m' j)) (place_of m.rows (name_of m j)) missing
  holds-now j b =
      each (λ j y. j < buffers m → v'.holds j ≡ cond (pinned y) (place_of m.rows (name_of m j)) missing)
      (λ b. t.holds ∙ ap (λ (f : Found). cond (pinned w) f missing) (sym x.place))
      (λ j ne b. t.elsewhere.holds j ne ∙ k.holds j b) j b

  -- the relation is kept
  pub turn-kept : Kept (turned m i flushed w pool store cs) v'
  unfolding empty_at
  turn-kept =
      record {
        good = good-now;
        words = λ j b.
            each (λ j y. j < buffers m → empty y ≡ false → Held (cap_of m) y) (λ b f. t.held) (λ j ne b f. k.words j b f) j (rw many at b);
        same = λ j h y. same-now j h (has-then j h y);
        unpinned = λ h n o q. t.elsewhere.counts o h (nobody-other h n) ∙ k.unpinned h (nobody-then h n) o q;
        unmarked = λ h n. t.elsewhere.marks h (nobody-other h n) ∙ k.unmarked h (nobody-then h n);
        stored = λ p h e n.
            let far = nobody-other h n in
            ap bare (t.elsewhere.bytes h far) ∙ k.stored p h e (nobody-then h n)
            ∙ ap bare (sym (t.blocks h (place-in m.rows k.good.sizes.rows p e) far));
        passed = λ p h e.
            t.bads h
            ∙ ⊎_elim
            (λ q.
            ap v.bad q ∙ (k.same i g x).fine
            ∙ sym (ap not (ap (λ (y : ℕ). passes p.block.0 (block (size m) y store)) q ∙ t.sum p (e ∙ ap found q))))
            (λ ne.
            k.passed p h e
            ∙ ap (λ (y : List ℕ). not (passes p.block.0 y)) (sym (t.blocks h (place-in m.rows k.good.sizes.rows p e) ne)))
            (eq-or-ne h g);
        known = λ h e. k.known h (sym (t.bads h) ∙ e);
        holds = λ j b. holds-now j (rw many at b);
        put = t.put;
      }

-- the block of a page that a buffer has passes
pub block-passes : (m : Memory) (v : View) → Kept m v → (i g : ℕ) → Has m i g → (n : PageName) → place_of m.rows n ≡ found g
    → passes n.block.0 (block (size m) g m.store) ≡ true
block-passes m v k i g x n e = not-false _ (sym (k.passed n g e) ∙ (k.same i g x).fine)

-- ---- other pins of holder o alone: unpin and a hit. The new word is w, the holder's new count c, and the number then holds f
module _ (m : Memory) (v : View) (k : Kept m v) (i g : ℕ) (x : Has m i g) (o : ℕ) (few : o < max_holders) where
  room : i * max_holders + max_holders ≤ length m.counts
  room = let b = x.below in omega (arith, k.good.sizes.counts)

  -- the counts of the page and of its buffer change alike
  pub new-counts : (c h : ℕ) → h < max_holders → count_with o g c v.counts h g ≡ count_at (set_count m.counts i o c) i h
  new-counts c h l =
      ⊎_elim
      (λ e.
      subst (λ (y : ℕ). count_with o g c v.counts y g ≡ count_at (set_count m.counts i o c) i y) (sym e)
      (count_same o g c v.counts ∙ sym (counts.count_same m.counts i o c room few)))
      (λ ne.
      count-holder o g c v.counts h g ne ∙ (k.same i g x).counts h l
      ∙ sym (counts.count-other m.counts i o c room few i h l (λ q e. ne e)))
      (eq-or-ne h o)

  pub pins-kept : (w c : ℕ) (f : Found) (last : ℕ → Found) → Held (cap_of m) w → dirty w ≡ dirty (word_of m i)
      → pins w + ind (has_pin m.counts i o) ≡ pins (word_of m i) + ind (not (eqb c 0))
      → f ≡ cond (pinned w) (found g) missing
      → ((j : ℕ) → last j ≡ v.last j)
      → Kept (with_counts (set_count m.counts i o c) (with_states (set m.states i w) m))
      (record {
        bytes = v.bytes;
        counts = count_with o g c v.counts;
        holds = with i f v.holds;
        bad = v.bad;
        dirty = v.dirty;
        last = last;
        put = v.put;
      })
  pins-kept w c f last held mark count hold old =
      let s = k.same i g x in
      let b = k.good.books in
      turn-kept m v k i g x m.control.flushed w m.pool m.store (set_count m.counts i o c) _
      (record {
        held = held;
        log = b.log;
        size_pool = refl;
        pages = λ j l ne. refl;
        size_store = refl;
        blocks = λ h l ne. refl;
        size_counts = length-set_count m.counts i o c;
        rows = λ j ne h l. counts.count-other m.counts i o c room few j h l (λ e q. ne e);
        holders = omega (arith, count, b.counts i x.below, holders-change m.counts i o c room few);
        low = λ d. b.low i x.below (sym mark ∙ d);
        clean = λ d. s.clean (sym mark ∙ d);
        sum = block-passes m v k i g x;
        bads = λ h. refl;
        bytes = s.bytes;
        counts = new-counts c;
        marked = s.marked ∙ sym mark;
        holds = with-same i f v.holds ∙ hold;
        last = old i ∙ s.last;
        elsewhere = record {
          bytes = λ h ne. refl;
          counts = count-page o g c v.counts;
          marks = λ h ne. refl;
          holds = with-other i f v.holds;
          last = λ j ne. old j;
        };
        put = k.put;
      })
