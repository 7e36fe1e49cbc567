-- Load: a page comes into the buffer on top of the free list. What it does, and that the books are sound once a holder has a pin on it.
use Prim.Native.Nat.{ℕ, ◌+◌, ◌*◌, ◌≤◌, ◌<◌}
use mathlib.Core.Path.{◌≡◌, sym, ap, ◌∙◌}
use mathlib.Core.Bool.{true, false}
use mathlib.Core.Logic.{◌≢◌, ⊎_elim}
use mathlib.Core.List.{List}
use native.Mathlib.Omega.{arith}
use lib.IntN.{pos}
use lib.ListN.{length, length-set}
use lib.Seq.{get_or-set_same, get_or-set_other}
use borrow.Author.Tests.{eqb-false}
use Rattle.laws.specs.First.{found}
use Rattle.laws.specs.Block.{block}
use Rattle.laws.proofs.Tests.{eq-or-ne, never}
use Rattle.laws.proofs.Block.{length-block, length-put_block, block-put-same, block-put-other}
use Rattle.buftag.specs.declared.link.Link.TheVariants.{To}
use Rattle.std.specs.Prelude.{None}
use Rattle.buftag.specs.declared.name.PageName.{PageName}
use Rattle.buftag.specs.Link.{link_of, Holds}
use Rattle.buftag.specs.Chain.{enter_heads, enter_chain}
use Rattle.buftag.proofs.NamesLaws.{length-set_name, name-put, name-kept, name_in}
use Rattle.buftag.proofs.MoveLaws.{entered, distinct-entered}
use Rattle.bufmodel.specs.Word.{pins, empty, dirty, loaded, sound_word}
use Rattle.bufmodel.specs.Rows.{place_of, store_blocks}
use Rattle.bufmodel.specs.Memory.{Memory, buffers, size, cap_of, word_of, name_of, page_of, with_counts}
use Rattle.bufmodel.specs.Counts.{max_holders, set_count, holders_of}
use Rattle.bufmodel.specs.Sizes.{SizedFor}
use Rattle.bufmodel.specs.Books.{empty_at, BooksSound}
use Rattle.bufmodel.specs.Moves.{off, load_at, load_top, load}
use Rattle.bufmodel.specs.Pin.{held_in}
use Rattle.bufmodel.proofs.WordLaws.{
  loaded-fields,
  loaded-pins,
  loaded-full,
  loaded-clean,
  held-sound,
  held-lt,
  empty-zero,
  zero-pins,
}
use Rattle.bufmodel.proofs.CountLaws.{length-set_count, holders-change, holders-other, holders-none, pin-none}
use Rattle.bufmodel.proofs.RowsLaws.{place-in}
use Rattle.bufmodel.proofs.GoodLaws.{Good}
use Rattle.bufmodel.proofs.FreeListLaws.{holds-pop, top-empty, free-from}
use Rattle.bufmodel.proofs.HeldLaws.{empty-unused, empty-same}

-- ---- what load does
pub load_is : (m : Memory) (n : PageName) (i g : ℕ) → link_of m.control.top ≡ To i → place_of m.rows n ≡ found g
    → load m n ≡ load_at m n i g
unfolding load load_top
load_is m n i g e f = rw (e, f)

module _ (m : Memory) (n : PageName) (i g : ℕ) where
  pub load-buffers : buffers (load_at m n i g) ≡ buffers m
  unfolding load_at
  load-buffers = length-set m.states i loaded

  -- the other buffers keep their words and names
  pub load_word_is : (j : ℕ) → j ≢ i → word_of (load_at m n i g) j ≡ word_of m j
  unfolding load_at
  load_word_is j ne = get_or-set_other m.states i j loaded 0 ne

  pub load-name : (j : ℕ) → j ≢ i → name_of (load_at m n i g) j ≡ name_of m j
  unfolding load_at
  load-name j ne = name-kept m.names i n j ne

  pub load_kept : (j : ℕ) → j ≢ i → empty_at (load_at m n i g) j ≡ empty_at m j
  load_kept j ne = empty-same (load_at m n i g) m j j (load_word_is j ne)

  -- its own word, with which it is in use, and its own name
  pub load-own : i < buffers m → word_of (load_at m n i g) i ≡ loaded
  unfolding load_at
  load-own l = get_or-set_same m.states i loaded 0 l

  pub load_full : i < buffers m → empty_at (load_at m n i g) i ≡ false
  unfolding empty_at
  load_full l = ap empty (load-own l) ∙ loaded-full

  pub load-own-name : Good m → i < buffers m → name_of (load_at m n i g) i ≡ n
  unfolding load_at
  load-own-name k l = name-put m.names i n (name_in (buffers m) i m.names k.sizes.names l)

  -- the pages, where block g is in the store
  module _ (k : Good m) (l : i < buffers m) (h : g < store_blocks m.rows) where
    abbrev page : List ℕ
    page = block (size m) g m.store

    whole : length page ≡ size m
    whole = length-block (size m) (store_blocks m.rows) g m.store k.sizes.store h

    pub load-page : (j : ℕ) → j ≢ i → page_of (load_at m n i g) j ≡ page_of m j
    unfolding load_at
    load-page j ne = block-put-other (size m) (buffers m) page m.pool k.sizes.pool whole i l j ne

    pub load-own-page : page_of (load_at m n i g) i ≡ block (size m) g m.store
    unfolding load_at
    load-own-page = block-put-same (size m) (buffers m) page m.pool k.sizes.pool whole i l

    load-pool : length (load_at m n i g).pool ≡ length m.pool
    unfolding load_at
    load-pool = length-put_block (size m) (buffers m) page m.pool k.sizes.pool whole i l

-- ---- the sizes and the books afterwards, once holder o has its pin
abbrev pub loaded_for : Memory → ℕ → PageName → ℕ → ℕ → Memory
loaded_for m o n i g = with_counts (set_count m.counts i o 1) (load_at m n i g)

loaded-sound : (cap : ℕ) → 1 ≤ cap → sound_word cap loaded ≡ true
loaded-sound cap c = let f = loaded-fields c in (held-sound (held-lt f.held) f.held).0

loaded-some : loaded ≡ 0 → ⊥
unfolding empty
loaded-some = eqb-false loaded 0 loaded-full

module _ (m : Memory) (k : Good m) (n : PageName) (i g : ℕ) (l : i < buffers m) where
  -- only other buffers are empty, or dirty
  load-empty : (j : ℕ) → empty_at (load_at m n i g) j ≡ true → j ≢ i
  load-empty j e q = never (rw q at e) (load_full m n i g l)

  load-dirty : (j : ℕ) → dirty (word_of (load_at m n i g) j) ≡ true → j ≢ i
  load-dirty j d e = never (rw e at d) (ap dirty (load-own m n i g l) ∙ loaded-clean)

  module _ (o : ℕ) (few : o < max_holders) where
    -- its holders: one more than none; other buffers have as many as before
    load-room : i * max_holders + max_holders ≤ length m.counts
    load-room = omega (arith, k.sizes.counts)

    load-holder : empty_at m i ≡ true → holders_of (set_count m.counts i o 1) i ≡ 1
    unfolding empty_at
    load-holder e =
        let z : holders_of m.counts i ≡ 0 = sym (k.books.counts i l) ∙ ap pins (empty-zero (word_of m i) e) ∙ zero-pins in
        omega (
          arith,
          z,
          holders-change m.counts i o 1 load-room few,
          pin-none m.counts i o (holders-none m.counts i o few z),
        )

    load-holders : (j : ℕ) → j ≢ i → holders_of (set_count m.counts i o 1) j ≡ holders_of m.counts j
    load-holders j ne = holders-other m.counts i o 1 load-room few j ne

  module _ (o : ℕ) (few : o < max_holders) (h : g < store_blocks m.rows) where
    load-sizes : SizedFor (size (load_at m n i g)) (loaded_for m o n i g)
    unfolding load_at enter_heads enter_chain
    load-sizes =
        let s = k.sizes in
        let b = load-buffers m n i g in
        record {
          permitted = s.permitted;
          least = rw b s.least;
          most = rw b s.most;
          wide = simp length-set s.wide;
          heads = simp length-set s.heads;
          names = rw b (length-set_name m.names i n ∙ s.names);
          pool = rw b (load-pool m n i g k l h ∙ s.pool);
          free = simp length-set s.free;
          chain = simp length-set s.chain;
          rows = s.rows;
          store = s.store;
          counts = rw b (length-set_count m.counts i o 1 ∙ s.counts);
        }

    module _ (top : link_of m.control.top ≡ To i) (place : place_of m.rows n ≡ found g) (new : held_in m n ≡ None) where
      load-free : Holds (load_at m n i g).free (link_of (load_at m n i g).control.top) (empty_at (load_at m n i g))
      unfolding load_at
      load-free = holds-pop i off (free-from m k top) (load_full m n i g l) (load_kept m n i g)

      load-books : BooksSound (loaded_for m o n i g)
      unfolding load_at held_in empty_at
      load-books =
          let b = k.books in
          let s = load-buffers m n i g in
          record {
            cap = b.cap;
            hand = rw s b.hand;
            log = b.log;
            words = λ j q.
                ⊎_elim (λ e. rw e (ap (sound_word (cap_of m)) (load-own m n i g l) ∙ loaded-sound (cap_of m) b.cap.0))
                (λ ne. rw (load_word_is m n i g j ne) (b.words j (rw s at q)))
                (eq-or-ne j i);
            blank = λ j q e.
                let ne = load-empty j e in
                load-name m n i g j ne ∙ b.blank j (rw s at q) (sym (load_kept m n i g j ne) ∙ e);
            free = load-free;
            off = λ j q f.
                ⊎_elim (λ e. rw e (ap link_of (get_or-set_same m.free i off (pos 0) (omega (arith, k.sizes.free)))))
                (λ ne.
                ap link_of (get_or-set_other m.free i j off (pos 0) ne)
                ∙ b.off j (rw s at q) (sym (load_kept m n i g j ne) ∙ f))
                (eq-or-ne j i);
            distinct = distinct-entered m.states m.names i loaded n k.sizes.names l b.distinct new;
            page = λ j q f.
                ⊎_elim (λ e. rw e (g, rw (load-own-name m n i g k l) place))
                (λ ne. rw (load-name m n i g j ne) (b.page j (rw s at q) (sym (load_kept m n i g j ne) ∙ f)))
                (eq-or-ne j i);
            chains = entered m.states m.names m.heads m.chain i loaded n k.sizes.chain k.sizes.names l
                (omega (arith, k.sizes.least, k.sizes.wide)) loaded-some (empty-unused m i (top-empty m k i top).1) b.chains;
            low = λ j q d.
                let ne = load-dirty j d in
                rw (load-page m n i g k l h j ne) (b.low j (rw s at q) (rw (load_word_is m n i g j ne) at d));
            counts = λ j q.
                ⊎_elim
                (λ e. rw e (ap pins (load-own m n i g l) ∙ loaded-pins ∙ sym (load-holder o few (top-empty m k i top).1)))
                (λ ne. ap pins (load_word_is m n i g j ne) ∙ b.counts j (rw s at q) ∙ sym (load-holders o few j ne))
                (eq-or-ne j i);
          }

pub load-good : (m : Memory) → Good m → (o : ℕ) → o < max_holders → (n : PageName) (i g : ℕ) → link_of m.control.top ≡ To i
    → place_of m.rows n ≡ found g
    → held_in m n ≡ None
    → Good (loaded_for m o n i g)
unfolding load_at
load-good m k o few n i g top place new =
    let l = (top-empty m k i top).0 in
    let h = place-in m.rows k.sizes.rows n place in
    record { sizes = load-sizes m k n i g l o few h; books = load-books m k n i g l o few h top place new }
