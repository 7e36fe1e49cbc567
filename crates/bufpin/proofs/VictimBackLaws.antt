-- Writing one page back keeps memory that passes the places 1 and 2 so.
use Prim.Native.Nat.{ℕ, ◌≤◌, ◌<◌, max}
use native.Mathlib.Omega.{arith}
use mathlib.Core.Path.{◌≡◌, refl, sym, ap, ◌∙◌, subst}
use mathlib.Core.Bool.{true, false, ◌&&◌}
use mathlib.Core.Logic.{inl, ⊎_elim}
use lib.ListN.{length, get_or, set, length-set}
use lib.Seq.{get_or-set_same, get_or-set_other}
use lib.Dec.{leb}
use borrow.Author.Tests.{leb-true}
use Rattle.laws.specs.First.{found}
use Rattle.laws.specs.Block.{put_block}
use Rattle.laws.proofs.Tests.{and_left, eq-or-ne, true-or-false, never}
use Rattle.laws.proofs.Block.{length-block, length-put_block}
use Rattle.bufmodel.specs.Word.{pins, usage, pack, empty, dirty, clean_flags, sound_flags, sound_word, make_clean}
use Rattle.bufmodel.specs.Position.{position}
use Rattle.bufmodel.specs.Checksum.{sealed}
use Rattle.bufmodel.specs.Rows.{place_of, store_blocks}
use Rattle.bufmodel.specs.Memory.{Memory, buffers, size, cap_of, word_of, name_of, page_of}
use Rattle.bufmodel.specs.Books.{empty_at}
use Rattle.bufmodel.specs.Moves.{put_at, write_back}
use Rattle.bufmodel.proofs.WordLaws.{flags-pack, usage-pack, pins-pack, pins-lt, usage-lt, Held, held_by, held-sound, held-lt, dirty-is}
use Rattle.bufmodel.proofs.ChecksumLaws.{length-sealed}
use Rattle.bufmodel.proofs.RowsLaws.{place-in}
use Rattle.bufmodel.proofs.SizesLaws.{sized-least}
use Rattle.bufmodel.proofs.GoodLaws.{Good}
use Rattle.bufmodel.proofs.CleanLaws.{back-clean}
use Rattle.bufmodel.proofs.LikeLaws.{like, like-good}

-- ---- the word
-- a sound word of a buffer in use: its counts and flags
pub sound-parts : (cap w : ℕ) → sound_word cap w ≡ true → empty w ≡ false → (leb (usage w) cap && sound_flags w) ≡ true
unfolding sound_word
sound-parts cap w s e = rw e at s

pub sound-few : (cap w : ℕ) → sound_word cap w ≡ true → empty w ≡ false → usage w ≤ cap
sound-few cap w s e = leb-true (usage w) cap (and_left (leb (usage w) cap) (sound_flags w) (sound-parts cap w s e))

-- made clean, it has its pins, is the word of a buffer in use, and not dirty
clean-pins : (w : ℕ) → pins (make_clean w) ≡ pins w
unfolding make_clean
clean-pins w = pins-pack (pins w) (usage w) clean_flags (pins-lt w) (usage-lt w)

clean-held : (cap w : ℕ) → usage w ≤ cap → Held cap (make_clean w) × (dirty (make_clean w) ≡ false)
unfolding make_clean
clean-held cap w few =
    let f = flags-pack (pins w) (usage w) clean_flags (pins-lt w) (usage-lt w) in
    let u = usage-pack (pins w) (usage w) clean_flags (pins-lt w) (usage-lt w) in
    let k : Held cap (pack (pins w) (usage w) clean_flags) = held_by cap _ (rw u few) (inl f) in
    (k, dirty-is k ∙ rw f refl)

-- ---- what it does
-- the memory after the dirty page of buffer i was written back to place g
abbrev back_of : Memory → ℕ → ℕ → Memory
back_of m i g =
    like m m.control.hand m.control.inserted (max m.control.flushed (position (page_of m i)))
    (set m.states i (make_clean (word_of m i))) m.pool (put_block (size m) g (sealed (name_of m i).block.0 (page_of m i)) m.store)

back-dirty : (m : Memory) (i g : ℕ) → place_of m.rows (name_of m i) ≡ found g → dirty (word_of m i) ≡ true
    → write_back m i ≡ back_of m i g
unfolding write_back put_at
back-dirty m i g e d = rw (d, e)

-- ---- the books
module _ (m : Memory) (k : Good m) (i : ℕ) (l : i < buffers m) (full : empty_at m i ≡ false) where
  abbrev w : ℕ
  w = word_of m i

  -- the word, before and after
  few : usage w ≤ cap_of m
  unfolding empty_at
  few = sound-few (cap_of m) w (k.books.words i l) full

  own : get_or (set m.states i (make_clean w)) i 0 ≡ make_clean w
  own = get_or-set_same m.states i (make_clean w) 0 l

  module _ (g : ℕ) (place : place_of m.rows (name_of m i) ≡ found g) (marked : dirty w ≡ true) where
    long : length (put_block (size m) g (sealed (name_of m i).block.0 (page_of m i)) m.store) ≡ length m.store
    long =
        let number = (name_of m i).block.0 in
        let own = length-block (size m) (buffers m) i m.pool k.sizes.pool l in
        length-put_block (size m) (store_blocks m.rows) (sealed number (page_of m i)) m.store k.sizes.store
        (length-sealed number (page_of m i) (omega (arith, own, sized-least k.sizes)) ∙ own) g
        (place-in m.rows k.sizes.rows (name_of m i) place)

    kept-good : Good (back_of m i g)
    unfolding empty_at
    kept-good =
        let b = k.books in
        let h = clean-held (cap_of m) w few in
        like-good m k m.control.hand m.control.inserted _ (set m.states i (make_clean w)) m.pool _ b.hand
        (omega (arith, b.log, b.low i l marked)) (length-set m.states i (make_clean w)) refl long
        (λ j n.
        ⊎_elim
        (λ e. rw e (ap empty own ∙ h.0.full ∙ sym full))
        (λ ne. ap empty (get_or-set_other m.states i j (make_clean w) 0 ne))
        (eq-or-ne j i))
        (λ j n.
        ⊎_elim
        (λ e. rw e (ap (sound_word (cap_of m)) own ∙ (held-sound (held-lt h.0) h.0).0))
        (λ ne. ap (sound_word (cap_of m)) (get_or-set_other m.states i j (make_clean w) 0 ne) ∙ b.words j n)
        (eq-or-ne j i))
        (λ j n d.
        ⊎_elim
        (λ e. never (rw e at d) (ap dirty own ∙ h.1))
        (λ ne. b.low j n (sym (ap dirty (get_or-set_other m.states i j (make_clean w) 0 ne)) ∙ d))
        (eq-or-ne j i))
        (λ j n.
        ⊎_elim
        (λ e. rw e (ap pins own ∙ clean-pins w))
        (λ ne. ap pins (get_or-set_other m.states i j (make_clean w) 0 ne))
        (eq-or-ne j i))

  pub back-good : Good (write_back m i)
  back-good =
      ⊎_elim
      (λ d.
      let p = k.books.page i l full in
      subst (λ (o : Memory). Good o) (sym (back-dirty m i p.0 p.1 d)) (kept-good p.0 p.1 d))
      (λ d. subst (λ (o : Memory). Good o) (sym (back-clean m i d)) k)
      (true-or-false (dirty w))

  -- the buffer stays in use
  pub back_full : empty_at (write_back m i) i ≡ false
  unfolding empty_at write_back
  back_full =
      ⊎_elim
      (λ d. rw d (ap empty own ∙ (clean-held (cap_of m) w few).0.full))
      (λ d. rw d (ap empty (get_or-set_same m.states i w 0 l) ∙ full))
      (true-or-false (dirty w))

  -- with as many pins
  pub back-pins : pins (word_of (write_back m i) i) ≡ pins w
  unfolding write_back
  back-pins =
      ⊎_elim
      (λ d. rw d (ap pins own ∙ clean-pins w))
      (λ d. rw d (ap pins (get_or-set_same m.states i w 0 l)))
      (true-or-false (dirty w))

  pub back-buffers : buffers (write_back m i) ≡ buffers m
  unfolding write_back
  back-buffers = length-set m.states i _
