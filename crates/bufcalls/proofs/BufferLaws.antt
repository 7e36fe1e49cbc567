-- Laws of the calls on a buffer: what a passed check gives, what a refused call leaves and what an accepted one does.
use Prim.Native.Nat.{ℕ, ◌+◌, ◌-◌, ◌*◌, ◌≤◌, ◌<◌}
use mathlib.Core.Path.{◌≡◌, sym, ap, ◌∙◌}
use mathlib.Core.Bool.{Bool, true, not, ◌||◌}
use mathlib.Core.Logic.{◌≢◌}
use mathlib.Core.List.{List, [], ◌∷◌}
use native.Mathlib.Omega.{arith}
use lib.Dec.{eqb, leb, ltb}
use lib.ListN.{length, set, take, drop}
use borrow.Author.Tests.{eq-eqb, ne_eqb, eqb-false, lt-leb, le-leb, lt-ltb, le-ltb, leb-false, ltb-false, not-true, not-false}
use Rattle.laws.specs.Block.{put_block}
use Rattle.laws.proofs.Tests.{or-neither}
use Rattle.std.specs.Prelude.{Ok, Err}
use Rattle.bufmodel.specs.declared.refusal.Refusal.{Refusal}
use Rattle.bufmodel.specs.Refusal.{refusal_number}
use Rattle.bufmodel.specs.Word.{pinned, make_dirty}
use Rattle.bufmodel.specs.Position.{position, written}
use Rattle.bufmodel.specs.Memory.{Memory, buffers, size, word_of, page_of, with_states, with_pool, with_counts}
use Rattle.bufmodel.specs.Counts.{max_holders, count_at, set_count, has_pin}
use Rattle.bufmodel.specs.Books.{sound}
use Rattle.bufmodel.specs.Sizes.{sized}
use Rattle.bufmodel.specs.Outcome.{Place, place, refusal_of, checked, done, zeros}
use Rattle.bufmodel.specs.Pin.{holder_place}
use Rattle.bufmodel.specs.Calls.{buffer_places, less_word, unpin_at, unpin, read, write_places, write_to, write}
use Rattle.bufmodel.proofs.OutcomeLaws.{refusal-past, refusal-at, refusal-none, refusal-passed, refusal-first, outcome-done}
use Rattle.bufmodel.proofs.WordLaws.{pins-pinned}
use Rattle.bufmodel.proofs.CountLaws.{pin-some}
use Rattle.bufmodel.proofs.SizesLaws.{sized-page}
use Rattle.bufmodel.proofs.GoodLaws.{Good, checked-good, checked-passed}
use Rattle.bufmodel.proofs.AnswerLaws.{AcceptedEnds, accepted-refused, accepted-done, refused-at, bytes-refused}
use Rattle.bufmoves.proofs.WholeLaws.{page-in}

-- ---- the places
-- a good memory, and a buffer of it on which there is a pin of the holder: the places 1, 2, 19, 7 and 8 passed
pub record Held (m : Memory) (h i : ℕ) : Type 0 where
  pub good : Good m
  pub holder : h < max_holders
  pub within : i < buffers m
  pub held : has_pin m.counts i h ≡ true

module _ (m : Memory) (h i : ℕ) where
  pub buffer-early : (later : List Place) {k : ℕ} → k ≡ checked m (buffer_places m h i []) → k ≢ 0
      → k ≡ checked m (buffer_places m h i later)
  unfolding checked buffer_places
  buffer-early later e n =
      e
      ∙ sym
      (refusal-first
      (place 1 (not (sized m))
      ∷ place 2 (not (sound m))
      ∷ holder_place h
      ∷ place 7 (leb (buffers m) i)
      ∷ place 8 (not (has_pin m.counts i h))
      ∷ [])
      later (λ z. n (e ∙ z)))

  module _ (g : Good m) where
    pub buffer-nobody : max_holders ≤ h → 19 ≡ checked m (buffer_places m h i [])
    unfolding buffer_places holder_place
    buffer-nobody l = sym (checked-good m g _ ∙ refusal-at 19 _ (le-leb max_holders h l))

    module _ (few : h < max_holders) where
      past : (later : List Place) → checked m (buffer_places m h i later)
          ≡ refusal_of (place 7 (leb (buffers m) i) ∷ place 8 (not (has_pin m.counts i h)) ∷ later)
      unfolding buffer_places holder_place
      past later = checked-good m g _ ∙ refusal-past 19 _ (lt-leb max_holders h few)

      pub buffer-outside : buffers m ≤ i → 7 ≡ checked m (buffer_places m h i [])
      buffer-outside l = sym (past [] ∙ refusal-at 7 _ (le-leb (buffers m) i l))

      module _ (l : i < buffers m) where
        -- where its count of the buffer stands
        pub count-in : i * max_holders + h < length m.counts
        count-in = omega (arith, g.sizes.counts)

        within : (later : List Place) → checked m (buffer_places m h i later)
            ≡ refusal_of (place 8 (not (has_pin m.counts i h)) ∷ later)
        within later = past later ∙ refusal-past 7 _ (lt-leb (buffers m) i l)

        pub buffer-unpinned : count_at m.counts i h ≡ 0 → 8 ≡ checked m (buffer_places m h i [])
        unfolding has_pin
        buffer-unpinned z = sym (within [] ∙ refusal-at 8 [] (ap (λ (t : Bool). not (not t)) (eq-eqb _ 0 z)))

        pub buffer-pinned : count_at m.counts i h ≢ 0 → 0 ≡ checked m (buffer_places m h i [])
        unfolding has_pin
        buffer-pinned n =
            sym (within [] ∙ refusal-past 8 [] (ap (λ (t : Bool). not (not t)) (ne_eqb _ 0 n)) ∙ refusal-none)

  pub buffer-later : Held m h i → (later : List Place) → checked m (buffer_places m h i later) ≡ refusal_of later
  buffer-later k later = within k.good k.holder k.within later ∙ refusal-past 8 later (ap not k.held)

  pub buffer_held : {k : ℕ} → k ≡ checked m (buffer_places m h i []) → k ≡ 0 → Held m h i
  unfolding buffer_places holder_place
  buffer_held e z =
      let t = not (has_pin m.counts i h) in
      let g = checked-passed m _ e z in
      let o = refusal-passed 19 (leb max_holders h) (place 7 (leb (buffers m) i) ∷ place 8 t ∷ []) (omega arith) g.1 in
      let a = refusal-passed 7 (leb (buffers m) i) (place 8 t ∷ []) (omega arith) o.1 in
      let b = refusal-passed 8 t [] (omega arith) a.1 in
      record {
        good = g.0;
        holder = leb-false max_holders h o.0;
        within = leb-false (buffers m) i a.0;
        held = not-false (has_pin m.counts i h) b.0;
      }

-- ---- its word and counts
module _ (m : Memory) (h i : ℕ) (k : Held m h i) where
  pub held_in_is : i * max_holders + h < length m.counts
  held_in_is = count-in m h i k.good k.holder k.within

  pub held-count : count_at m.counts i h ≢ 0
  unfolding has_pin
  held-count = eqb-false _ 0 (not-true _ k.held)

  -- one holder with a pin is enough
  pub held-pinned : pinned (word_of m i) ≡ true
  held-pinned =
      pins-pinned (word_of m i)
      (omega (arith, k.good.books.counts i k.within, pin-some m.counts i h k.holder held-count))

-- ---- its page
module _ (m : Memory) (h i : ℕ) (k : Held m h i) where
  pub held-page : 8 ≤ size m
  held-page = (sized-page k.good.sizes).0

  pub held-pool : i * size m + size m ≤ length m.pool
  held-pool = page-in m k.good i k.within

-- ---- unpin
module _ (m : Memory) (h i : ℕ) where
  pub unpin-refused : (r : Refusal) → refusal_number r ≡ checked m (buffer_places m h i []) → AcceptedEnds (Err r) m (unpin m h i)
  unfolding unpin
  unpin-refused r e = accepted-refused r (refused-at m _ [] _ r e)

  pub unpin-done : Held m h i → {c w : ℕ} {states counts : List ℕ} → c ≡ count_at m.counts i h → w ≡ less_word c (word_of m i)
      → states ≡ set m.states i w
      → counts ≡ set_count m.counts i h (c - 1)
      → AcceptedEnds (Ok (tt {0})) (with_counts counts (with_states states m)) (unpin m h i)
  unfolding unpin unpin_at
  unpin-done k c w s t =
      let z = buffer-later m h i k [] ∙ refusal-none in
      rw (t, s, w, c) (accepted-done (outcome-done [] m (done zeros [] (unpin_at m h i)) z))

-- ---- read
module _ (m : Memory) (h i from : ℕ) (bytes : List ℕ) where
  abbrev read_places : List Place
  read_places = place 9 (ltb (size m) (from + length bytes)) ∷ []

  pub read-refused : (r : Refusal) → refusal_number r ≡ checked m (buffer_places m h i read_places)
      → AcceptedEnds (Err r) m (read m h i from bytes) × (bytes ≡ (read m h i from bytes).bytes)
  unfolding read
  read-refused r e =
      let q = refused-at m (buffer_places m h i read_places) bytes _ r e in
      (accepted-refused r q, bytes-refused q)

  pub read-outside : Held m h i → size m < from + length bytes → 9 ≡ checked m (buffer_places m h i read_places)
  read-outside k l = sym (buffer-later m h i k read_places ∙ refusal-at 9 [] (lt-ltb _ _ l))

  pub read_done : Held m h i → from + length bytes ≤ size m → {xs : List ℕ} → xs ≡ take (length bytes) (drop from (page_of m i))
      → AcceptedEnds (Ok (tt {0})) m (read m h i from bytes) × (xs ≡ (read m h i from bytes).bytes)
  unfolding read
  read_done k l e =
      let o = done zeros (take (length bytes) (drop from (page_of m i))) m in
      let z = buffer-later m h i k read_places ∙ refusal-past 9 [] (le-ltb _ _ l) ∙ refusal-none in
      let d = outcome-done bytes m o z in
      (accepted-done d, rw (e, d))

-- ---- write
module _ (m : Memory) (h i from : ℕ) (bytes : List ℕ) (at : ℕ) where
  -- its places behind those of every call on a buffer
  abbrev range_test : Bool
  range_test = ltb (size m) (from + length bytes) || ltb from 8

  abbrev bytes_places : List Place
  bytes_places =
      place 10 (eqb (length bytes) 0) ∷ place 11 (ltb m.control.inserted at) ∷ place 12 (ltb at (position (page_of m i))) ∷ []

  pub write-early : {k : ℕ} → k ≡ checked m (buffer_places m h i []) → k ≢ 0 → k ≡ checked m (write_places m h i from bytes at)
  unfolding write_places
  write-early e n = buffer-early m h i (place 9 range_test ∷ bytes_places) e n

  pub write-later : Held m h i → {k : ℕ} → k ≡ refusal_of (place 9 range_test ∷ bytes_places) → k ≡ checked m (write_places m h i from bytes at)
  unfolding write_places
  write-later k e = e ∙ sym (buffer-later m h i k (place 9 range_test ∷ bytes_places))

  -- where none of them refuses, the bytes lie within the page
  pub write-range : {k : ℕ} → k ≡ refusal_of (place 9 range_test ∷ bytes_places) → k ≡ 0 → from + length bytes ≤ size m
  write-range e z =
      let t = (refusal-passed 9 range_test bytes_places (omega arith) (sym e ∙ z)).0 in
      ltb-false (size m) (from + length bytes) (or-neither (ltb (size m) (from + length bytes)) (ltb from 8) t).0

  pub write-refused : (r : Refusal) → refusal_number r ≡ checked m (write_places m h i from bytes at)
      → AcceptedEnds (Err r) m (write m h i from bytes at)
  unfolding write
  write-refused r e = accepted-refused r (refused-at m _ bytes _ r e)

  pub write_done : 0 ≡ checked m (write_places m h i from bytes at) → {pool states : List ℕ} {w : ℕ}
      → pool ≡ put_block (size m) i (written at from bytes (page_of m i)) m.pool
      → w ≡ make_dirty (word_of m i)
      → states ≡ set m.states i w
      → AcceptedEnds (Ok (tt {0})) (with_pool pool (with_states states m)) (write m h i from bytes at)
  unfolding write write_to
  write_done e p q s =
      let o = done zeros bytes (write_to m i from bytes at) in
      rw (p, s, q) (accepted-done (outcome-done bytes m o (sym e)))
