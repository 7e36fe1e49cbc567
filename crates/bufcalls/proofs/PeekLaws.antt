-- Peek: what its places and the look-up answer, that the offsets fit, and the part that an answer tells of.
use Prim.Native.Nat.{ℕ, zero, suc, ◌+◌, ◌*◌, ◌^◌, ◌≤◌, ◌<◌}
use native.Mathlib.Nat.{mul-le-mul_right}
use native.Mathlib.Omega.{arith}
use mathlib.Core.Path.{◌≡◌, refl, sym, ◌∙◌}
use mathlib.Core.Bool.{true, false}
use mathlib.Core.Logic.{◌≢◌, ⊎_elim}
use mathlib.Core.List.{List, []}
use lib.ListN.{length, take, drop}
use Rattle.laws.specs.First.{found}
use Rattle.laws.specs.Block.{block}
use Rattle.laws.proofs.Tests.{eq-or-ne, true-or-false}
use Rattle.laws.proofs.Block.{block_in}
use Rattle.buftag.specs.declared.name.PageName.{PageName}
use Rattle.buftag.specs.declared.number.BufferNumber.{BufferNumber}
use Rattle.std.specs.Prelude.{Some, None, Result, Ok, Err}
use Rattle.buftag.specs.Lookup.{Held}
use Rattle.buftag.specs.Lookup.{look_up}
use Rattle.bufmodel.specs.declared.answer.Peeked.{Peeked}
use Rattle.bufmodel.specs.declared.answer.Peeked.TheVariants.{InPool, InStore}
use Rattle.bufmodel.specs.declared.refusal.Refusal.{Refusal}
use Rattle.bufmodel.specs.declared.refusal.Refusal.TheVariants.{Checksum}
use Rattle.bufmodel.specs.Refusal.{refusal_number}
use Rattle.bufmodel.specs.Checksum.{passes}
use Rattle.bufmodel.specs.Rows.{store_blocks, place_of}
use Rattle.bufmodel.specs.Memory.{Memory, buffers, size}
use Rattle.bufmodel.specs.Outcome.{Outcome, checked, done, refused}
use Rattle.bufmodel.specs.Pin.{held_in}
use Rattle.bufmodel.specs.Calls.{offset_of, part_of, part_in, part_at, part, peek}
use Rattle.bufmodel.specs.Answer.{result_number, result_words, peek_words, answer_at, peeked_at, peeked_of}
use Rattle.bufmodel.proofs.OutcomeLaws.{refusal-none}
use Rattle.bufmodel.proofs.GoodLaws.{Good, passed-good}
use Rattle.bufmodel.proofs.RefusalLaws.{refusal-not0}
use Rattle.bufmodel.proofs.AnswerLaws.{end-first, end-done, refused-all, refused-first, refused-own, done-all}
use Rattle.bufmodel.proofs.HeldLaws.{held_at}
use Rattle.bufmodel.proofs.RowsLaws.{place-in}
use Rattle.bufmodel.proofs.SizesLaws.{sized-page, sized-least}
use Rattle.bufmem.specs.Seek.{sought}
use Rattle.bufmem.proofs.SeekLaws.{name-at, page-refused, page-held, page-passes, page-differs, looked-up}

-- ---- what the code answers: the answer with its number and words
abbrev pub Says : Memory → PageName → Result Peeked Refusal → Type 0
Says m n r = (r ≡ peeked_of (peek m n)) × (result_number r ≡ (peek m n).refusal) × (result_words peek_words r ≡ (peek m n).answer)

module _ (m : Memory) (n : PageName) where
  says_refused : (r : Refusal) → peek m n ≡ refused (refusal_number r) [] m → Says m n (Err r)
  says_refused r q = let t = refused-all peek_words peeked_at r q in (t.0, t.1, t.2)

  early : (r : Refusal) → refusal_number r ≡ checked m [] → peek m n ≡ refused (refusal_number r) [] m
  unfolding peek
  early r e = refused-first m _ [] _ r e

  pub peek-early : (r : Refusal) → refusal_number r ≡ checked m [] → Says m n (Err r)
  peek-early r e = says_refused r (early r e)

  module _ (g : Good m) where
    late : (r : Refusal) → sought m.rows n ≡ Err r → peek m n ≡ refused (refusal_number r) [] m
    unfolding peek
    late r e = refused-own m _ [] _ r g (page-refused m n [] e)

    pub peek-refused : (r : Refusal) → sought m.rows n ≡ Err r → Says m n (Err r)
    peek-refused r e = says_refused r (late r e)

    module _ {at : ℕ} (e : sought m.rows n ≡ Ok at) where
      -- held, or not held and the block passes
      done_held : {b : BufferNumber} → held_in m n ≡ Some b → peek m n ≡ done (part_of m n (held_in m n)) [] m
      unfolding peek
      done_held h = end-done m _ [] _ g (page-held m n [] e h ∙ refusal-none)

      done-passed : held_in m n ≡ None → passes n.block.0 (block (size m) at m.store) ≡ true
          → peek m n ≡ done (part_of m n (held_in m n)) [] m
      unfolding peek
      done-passed h t = end-done m _ [] _ g (page-passes m n [] e h t ∙ refusal-none)

      -- or it does not
      differs : held_in m n ≡ None → passes n.block.0 (block (size m) at m.store) ≡ false
          → peek m n ≡ refused 17 [] m
      unfolding peek
      differs h t = refused-own m _ [] _ Checksum g (page-differs m n [] e h t)

      pub peek-pool : {b : BufferNumber} → look_up m.heads m.chain m.names n ≡ Some b → Says m n (Ok (InPool (b.0 * size m)))
      unfolding part_of
      peek-pool h =
          let q = sym (looked-up m g n) ∙ h in
          let d = rw q at (done_held q) in
          let t = done-all peek_words peeked_at d refl refl in
          (t.0, t.1, t.2)

      pub peek-differs : look_up m.heads m.chain m.names n ≡ None
          → passes n.block.0 (block (size m) at m.store) ≡ false
          → Says m n (Err Checksum)
      peek-differs h t = says_refused Checksum (differs (sym (looked-up m g n) ∙ h) t)

      pub peek-store : look_up m.heads m.chain m.names n ≡ None
          → passes n.block.0 (block (size m) at m.store) ≡ true
          → Says m n (Ok (InStore (at * size m)))
      unfolding part_of offset_of
      peek-store h t =
          let q = sym (looked-up m g n) ∙ h in
          let d = rw (q, (name-at m.rows n [] e).0) at (done-passed q t) in
          let s = done-all peek_words peeked_at d refl refl in
          (s.0, s.1, s.2)

    -- ---- the offsets fit, and a held page is within the pool
    pub place-small : {at : ℕ} → sought m.rows n ≡ Ok at → at * size m < 2 ^ 64
    place-small {at} e =
        let l = place-in m.rows g.sizes.rows n (name-at m.rows n [] e).0 in
        let most : at ≤ 65536 = omega (arith, g.sizes.rows.room) in
        omega (arith, (sized-page g.sizes).1, mul-le-mul_right (size m) most)

    -- so is the block in the store
    pub store_in : {at : ℕ} → sought m.rows n ≡ Ok at → (128 ≤ size m) × (at * size m + size m ≤ length m.store)
    store_in {at} e =
        let l = place-in m.rows g.sizes.rows n (name-at m.rows n [] e).0 in
        (omega (arith, sized-least g.sizes), block_in (size m) (store_blocks m.rows) at m.store g.sizes.store l)

    pub buffer-in : {b : BufferNumber} → look_up m.heads m.chain m.names n ≡ Some b
        → b.0 * size m + size m ≤ length m.pool
    buffer-in {b} h = block_in (size m) (buffers m) b.0 m.pool g.sizes.pool (held_at m n b (sym (looked-up m g n) ∙ h)).0

-- ---- the part that an answer tells of: the bytes of one block, within the pool or the store; none where the call is refused
abbrev pub Told : Memory → List ℕ → Result Peeked Refusal → Type 0
Told m xs (Ok (InPool at)) = (at + size m ≤ length m.pool) × (take (size m) (drop at m.pool) ≡ xs)
Told m xs (Ok (InStore at)) = (at + size m ≤ length m.store) × (take (size m) (drop at m.store) ≡ xs)
Told m xs (Err refusal) = [] ≡ xs

module _ (m : Memory) where
  abbrev Tells : Outcome → Type 0
  Tells o = Told m (part o) (peeked_of o)

  tells-refused : (k : ℕ) → k ≢ 0 → Tells (refused k [] m)
  unfolding part part_at answer_at
  tells-refused zero h = absurd (h refl)
  tells-refused (suc k) h = refl

  module _ (n : PageName) where
    tells-held : (g : Good m) {at : ℕ} → place_of m.rows n ≡ found at → (h : Held) → held_in m n ≡ h
        → Tells (done (part_of m n h) [] m)
    unfolding part part_at part_in part_of offset_of answer_at
    tells-held g e (Some b) q =
        (block_in (size m) (buffers m) b.0 m.pool g.sizes.pool (held_at m n b q).0, refl)
    tells-held g {at} e None q =
        let l = place-in m.rows g.sizes.rows n e in
        rw e (block_in (size m) (store_blocks m.rows) at m.store g.sizes.store l, refl)

    tells-sought : Good m → (s : Result ℕ Refusal) → sought m.rows n ≡ s → Tells (peek m n)
    tells-sought g (Err r) e = rw (late m n g r e) (tells-refused (refusal_number r) (refusal-not0 r))
    tells-sought g (Ok at) e = go (held_in m n) refl
      where
        page : (h : Held) → held_in m n ≡ h → Tells (done (part_of m n h) [] m)
        page = tells-held g (name-at m.rows n [] e).0

        go : (h : Held) → held_in m n ≡ h → Tells (peek m n)
        go (Some b) q = rw (done_held m n g e q) (page (held_in m n) refl)
        go None q =
            ⊎_elim
            (λ t. rw (done-passed m n g e q t) (page (held_in m n) refl))
            (λ f. rw (differs m n g e q f) (tells-refused 17 (omega arith)))
            (true-or-false (passes n.block.0 (block (size m) at m.store)))

    end : checked m [] ≢ 0 → peek m n ≡ refused (checked m []) [] m
    unfolding peek
    end h = end-first m _ [] _ refl h

    tells : Tells (peek m n)
    tells =
        ⊎_elim
        (λ z. tells-sought (passed-good m refl z) (sought m.rows n) refl)
        (λ h. rw (end h) (tells-refused (checked m []) h))
        (eq-or-ne (checked m []) 0)

    -- as the code has it, which takes apart the answer of peek_at
    pub told : {p : Result Peeked Refusal} → p ≡ peeked_of (peek m n) → Told m (part (peek m n)) p
    told e = rw e tells
