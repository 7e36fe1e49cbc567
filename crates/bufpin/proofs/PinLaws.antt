-- Pin, put together of its parts: refused at the places 1, 2, 19, 3, 4 and 17, of a page that is held, and of another.
use Prim.Native.Nat.{ℕ, ◌+◌, ◌<◌}
use native.Mathlib.Omega.{arith}
use mathlib.Core.Path.{◌≡◌, refl, sym, ap, ap₂, ◌∙◌}
use mathlib.Core.Bool.{true, false}
use mathlib.Core.Logic.{⊎_elim}
use mathlib.Core.List.{List, [], ◌∷◌}
use lib.Dec.{eqb, ltb}
use lib.ListN.{get_or, set}
use borrow.Author.Tests.{ltb-false, le-leb, lt-leb}
use Rattle.std.specs.Prelude.{Some, None, Result, Ok, Err}
use Rattle.laws.specs.Every.{all}
use Rattle.laws.specs.Block.{block}
use Rattle.laws.proofs.Every.{all-at}
use Rattle.laws.proofs.Tests.{true-or-false}
use Rattle.buftag.specs.Lookup.{Held}
use Rattle.buftag.specs.declared.name.PageName.{PageName}
use Rattle.buftag.specs.declared.number.BufferNumber.{BufferNumber}
use Rattle.buftag.specs.Link.{link_of}
use Rattle.bufmodel.specs.declared.answer.Pinned.{Pinned}
use Rattle.bufmodel.specs.declared.refusal.Refusal.{Refusal}
use Rattle.bufmodel.specs.declared.refusal.Refusal.TheVariants.{PinCount, Checksum, NoHolder}
use Rattle.bufmodel.specs.Refusal.{refusal_number}
use Rattle.bufmodel.specs.Word.{pinned}
use Rattle.bufmodel.specs.Checksum.{passes}
use Rattle.bufmodel.specs.Memory.{Memory, buffers, size, cap_of, word_of, with_states, with_counts}
use Rattle.bufmodel.specs.Counts.{max_holders, max_count, count_at, set_count}
use Rattle.bufmodel.specs.Outcome.{Outcome, Place, place, refusal_of, checked, outcome}
use Rattle.bufmodel.specs.Answer.{answer_at, pinned_at, pinned_of}
use Rattle.bufmodel.specs.Pin.{holder_place, count_full, no_victim, held_in, page_places, pin_places, held_word}
use Rattle.bufmodel.specs.Pin.{pin_held, pin_victim, pin_swept, pin_new, pin_to, pin}
use Rattle.bufmodel.proofs.OutcomeLaws.{refusal-past, refusal-at, refusal-none, outcome-done, outcome-refused}
use Rattle.bufmodel.proofs.GoodLaws.{Good, checked-good}
use Rattle.bufmodel.proofs.AnswerLaws.{refused-says, refused-first, refused-at}
use Rattle.bufmodel.proofs.HeldLaws.{pinned-full}
use Rattle.bufmodel.proofs.FreeListLaws.{top-full}
use Rattle.bufmem.specs.Seek.{sought}
use Rattle.bufmem.proofs.SeekLaws.{page-refused, page-held, page-passes, page-differs}
use Rattle.bufpin.specs.Pin.{held_at, held_words, held_counts}
use Rattle.bufpin.proofs.SweptLaws.{swept-stuck}
use Rattle.bufpin.proofs.NewLaws.{new-swept}

-- ---- a held page, of which the holder has not the most pins
more-answer : (i c : ℕ) → eqb c max_count ≡ false
    → held_at i c ≡ Ok (record { buffer = record { 0 = i }; hit = true; wrote = false; probes = 0 })
unfolding held_at
more-answer i c f = rw f

more-words : (cap : ℕ) (words : List ℕ) (i c : ℕ) → eqb c max_count ≡ false
    → held_words cap words i c ≡ set words i (held_word cap c (get_or words i 0))
unfolding held_words
more-words cap words i c f = rw f

more-counts : (counts : List ℕ) (i h : ℕ) → eqb (count_at counts i h) max_count ≡ false
    → held_counts counts i h ≡ set_count counts i h (count_at counts i h + 1)
unfolding held_counts
more-counts counts i h f = rw f

-- ---- the pin
-- the last two places
abbrev last_places : Memory → ℕ → Held → List Place
last_places m h b = place 5 (count_full m h b) ∷ place 6 (no_victim m b) ∷ []

module _ (m : Memory) (h : ℕ) (n : PageName) where
  -- what the code has to show of the answer, and of the memory
  abbrev Says : Result Pinned Refusal → Memory → Type 0
  Says a o = (a ≡ pinned_of (pin m h n)) × (o ≡ (pin m h n).after)

  pub pin-refused : (r : Refusal) → checked m (pin_places m h n) ≡ refusal_number r → Says (Err r) m
  unfolding pin
  pin-refused r e = refused-says pinned_at r (refused-at m _ [] _ r (sym e))

  pub pin-early : (r : Refusal) → refusal_number r ≡ checked m [] → Says (Err r) m
  unfolding pin
  pin-early r e = refused-says pinned_at r (refused-first m _ [] _ r e)

  -- the page's places, behind the holder's
  abbrev own_places : List Place
  own_places = page_places m n (last_places m h (held_in m n))

  module _ (good : Good m) where
    -- no such holder
    pub pin-stranger : ltb h max_holders ≡ false → Says (Err NoHolder) m
    unfolding pin_places holder_place
    pin-stranger e =
        pin-refused NoHolder
        (checked-good m good (pin_places m h n) ∙ refusal-at 19 own_places (le-leb max_holders h (ltb-false h max_holders e)))

    module _ (few : h < max_holders) where
      checked-own : checked m (pin_places m h n) ≡ refusal_of own_places
      unfolding pin_places holder_place
      checked-own = checked-good m good (pin_places m h n) ∙ refusal-past 19 own_places (lt-leb max_holders h few)

      pub pin-nameless : (r : Refusal) → sought m.rows n ≡ Err r → Says (Err r) m
      pin-nameless r e = pin-refused r (checked-own ∙ page-refused m n (last_places m h (held_in m n)) e)

      module _ {g : ℕ} (at : sought m.rows n ≡ Ok g) where
        -- the number is that of the last two places, where the page is held, or its block passes
        last : (b : Held) → held_in m n ≡ b → refusal_of own_places ≡ refusal_of (last_places m h (held_in m n))
            → checked m (pin_places m h n) ≡ refusal_of (last_places m h b)
        last b e past = checked-own ∙ past ∙ ap (λ (x : Held). refusal_of (last_places m h x)) e

        last-held : (b : BufferNumber) → held_in m n ≡ Some b → checked m (pin_places m h n) ≡ refusal_of (last_places m h (Some b))
        last-held b e = last (Some b) e (page-held m n (last_places m h (held_in m n)) at e)

        last-new : held_in m n ≡ None → passes n.block.0 (block (size m) g m.store) ≡ true
            → checked m (pin_places m h n) ≡ refusal_of (last_places m h None)
        last-new e t = last None e (page-passes m n (last_places m h (held_in m n)) at e t)

        accepted : (b : Held) → held_in m n ≡ b → checked m (pin_places m h n) ≡ refusal_of (last_places m h b) → count_full m h b ≡ false
            → no_victim m b ≡ false
            → pin m h n ≡ pin_to m h n b
        unfolding pin
        accepted b e l five six =
            outcome-done [] m (pin_to m h n (held_in m n)) (l ∙ refusal-past 5 _ five ∙ refusal-past 6 [] six ∙ refusal-none)
            ∙ ap (pin_to m h n) e

        -- a block whose checksum differs
        pub pin-differs : held_in m n ≡ None → passes n.block.0 (block (size m) g m.store) ≡ false
            → Says (Err Checksum) m
        pin-differs e t = pin-refused Checksum (checked-own ∙ page-differs m n (last_places m h (held_in m n)) at e t)

        -- a page that is held
        pub pin-held : (b : BufferNumber) → held_in m n ≡ Some b
            → let c = count_at m.counts b.0 h in
            Says (held_at b.0 c)
            (with_counts (held_counts m.counts b.0 h) (with_states (held_words (cap_of m) m.states b.0 c) m))
        unfolding held_at held_words held_counts count_full no_victim pin_to pin_held answer_at
        pin-held b e =
            let c = count_at m.counts b.0 h in
            ⊎_elim
            (λ t. rw t (pin-refused PinCount (last-held b e ∙ refusal-at 5 _ t)))
            (λ f.
            let a = accepted (Some b) e (last-held b e) f refl in (
              more-answer b.0 c f ∙ sym (ap pinned_of a),
              ap₂ (λ (x y : List ℕ). with_counts x (with_states y m)) (more-counts m.counts b.0 h f)
                  (more-words (cap_of m) m.states b.0 c f)
                  ∙ sym (ap (λ (o : Outcome). o.after) a),
            ))
            (true-or-false (eqb c max_count))

        -- another
        pub pin-new : held_in m n ≡ None → passes n.block.0 (block (size m) g m.store) ≡ true
            → pin m h n ≡ pin_new m h n (link_of m.control.top)
        unfolding pin count_full no_victim pin_to pin_swept pin_victim
        pin-new e sum =
            ⊎_elim
            (λ t.
            let all-pinned = all-at (λ i. pinned (word_of m i)) (buffers m) t in
            let top = top-full m good (λ i l. pinned-full m i (all-pinned i l)) in
            ap (λ k. outcome k [] m (pin_to m h n (held_in m n))) (last-new e sum ∙ refusal-past 5 _ refl ∙ refusal-at 6 [] t)
            ∙ outcome-refused [] m (pin_to m h n (held_in m n)) 6 (omega arith)
            ∙ sym (new-swept m h n top ∙ rw (swept-stuck m good all-pinned).0))
            (λ f. accepted None e (last-new e sum) refl f)
            (true-or-false (all (buffers m) (λ i. pinned (word_of m i))))
