-- Give back: what one buffer gives, the first k buffers on the way, and how the call ends.
use Prim.Native.Nat.{ℕ, zero, suc, ◌+◌, ◌*◌, ◌≤◌, ◌<◌}
use native.Mathlib.Numerals.{add-one}
use native.Mathlib.Omega.{arith}
use mathlib.Core.Path.{◌≡◌, refl, sym, ap, ◌∙◌}
use mathlib.Core.Logic.{◌≢◌}
use mathlib.Core.Bool.{true}
use mathlib.Core.List.{List, [], ◌∷◌}
use lib.ListN.{length, length-set, get_or, set}
use lib.Seq.{get_or-set_other}
use borrow.Author.Tests.{le-leb, lt-leb}
use Rattle.std.specs.Prelude.{Ok, Err}
use Rattle.bufmodel.specs.declared.refusal.Refusal.{Refusal}
use Rattle.bufmodel.specs.declared.refusal.Refusal.TheVariants.{NoHolder}
use Rattle.bufmodel.specs.Refusal.{refusal_number}
use Rattle.bufmodel.specs.Word.{pinned}
use Rattle.bufmodel.specs.Memory.{Memory, buffers, word_of, with_states, with_counts}
use Rattle.bufmodel.specs.Counts.{max_holders, count_place, count_at, set_count}
use Rattle.bufmodel.specs.Outcome.{checked, done, zeros}
use Rattle.bufmodel.specs.Pin.{holder_place}
use Rattle.bufmodel.specs.Calls.{given_word, give_at, give_up_to, give_back}
use Rattle.bufmodel.proofs.WordLaws.{pins-pinned}
use Rattle.bufmodel.proofs.CountLaws.{length-set_count, count-other, pin-some}
use Rattle.bufmodel.proofs.OutcomeLaws.{refusal-at, refusal-past, refusal-none}
use Rattle.bufmodel.proofs.GoodLaws.{Good}
use Rattle.bufmodel.proofs.AnswerLaws.{AcceptedEnds, refused-first, refused-own, end-done, accepted-refused, accepted-done}
use Rattle.bufcalls.specs.Give.{pins_part, Counted}

-- ---- one buffer
pub gave : (ws cs : List ℕ) (h i : ℕ) {n w : ℕ} {states counts : List ℕ} → n ≡ count_at cs i h → w ≡ given_word n (get_or ws i 0)
    → states ≡ set ws i w
    → counts ≡ set_count cs i h 0
    → pins_part states counts ≡ give_at (pins_part ws cs) h i
unfolding give_at
gave ws cs h i n w s c = rw (c, s, w, n)

-- ---- the first k
pub give-none : (m : Memory) (h : ℕ) → m ≡ give_up_to h 0 m
unfolding give_up_to
give-none m h = refl

pub give-more : (m : Memory) (h k : ℕ) → give_at (give_up_to h k m) h k ≡ give_up_to h (k + 1) m
unfolding give_up_to
give-more m h k = rw add-one

-- memory d is m on the way: the lengths are those of before, and from buffer k on so are words and counts
pub record Way (m : Memory) (h k : ℕ) (d : Memory) : Type 0 where
  pub many : buffers d ≡ buffers m
  pub long : length d.counts ≡ length m.counts
  pub word : (i : ℕ) → k ≤ i → word_of d i ≡ word_of m i
  pub count : (i : ℕ) → k ≤ i → count_at d.counts i h ≡ count_at m.counts i h

module _ (m : Memory) (h : ℕ) (asked : Counted m h) where
  module _ (k : ℕ) (d : Memory) (x : Way m h k d) (l : k < buffers m) where
    room : k * max_holders + max_holders ≤ length d.counts
    room = omega (arith, asked.counts, x.long)

    way-more : Way m h (suc k) (give_at d h k)
    unfolding give_at
    way-more =
        record {
          many = length-set d.states k _ ∙ x.many;
          long = length-set_count d.counts k h 0 ∙ x.long;
          word = λ i q. get_or-set_other d.states k i _ 0 (λ e. omega arith) ∙ x.word i (omega arith);
          count = λ i q.
              count-other d.counts k h 0 room asked.holder i h asked.holder (λ e f. omega arith) ∙ x.count i (omega arith);
        }

    -- what the next buffer is asked for
    pub next-asked : (k < buffers d) × (count_place k h < length d.counts)
        × (count_at d.counts k h ≢ 0 → pinned (word_of d k) ≡ true)
    next-asked =
        let here : count_place k h < length d.counts = omega (arith, room, asked.holder) in
        let kept = x.count k (omega arith) in
        (omega (arith, x.many), here, λ ne. ap pinned (x.word k (omega arith)) ∙ asked.word k l (λ z. ne (kept ∙ z)))

  pub way-up-to : (k : ℕ) → k ≤ buffers m → Way m h k (give_up_to h k m)
  unfolding give_up_to
  way-up-to zero l = record { many = refl; long = refl; word = λ i q. refl; count = λ i q. refl }
  way-up-to (suc k) l = way-more k (give_up_to h k m) (way-up-to k (omega arith)) l

-- ---- the rest of the memory plays no part
abbrev onto : Memory → Memory → Memory
onto m d = with_counts d.counts (with_states d.states m)

abbrev part : Memory → Memory
part m = pins_part m.states m.counts

at-onto : (m d : Memory) (h i : ℕ) → give_at (onto m d) h i ≡ onto m (give_at d h i)
unfolding give_at
at-onto m d h i = refl

up-onto : (m : Memory) (h k : ℕ) → give_up_to h k m ≡ onto m (give_up_to h k (part m))
unfolding give_up_to
up-onto m h zero = refl
up-onto m h (suc k) = ap (λ (x : Memory). give_at x h k) (up-onto m h k) ∙ at-onto m (give_up_to h k (part m)) h k

pub good-counted : (m : Memory) (h : ℕ) → Good m → h < max_holders → Counted (part m) h
good-counted m h g few =
    record {
      holder = few;
      counts = omega (arith, g.sizes.counts);
      word = λ i l ne. pins-pinned (word_of m i) (omega (arith, g.books.counts i l, pin-some m.counts i h few ne));
    }

-- ---- the call
module _ (m : Memory) (h : ℕ) where
  pub give-early : (r : Refusal) → refusal_number r ≡ checked m [] → AcceptedEnds (Err r) m (give_back m h)
  unfolding give_back
  give-early r e = accepted-refused r (refused-first m _ [] _ r e)

  module _ (g : Good m) where
    pub give-nobody : max_holders ≤ h → AcceptedEnds (Err NoHolder) m (give_back m h)
    unfolding give_back holder_place
    give-nobody l = accepted-refused NoHolder (refused-own m _ [] _ NoHolder g (refusal-at 19 [] (le-leb max_holders h l)))

    pub give-done : h < max_holders → {states counts : List ℕ} → pins_part states counts ≡ give_up_to h (buffers m) (part m)
        → AcceptedEnds (Ok (tt {0})) (with_counts counts (with_states states m)) (give_back m h)
    unfolding give_back holder_place
    give-done few e =
        let o = done zeros [] (give_up_to h (buffers m) m) in
        let end = accepted-done (end-done m (holder_place h ∷ []) [] o g (refusal-past 19 [] (lt-leb max_holders h few) ∙ refusal-none)) in
        (end.0, end.1, end.2, ap (onto m) e ∙ sym (up-onto m h (buffers m)) ∙ end.3)
