-- Unpin agrees with the shelf.
use Prim.Native.Nat.{ℕ, ◌+◌, ◌-◌, ◌<◌}
use mathlib.Core.Path.{◌≡◌, refl, sym, ap, ◌∙◌, subst}
use mathlib.Core.Bool.{Bool, not, cond}
use mathlib.Core.Logic.{◌≢◌}
use mathlib.Core.List.{[]}
use lib.Dec.{eqb}
use lib.ListN.{set, length-set}
use Rattle.laws.specs.Sum.{ind}
use Rattle.laws.specs.First.{Found, found, missing}
use Rattle.laws.proofs.Tests.{never}
use Rattle.bufmodel.specs.Word.{pins, pinned}
use Rattle.bufmodel.specs.Rows.{store_blocks}
use Rattle.bufmodel.specs.Memory.{Memory, buffers, word_of, with_states, with_counts}
use Rattle.bufmodel.specs.Counts.{max_holders, count_at, set_count, has_pin, holders_of}
use Rattle.bufmodel.specs.Outcome.{refusal_of, zeros, done}
use Rattle.bufmodel.specs.Calls.{buffer_places, less_word, unpin_at, unpin}
use Rattle.bufmodel.specs.Step.{Unpin, step}
use Rattle.bufmodel.proofs.WordLaws.{held-lt}
use Rattle.bufmodel.proofs.CountLaws.{pin-one}
use Rattle.bufmodel.proofs.RecountLaws.{less-held, less-pins, less-holders}
use Rattle.shelf.specs.Shelf.{Shelf, with, places, refuses, with_pins, count_with, still_held, unpinned_at, shelf_after}
use Rattle.shelf.specs.Ledger.{back_by, new_by, put_by, dirtied_by, dirty_after, last_after, said_flushed, flushed_after, accepted_by}
use Rattle.shelf.proofs.CallKinds.{not-checkpoint}
use Rattle.shelf.proofs.Kept.{View, shelf_of, ledger_of, Kept, Ended}
use Rattle.shelf.proofs.KeptLaws.{pins-in}
use Rattle.shelf.proofs.ShelfPlaces.{refuses-is}
use Rattle.shelf.proofs.Refused.{neither-none, call_step}
use Rattle.shelf.proofs.Accepted.{Accepted, accepted-ended}
use Rattle.shelf.proofs.HighestLaws.{highest-still}
use Rattle.shelf.proofs.MemoryPlaces.{number_passed}
use Rattle.shelf.proofs.BufferPlaces.{PinnedPage, number-neither, number-page, number_same}
use Rattle.shelf.proofs.TurnKept.{new-counts, pins-kept}

module _ (m : Memory) (v : View) (k : Kept m v) (o i : ℕ) where
  abbrev c : ℕ
  c = count_at m.counts i o

  abbrev m' : Memory
  m' = with_counts (set_count m.counts i o (c - 1)) (with_states (set m.states i (less_word c (word_of m i))) m)

  -- the view with another shelf
  abbrev on : Shelf → View
  on s = record { bytes = s.bytes; counts = s.counts; holds = s.holds; bad = s.bad; dirty = v.dirty; last = v.last; put = v.put }

  -- the holder has a pin on the buffer
  module _ (few : o < max_holders) (l : i < buffers m) (some : c ≢ 0) (p : PinnedPage m v i) where
    abbrev g : ℕ
    g = p.page

    abbrev now : ℕ → ℕ → ℕ
    now = count_with o g (c - 1) v.counts

    -- where the word has no pins afterwards, the page has none, and its number holds none
    still : still_held now (found g) ≡ cond (pinned (less_word c (word_of m i))) (found g) missing
    unfolding still_held pinned
    still =
        ap (λ (t : Bool). cond t (found g) missing)
        (pins-in now (set_count m.counts i o (c - 1)) i g (new-counts m v k i g p.has o few (c - 1))
        ∙ ap (λ (n : ℕ). not (eqb n 0)) (sym own-pins))
      where
        own-pins : pins (less_word c (word_of m i)) ≡ holders_of (set_count m.counts i o (c - 1)) i
        own-pins = less-holders m k.good o i few l (held-lt p.word) some

    less-more : pins (less_word c (word_of m i)) + ind (has_pin m.counts i o) ≡ pins (word_of m i) + ind (not (eqb (c - 1) 0))
    less-more =
        ap (λ (x : ℕ). pins (less_word c (word_of m i)) + x) (pin-one m.counts i o some)
        ∙ less-pins m k.good o i few l (held-lt p.word) some

    unpin-kept : Kept m' (on (unpinned_at (shelf_of m v) o i (v.holds i)))
    unfolding unpinned_at
    unpin-kept =
        let w = less-held m k.good o i few l (held-lt p.word) some in
        let same : v.counts o g - 1 ≡ c - 1 = ap (λ (x : ℕ). x - 1) (p.same.counts o few) in
        subst (λ (f : Found). Kept m' (on (unpinned_at (shelf_of m v) o i f))) (sym p.holds)
        (subst (λ (x : ℕ).
        Kept m'
        (on
        (with_pins (count_with o g x v.counts)
        (with i (still_held (count_with o g x v.counts) (found g)) v.holds) (shelf_of m v)))) (sym same)
        (pins-kept m v k i g p.has o few (less_word c (word_of m i)) (c - 1) (still_held now (found g)) v.last w.0 w.1
        less-more still (λ j. refl)))

  unpin-number : refusal_of (buffer_places m o i []) ≡ refuses (shelf_of m v) (Unpin o i)
  unfolding places
  unpin-number = number_same m v k o i [] [] (λ h e. refl) ∙ sym (refuses-is _ _)

  unpin-accepted : refusal_of (buffer_places m o i []) ≡ 0 → Accepted m v (Unpin o i) zeros [] m'
  unfolding accepted_by shelf_after unpinned_at dirty_after dirtied_by back_by new_by put_by last_after flushed_after said_flushed
  unpin-accepted e =
      let p = number-page m v k o i [] e in
      let q = number_passed m o i [] e in
      record {
        number = sym unpin-number ∙ e;
        answers = refl;
        shows = refl;
        many = sym (length-set m.states i (less_word c (word_of m i)));
        wide = refl;
        cap = refl;
        rows = ap (λ (f : Found). (unpinned_at (shelf_of m v) o i f).rows) p.holds;
        inserted = ap (λ (f : Found). (unpinned_at (shelf_of m v) o i f).inserted) p.holds;
        flushed = highest-still (ledger_of m v) m.control.flushed (store_blocks m.rows);
        kept = unpin-kept q.3 q.0 q.1 p;
        others = λ g b z. refl;
        long = refl;
        stored = λ g t. never t refl;
        settled = λ q. absurd (not-checkpoint refl q);
      }

  pub unpin-step : Ended m v (Unpin o i) (step m (Unpin o i))
  unfolding step unpin unpin_at
  unpin-step =
      call_step m v (Unpin o i) k (buffer_places m o i []) (done zeros [] m') refl unpin-number (number-neither m o i [] neither-none)
      (λ e. accepted-ended m v (Unpin o i) zeros [] m' (unpin-accepted e))
