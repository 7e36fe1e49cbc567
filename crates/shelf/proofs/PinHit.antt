-- A pin of a page that a buffer has, where it is accepted, agrees with the shelf.
use Prim.Native.Nat.{ℕ, ◌+◌, ◌<◌}
use mathlib.Core.Path.{◌≡◌, refl, sym, ap, ◌∙◌, subst}
use mathlib.Core.Bool.{Bool, true, not, cond}
use mathlib.Core.List.{List, [], ◌∷◌}
use native.Mathlib.Omega.{arith}
use lib.Dec.{eqb}
use lib.ListN.{set, length-set}
use borrow.Author.Tests.{ne_eqb}
use Rattle.laws.specs.Sum.{ind}
use Rattle.laws.specs.First.{found, missing}
use Rattle.laws.proofs.Tests.{never}
use Rattle.laws.proofs.Sum.{ind-one}
use Rattle.std.specs.Prelude.{Some}
use Rattle.buftag.specs.declared.name.PageName.{PageName}
use Rattle.buftag.specs.declared.number.BufferNumber.{BufferNumber}
use Rattle.bufmodel.specs.Word.{pins, pinned}
use Rattle.bufmodel.specs.Rows.{store_blocks}
use Rattle.bufmodel.specs.Memory.{Memory, cap_of, word_of, with_states, with_counts}
use Rattle.bufmodel.specs.Counts.{max_holders, count_at, set_count, has_pin}
use Rattle.bufmodel.specs.Outcome.{refusal_of, done}
use Rattle.bufmodel.specs.Pin.{held_in, held_word, pin_places}
use Rattle.bufmodel.specs.Step.{Pin}
use Rattle.bufmodel.proofs.WordLaws.{Held, held-lt, pins-pinned}
use Rattle.bufmodel.proofs.RecountLaws.{hit-held, hit-pins, hit-some}
use Rattle.shelf.specs.Shelf.{with, count_with}
use Rattle.shelf.specs.Ledger.{buffer_in, wrote_in}
use Rattle.shelf.specs.Statement.{PinRule}
use Rattle.shelf.proofs.Kept.{View, shelf_of, ledger_of, Has, Kept}
use Rattle.shelf.proofs.KeptLaws.{pins-has, holds-page, holds-none}
use Rattle.shelf.proofs.WithLaws.{with-old}
use Rattle.shelf.proofs.Accepted.{Accepted}
use Rattle.shelf.proofs.HighestLaws.{highest-still}
use Rattle.shelf.proofs.NamePage.{held-has}
use Rattle.shelf.proofs.LoadKept.{view_load}
use Rattle.shelf.proofs.TurnKept.{pins-kept}
use Rattle.shelf.proofs.MemoryPlaces.{pin-holder, pin-place}
use Rattle.shelf.proofs.PinPlaces.{pin-number}
use Rattle.shelf.proofs.PinAccepted.{pin-accepted}

module _ (m : Memory) (v : View) (k : Kept m v) (o : ℕ) (n : PageName) (b : BufferNumber) (e : held_in m n ≡ Some b)
    (z : refusal_of (pin_places m o n) ≡ 0) where
  -- the answer, the word, the holder's count, and the place of the page
  abbrev answer : List ℕ
  answer = b.0 ∷ 1 ∷ 0 ∷ 0 ∷ []

  abbrev word : ℕ
  word = word_of m b.0

  abbrev c : ℕ
  c = count_at m.counts b.0 o

  abbrev new : ℕ
  new = held_word (cap_of m) c word

  abbrev g : ℕ
  g = (pin-place m o n z).0

  abbrev now : Memory
  now = with_counts (set_count m.counts b.0 o (c + 1)) (with_states (set m.states b.0 new) m)

  has : Has m b.0 g
  has = held-has m k.good n g (pin-place m o n z).1 b e

  few : o < max_holders
  few = pin-holder m o n z

  -- the buffer number is the one already holding the page, if it has pins, and else holds none
  hit-rule : PinRule (shelf_of m v) (done answer [] now) g
  unfolding buffer_in
  hit-rule =
      let p = pins-has m v k b.0 g has in
      record {
        below = has.below;
        had = λ t. holds-page m v k b.0 g has (sym p ∙ t);
        fresh = λ f. holds-none m v k b.0 has.below (sym p ∙ f);
      }

  held : Held (cap_of m) word
  held = k.words b.0 has.below has.full

  -- pins + 1 with the holder's first pin, and as before with a later one: at least one in any case
  more : pins new + ind (not (eqb c 0)) ≡ pins word + 1
  unfolding has_pin
  more = hit-pins m k.good o b.0 few has.below (held-lt held) has.full

  some : pinned new ≡ true
  some =
      pins-pinned new (hit-some m k.good o b.0 few has.below (held-lt held) has.full)

  hit-kept : Kept now (view_load v o b.0 g)
  unfolding has_pin
  hit-kept =
      let s = k.same b.0 g has in
      let h = hit-held m k.good o b.0 few has.below (held-lt held) has.full in
      let same : v.counts o g + 1 ≡ c + 1 = ap (λ (x : ℕ). x + 1) (s.counts o few) in
      subst (λ (x : ℕ). Kept now (record {
        bytes = v.bytes;
        counts = count_with o g x v.counts;
        holds = with b.0 (found g) v.holds;
        bad = v.bad;
        dirty = v.dirty;
        last = with b.0 (found g) v.last;
        put = v.put;
      })) (sym same)
      (pins-kept m v k b.0 g has o few new (c + 1) (found g) (with b.0 (found g) v.last) h.0 h.1
      (more ∙ ap (λ (x : ℕ). pins word + x) (sym (ind-one (ap not (ne_eqb (c + 1) 0 (λ q. omega arith))))))
      (ap (λ (t : Bool). cond t (found g) missing) (sym some))
      (with-old b.0 (found g) v.last (sym s.last)))

  -- the pin as the program makes it, accepted
  pub hit-accepted : Accepted m v (Pin o n) (b.0 ∷ 1 ∷ 0 ∷ 0 ∷ []) []
      (with_counts (set_count m.counts b.0 o (c + 1))
      (with_states (set m.states b.0 (held_word (cap_of m) c (word_of m b.0))) m))
  unfolding buffer_in wrote_in
  hit-accepted =
      pin-accepted m v o n g answer now (pin-place m o n z).1
      (record {
        number = sym (pin-number m v k o n) ∙ z;
        words = (b.0, 1, 0, 0, refl);
        rule = hit-rule;
        many = sym (length-set m.states b.0 new);
        wide = refl;
        cap = refl;
        rows = refl;
        inserted = refl;
        flushed = highest-still (ledger_of m v) m.control.flushed (store_blocks m.rows);
        kept = hit-kept;
        others = λ h l q. refl;
        long = refl;
        stored = λ h t. never t refl;
      })
