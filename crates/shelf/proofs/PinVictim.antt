-- A pin that takes the victim of a sweep agrees with the shelf: a dirty one is written back, it is released, the page is loaded there.
use Prim.Native.Nat.{ℕ, ◌<◌}
use mathlib.Core.Path.{◌≡◌, refl, sym, ap, ◌∙◌, subst}
use mathlib.Core.Bool.{Bool, true, false}
use mathlib.Core.List.{List, [], ◌∷◌}
use lib.Dec.{eqb}
use Rattle.laws.specs.Sum.{ind}
use Rattle.laws.specs.First.{found}
use Rattle.laws.specs.Block.{block}
use Rattle.laws.proofs.First.{found-same}
use Rattle.laws.proofs.Tests.{and_right}
use Rattle.buftag.specs.declared.link.Link.TheVariants.{End}
use Rattle.std.specs.Prelude.{None}
use Rattle.buftag.specs.declared.name.PageName.{PageName}
use Rattle.buftag.specs.Link.{link_of}
use Rattle.bufmodel.specs.Word.{pinned, dirty}
use Rattle.bufmodel.specs.Checksum.{bare}
use Rattle.bufmodel.specs.Rows.{store_blocks, place_of}
use Rattle.bufmodel.specs.Memory.{Memory, buffers, size, cap_of, word_of, name_of, with_states, with_counts, with_hand}
use Rattle.bufmodel.specs.Counts.{max_holders, set_count}
use Rattle.bufmodel.specs.Sweep.{Swept, Sweeps, sweep_all}
use Rattle.bufmodel.specs.Moves.{write_back, release, load_at, load}
use Rattle.bufmodel.specs.Pin.{held_in}
use Rattle.bufmodel.specs.Step.{Pin}
use Rattle.bufmodel.proofs.RowsLaws.{place-in}
use Rattle.bufmodel.proofs.SweepLaws.{SweptFrom}
use Rattle.bufmodel.proofs.LessUsedLaws.{less-pinned, less-dirty}
use Rattle.bufmodel.proofs.ReleaseLaws.{release-buffers, release-top}
use Rattle.bufmodel.proofs.FreeListLaws.{top-end}
use Rattle.bufmodel.proofs.LoadLaws.{loaded_for, load_is, load-buffers}
use Rattle.shelf.specs.Shelf.{refuses}
use Rattle.shelf.specs.Ledger.{buffer_in, wrote_in}
use Rattle.shelf.proofs.PublishedPin.{sweep-published}
use Rattle.shelf.proofs.Kept.{View, shelf_of, ledger_of, Has, Nobody, Kept}
use Rattle.shelf.proofs.KeptLaws.{is_place-true, has-page}
use Rattle.shelf.proofs.Accepted.{Accepted}
use Rattle.shelf.proofs.SweptKept.{swept_in, swept-from, swept-has, has-swept, kept-swept}
use Rattle.shelf.proofs.ReleaseKept.{has-release, kept-release}
use Rattle.shelf.proofs.NamePage.{held-nobody, nobody-held}
use Rattle.shelf.proofs.LoadKept.{view_load, kept-load}
use Rattle.shelf.proofs.PinAccepted.{was_last, view_wrote, highest-last, PinAccepted, new-rule, pin-accepted}
use Rattle.shelf.proofs.BackKept.{back-buffers}
use Rattle.shelf.proofs.VictimBack.{Backed, victim-backed}

-- whether it wrote, read off the answer
wrote-ind : (d : Bool) → eqb (ind d) 1 ≡ d
wrote-ind true = refl
wrote-ind false = refl

-- ---- the sweep
abbrev pub sweep_of : Memory → Swept
sweep_of m = sweep_all (cap_of m) m.states m.control.hand

-- ---- a buffer with a clean unpinned page is released, and another page that no buffer has is loaded there
module _ (m : Memory) (v : View) (k : Kept m v) (w h : ℕ) (own : Has m w h) (free : pinned (word_of m w) ≡ false)
    (clean : dirty (word_of m w) ≡ false) (o : ℕ) (few : o < max_holders) (n : PageName) (g : ℕ)
    (place : place_of m.rows n ≡ found g) (none : Nobody m g) (fine : v.bad g ≡ false) where
  released : Kept (release m w) v
  released = kept-release m v k w h own free clean

  released-place : place_of (release m w).rows n ≡ found g
  unfolding release
  released-place = place

  changed-is : load (release m w) n ≡ load_at (release m w) n w g
  changed-is = load_is (release m w) n w g (release-top m w) released-place

  kept-changed : Kept (loaded_for (release m w) o n w g) (view_load v o w g)
  kept-changed =
      kept-load (release m w) v released o few n w g (release-top m w) released-place
      (nobody-held (release m w) released.good n g released-place (λ i x. none i (has-release m w own.below i g x).1)) fine

-- ---- the victim
module _ (m : Memory) (v : View) (k : Kept m v) (o : ℕ) (few : o < max_holders) (n : PageName) (w g : ℕ) (new : held_in m n ≡ None)
    (top : link_of m.control.top ≡ End) (place : place_of m.rows n ≡ found g) (fine : v.bad g ≡ false) where
  abbrev s : Swept
  s = sweep_of m

  abbrev answer : List ℕ
  answer = w ∷ 0 ∷ ind (dirty (word_of m w)) ∷ s.probes ∷ []

  -- the memory after the sweep, and after its victim was written back
  abbrev swept : Memory
  swept = swept_in m s

  abbrev backed : Memory
  backed = write_back swept w

  sweeps : Sweeps (buffers m) 0 m.control.hand m.states s
  sweeps = (sweep-published m k.good.books).0

  from : SweptFrom m.states s
  from = swept-from m v k s sweeps

  module _ (victim : s.victim ≡ found w) where
    below : w < buffers m
    below = (from.taken w victim).0

    -- its page
    page : (h : ℕ) × Has m w h
    page = has-page m k.good w below (top-end m k.good top w below)

    back : Backed swept backed v w page.0 (wrote_in answer)
    unfolding wrote_in
    back =
        victim-backed swept v (kept-swept m v k s sweeps) w page.0 (swept-has m v k s sweeps w page.0 page.1)
        (from.taken w victim).1 (wrote_in answer)
        (less-dirty (from.each w) ∙ sym (wrote-ind (dirty (word_of m w))))

    none : Nobody backed g
    none =
        back.nobody g
        (λ i x. held-nobody m k.good n g place new i (has-swept m v k s sweeps i g x))

    backed-place : place_of backed.rows n ≡ found g
    unfolding write_back
    backed-place = place

    abbrev after : Memory
    after = loaded_for (release backed w) o n w g

    after_is : with_counts (set_count m.counts w o 1) (load (release backed w) n) ≡ after
    unfolding release write_back
    after_is =
        ap (with_counts (set_count m.counts w o 1))
        (changed-is backed _ back.kept w page.0 back.has back.free back.clean o few n g backed-place none fine)

    after_kept : Kept after (view_load (view_wrote v (wrote_in answer) w) o w g)
    after_kept = kept-changed backed _ back.kept w page.0 back.has back.free back.clean o few n g backed-place none fine

    after-many : buffers m ≡ buffers after
    after-many =
        sym (load-buffers (release backed w) n w g ∙ release-buffers backed w ∙ back-buffers swept w ∙ from.same_length)

    -- the page that was written back is in the store
    last-is : (h : ℕ) → was_last v (wrote_in answer) w h ≡ true → v.last w ≡ found h
    last-is h t = is_place-true (v.last w) h (and_right (wrote_in answer) _ t)

    victim-stored : (h : ℕ) → page.0 ≡ h → bare (block (size m) h backed.store) ≡ bare (v.bytes h)
    unfolding write_back
    victim-stored h e =
        subst (λ (j : ℕ). bare (block (size m) j backed.store) ≡ bare (v.bytes j)) e
        (let same = back.kept.same w page.0 back.has in same.clean back.clean ∙ sym same.bytes)

    victim-new : refuses (shelf_of m v) (Pin o n) ≡ 0 → PinAccepted m v o n g answer after
    unfolding load_at release write_back buffer_in
    victim-new number =
        record {
          number = number;
          words = (w, 0, ind (dirty (word_of m w)), s.probes, refl);
          rule = new-rule m v k g (held-nobody m k.good n g place new) w below
              (sym (less-pinned (from.each w)) ∙ (from.taken w victim).1) _ _;
          many = after-many;
          wide = refl;
          cap = refl;
          rows = refl;
          inserted = refl;
          flushed = highest-last (ledger_of m v) v (wrote_in answer) w page.0 m.control.flushed (store_blocks m.rows)
              (k.same w page.0 page.1).last (place-in m.rows k.good.sizes.rows (name_of m w) page.1.place)
              ∙ sym back.flushed;
          kept = after_kept;
          others = λ x l e. back.others x e;
          long = back.long;
          stored = λ h t. victim-stored h (found-same (sym (k.same w page.0 page.1).last ∙ last-is h t));
        }

  -- the pin as the program makes it, accepted
  pub victim-accepted : s.victim ≡ found w → refuses (shelf_of m v) (Pin o n) ≡ 0
      → let m' = load (release (write_back (with_hand s.hand (with_states s.words m)) w) w) n in
      Accepted m v (Pin o n) answer [] (with_counts (set_count m.counts w o 1) m')
  victim-accepted victim number =
      let e = after_is victim in
      subst (λ (x : Memory). Accepted m v (Pin o n) answer [] x) (sym e)
      (pin-accepted m v o n g answer (after victim) place (victim-new victim number))
