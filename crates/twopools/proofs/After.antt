-- Two shelves that differ in the number of buffers and in which number holds which page stay so: what an accepted call leaves of both.
use Prim.Native.Nat.{ℕ, ◌≤◌, ◌<◌}
use native.Mathlib.Omega.{arith}
use mathlib.Core.Path.{◌≡◌, refl, sym, ap, ◌∙◌, subst}
use mathlib.Core.Bool.{false}
use mathlib.Core.List.{List, []}
use borrow.Author.Tests.{leb-false}
use Rattle.laws.specs.First.{Found, found, missing}
use Rattle.laws.specs.Sum.{count}
use Rattle.laws.proofs.First.{found-same}
use Rattle.buftag.specs.declared.name.PageName.{PageName}
use Rattle.bufmodel.specs.Rows.{row_of, store_blocks, place_of}
use Rattle.bufmodel.specs.Outcome.{Outcome}
use Rattle.bufmodel.specs.Step.{Pin}
use Rattle.bufmodel.proofs.RowsLaws.{store-set}
use Rattle.bufmodel.proofs.OutcomeLaws.{refusal-passed}
use Rattle.shelf.specs.Shelf.{
  Shelf,
  with,
  pins_in,
  has_pins,
  pinned_pages,
  no_buffer,
  page_first,
  above,
  places,
  refuses,
  pinned_at,
  unpinned_at,
  given_back,
  written_at,
  next_block,
  extended_at,
  dropped_at,
  shelf_after,
}
use Rattle.shelf.specs.Ledger.{buffer_in}
use Rattle.shelf.specs.Statement.{PinRule, Shows}
use Rattle.shelf.proofs.ShelfPlaces.{refuses-is}
use Rattle.twopools.specs.Asked.{
  Asked,
  AskPin,
  AskUnpin,
  AskRead,
  AskWrite,
  AskFlush,
  AskGiveBack,
  AskCheckpoint,
  AskPeek,
  AskExtend,
  AskDrop,
  AskInserted,
  AskFlushed,
  resolve,
}
use Rattle.twopools.specs.Pins.{Pins, Mine, Names, entered}
use Rattle.twopools.proofs.Booked.{Booked, onward, booked-on, pin-booked, unpin-booked, give-booked}
use Rattle.twopools.proofs.FewPages.{pin-few, unpin-few, give-few}
use Rattle.twopools.proofs.Twins.{twin, renumbered, Twins}

-- a pin that no place refuses: its holder is one of the 64, and a buffer is left for its page
pin-passed : (s : Shelf) (h : ℕ) (n : PageName) → refuses s (Pin h n) ≡ 0 → (h < 64) × (no_buffer s (place_of s.rows n) ≡ false)
unfolding places above page_first
pin-passed s h n z =
    let a = refusal-passed 19 _ _ (omega arith) (sym (refuses-is s (Pin h n)) ∙ z) in
    let b = refusal-passed 3 _ _ (omega arith) a.1 in
    let c = refusal-passed 4 _ _ (omega arith) b.1 in
    let d = refusal-passed 17 _ _ (omega arith) c.1 in
    let e = refusal-passed 5 _ _ (omega arith) d.1 in
    (leb-false 64 h a.0, (refusal-passed 6 _ [] (omega arith) e.1).0)

module _ (s : Shelf) (m : ℕ) (holds : ℕ → Found) (p : Pins) (number page : ℕ → ℕ) (fewer : s.buffers ≤ m)
    (few : pinned_pages s ≤ s.buffers) (left : Booked s p page) (right : Booked (twin s m holds) (renumbered p number) page) where
  -- ---- a call that changes no pin
  still-twins : (s' t' : Shelf) → s.buffers ≡ s'.buffers → s.counts ≡ s'.counts → s.holds ≡ s'.holds
      → m ≡ t'.buffers → s.counts ≡ t'.counts → holds ≡ t'.holds → store_blocks s.rows ≡ store_blocks s'.rows
      → t' ≡ twin s' t'.buffers t'.holds → Twins s' t' (onward p) (onward (renumbered p number)) page
  unfolding pinned_pages has_pins
  still-twins s' t' b c h b' c' h' blocks same =
      record {
        same = same;
        pins = refl;
        fewer = omega (arith, fewer, b, b');
        few =
            subst (λ (k : ℕ). pinned_pages s' ≤ k) b
            (subst (λ (c : ℕ → ℕ → ℕ). count (store_blocks s'.rows) (pins_in c) ≤ s.buffers) c
            (subst (λ (k : ℕ). count k (pins_in s.counts) ≤ s.buffers) blocks few));
        left = booked-on b c h left;
        right = booked-on b' c' h' right;
      }

  -- ---- an accepted pin of page x that got i and j
  pin-twins : (h i j x : ℕ) (n : PageName) → h < 64 → (o q : Outcome) → buffer_in o.answer ≡ i → buffer_in q.answer ≡ j
      → PinRule s o x → PinRule (twin s m holds) q x → no_buffer s (found x) ≡ false
      → Twins (pinned_at s h i (found x)) (pinned_at (twin s m holds) h j (found x)) (entered p (AskPin h n) i)
      (entered (renumbered p number) (AskPin h n) j) (with p.made x page)
  unfolding pinned_at entered has_pins
  pin-twins h i j x n l o q ei ej a b six =
      record {
        same = refl;
        pins = refl;
        fewer = fewer;
        few = pin-few s h x i few six;
        left =
            pin-booked s p page h i x left l (subst (λ (k : ℕ). k < s.buffers) ei a.below) (λ t. ap s.holds (sym ei) ∙ a.had t)
            (λ f. ap s.holds (sym ei) ∙ a.fresh f);
        right =
            pin-booked (twin s m holds) (renumbered p number) page h j x right l (subst (λ (k : ℕ). k < m) ej b.below)
            (λ t. ap holds (sym ej) ∙ b.had t) (λ f. ap holds (sym ej) ∙ b.fresh f);
      }

  -- ---- an accepted unpin of the pin of call k
  unpin-twins : (h k i j : ℕ) → Mine p h k
      → Twins (unpinned_at s h (p.number k) (s.holds (p.number k))) (unpinned_at (twin s m holds) h (number k) (holds (number k)))
      (entered p (AskUnpin h k) i) (entered (renumbered p number) (AskUnpin h k) j) page
  unfolding unpinned_at entered
  unpin-twins h k i j u =
      subst
      (λ (z : ℕ).
      Twins (unpinned_at s z (p.number k) (s.holds (p.number k))) (unpinned_at (twin s m holds) z (number k) (holds (number k)))
      (entered p (AskUnpin z k) i) (entered (renumbered p number) (AskUnpin z k) j) page)
      u.by
      (rw (left.holds k u.held, right.holds k u.held)
      (record {
        same = refl;
        pins = refl;
        fewer = fewer;
        few = unpin-few s (p.holder k) (page k) (p.number k) few;
        left = unpin-booked s p page k left u.held;
        right = unpin-booked (twin s m holds) (renumbered p number) page k right u.held;
      }))

  -- ---- an accepted give back
  give-twins : (h i j : ℕ)
      → Twins (given_back s h) (given_back (twin s m holds) h) (entered p (AskGiveBack h) i) (entered (renumbered p number) (AskGiveBack h) j)
      page
  unfolding given_back entered
  give-twins h i j =
      record {
        same = refl;
        pins = refl;
        fewer = fewer;
        few = give-few s h few;
        left = give-booked s p page h left;
        right = give-booked (twin s m holds) (renumbered p number) page h right;
      }

  -- ---- calls that change bytes and rows
  abbrev Still : Shelf → Shelf → Type 0
  Still x y = Twins x y (onward p) (onward (renumbered p number)) page

  write-twins : (h k from : ℕ) (bytes : List ℕ) (at : ℕ) → Mine p h k
      → Still (written_at s from bytes at (s.holds (p.number k))) (written_at (twin s m holds) from bytes at (holds (number k)))
  unfolding written_at
  write-twins h k from bytes at u =
      rw (left.holds k u.held, right.holds k u.held) (still-twins _ _ refl refl refl refl refl refl refl refl)

  extend-twins : (r : Found) → Still (extended_at s r) (extended_at (twin s m holds) r)
  unfolding extended_at next_block
  extend-twins (found r) = still-twins _ _ refl refl refl refl refl refl (sym (store-set s.rows r _)) refl
  extend-twins missing = still-twins _ _ refl refl refl refl refl refl refl refl

  drop-twins : (r : Found) → Still (dropped_at s r) (dropped_at (twin s m holds) r)
  unfolding dropped_at
  drop-twins (found r) = still-twins _ _ refl refl refl refl refl refl (sym (store-set s.rows r 0)) refl
  drop-twins missing = still-twins _ _ refl refl refl refl refl refl refl refl

  -- AFTER AN ACCEPTED CALL: o and q are what both ended with
  module _ (o q : Outcome) where
    abbrev i : ℕ
    i = buffer_in o.answer

    abbrev j : ℕ
    j = buffer_in q.answer

    abbrev Next : Asked → Type 0
    Next c =
        (pages : ℕ → ℕ)
        × Twins (shelf_after s (resolve p.number c) i) (shelf_after (twin s m holds) (resolve number c) j) (entered p c i)
        (entered (renumbered p number) c j) pages

    still : Still s (twin s m holds)
    still = still-twins s (twin s m holds) refl refl refl refl refl refl refl refl

    pin-after : (h : ℕ) (n : PageName) → refuses s (Pin h n) ≡ 0 → Shows s o (Pin h n) → Shows (twin s m holds) q (Pin h n)
        → Next (AskPin h n)
    unfolding shelf_after resolve
    pin-after h n z x y =
        let e = found-same (sym y.1 ∙ x.1) in
        let g = pin-passed s h n z in (
          with p.made x.0 page,
          rw x.1
              (pin-twins h i j x.0 n g.0 o q refl refl x.2 (subst (λ (r : ℕ). PinRule (twin s m holds) q r) e y.2)
              (ap (no_buffer s) (sym x.1) ∙ g.1)),
        )

    pub after : (c : Asked) → Names p c → refuses s (resolve p.number c) ≡ 0 → Shows s o (resolve p.number c)
        → Shows (twin s m holds) q (resolve number c)
        → Next c
    unfolding shelf_after resolve entered
    after (AskPin h n) u z x y = pin-after h n z x y
    after (AskUnpin h k) u z x y = (page, unpin-twins h k i j u)
    after (AskRead h k from out) u z x y = (page, still)
    after (AskWrite h k from bytes at) u z x y = (page, write-twins h k from bytes at u)
    after (AskFlush h k) u z x y = (page, still)
    after (AskGiveBack h) u z x y = (page, give-twins h i j)
    after AskCheckpoint u z x y = (page, still)
    after (AskPeek n) u z x y = (page, still)
    after (AskExtend f) u z x y = (page, extend-twins (row_of s.rows f))
    after (AskDrop f) u z x y = (page, drop-twins (row_of s.rows f))
    after (AskInserted k) u z x y = (page, still-twins _ _ refl refl refl refl refl refl refl refl)
    after (AskFlushed k) u z x y = (page, still)
