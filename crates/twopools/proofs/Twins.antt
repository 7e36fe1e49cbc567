-- Two shelves that differ in the number of buffers and in which number holds which page: they refuse alike.
use Prim.Native.Nat.{ℕ, ◌+◌, ◌≤◌, ◌<◌}
use native.Mathlib.Omega.{arith}
use mathlib.Core.Path.{◌≡◌, refl, sym, ap, ◌∙◌, subst}
use mathlib.Core.Bool.{Bool, true, false, not, ◌||◌, cond, false≢true}
use mathlib.Core.Logic.{◌≢◌}
use mathlib.Core.List.{List, [], ◌∷◌, ◌++◌}
use lib.ListN.{length}
use lib.Dec.{eqb, leb, ltb}
use borrow.Author.Tests.{eqb-true, eq-eqb, ne_eqb, lt-leb}
use Rattle.laws.specs.First.{Found, found, missing}
use Rattle.laws.proofs.Tests.{and_left, and_right, and-true}
use Rattle.buftag.specs.declared.name.PageName.{PageName}
use Rattle.bufmodel.specs.Rows.{row_of, place_of}
use Rattle.bufmodel.specs.Outcome.{Place, place}
use Rattle.shelf.specs.Shelf.{
  Shelf,
  first_of,
  no_file,
  has_pins,
  pinned_pages,
  no_page,
  is_bad,
  count_full,
  no_buffer,
  no_pin,
  number_places,
  too_low,
  no_room,
  file_pinned,
  page_first,
  above,
  places,
  refuses,
}
use Rattle.twopools.specs.Asked.{
  Asked,
  AskPin,
  AskUnpin,
  AskRead,
  AskWrite,
  AskFlush,
  AskGiveBack,
  AskCheckpoint,
  AskPeek,
  AskExtend,
  AskDrop,
  AskInserted,
  AskFlushed,
  resolve,
}
use Rattle.twopools.specs.Pins.{Pins, Mine, Names}
use Rattle.twopools.proofs.Booked.{Booked, owed-some}

-- the shelf with another number of buffers, and other numbers that hold its pages
abbrev pub twin : Shelf → ℕ → (ℕ → Found) → Shelf
twin s m holds =
    record {
      buffers = m;
      size = s.size;
      inserted = s.inserted;
      rows = s.rows;
      bytes = s.bytes;
      counts = s.counts;
      holds = holds;
      bad = s.bad;
    }

-- the pins with other numbers
abbrev pub renumbered : Pins → (ℕ → ℕ) → Pins
renumbered p number = record { made = p.made; number = number; holder = p.holder; held = p.held }

-- ---- places
-- a number that holds a page of which the holder has pins hands on to the later places
number-kept : (s : Shelf) (h i x : ℕ) (later : List Place) → i < s.buffers → s.holds i ≡ found x → s.counts h x ≢ 0
    → first_of (number_places s h i later) ≡ first_of (place 19 (leb 64 h) ∷ later)
unfolding number_places no_pin first_of
number-kept s h i x later l e ne = rw (lt-leb s.buffers i l, e, ne_eqb (s.counts h x) 0 ne) refl

-- where the last of some places may refuse with 6, and does not
six-same : (ps : List Place) (u v : Bool) → (v ≡ true → u ≡ true) → first_of (ps ++ (place 6 u ∷ [])) ≢ 6
    → first_of (ps ++ (place 6 v ∷ [])) ≡ first_of (ps ++ (place 6 u ∷ []))
unfolding first_of
six-same [] true v i ne = absurd (ne refl)
six-same [] false true i ne = absurd (false≢true (i refl))
six-same [] false false i ne = refl
six-same (p ∷ ps) u v i ne = later p.refuses ne (six-same ps u v i)
  where
    later : (b : Bool) → cond b p.number (first_of (ps ++ (place 6 u ∷ []))) ≢ 6
        → (first_of (ps ++ (place 6 u ∷ [])) ≢ 6 → first_of (ps ++ (place 6 v ∷ [])) ≡ first_of (ps ++ (place 6 u ∷ [])))
        → cond b p.number (first_of (ps ++ (place 6 v ∷ []))) ≡ cond b p.number (first_of (ps ++ (place 6 u ∷ [])))
    later true e rest = refl
    later false e rest = rest e

-- ---- what a place says of one shelf it says of the other
module _ (s : Shelf) (m : ℕ) (holds : ℕ → Found) where
  abbrev t : Shelf
  t = twin s m holds

  no-page : (b : ℕ) (f : Found) → no_page (twin s m holds) b f ≡ no_page s b f
  unfolding no_page
  no-page b (found r) = refl
  no-page b missing = refl

  is-bad : (f : Found) → is_bad (twin s m holds) f ≡ is_bad s f
  unfolding is_bad
  is-bad (found g) = refl
  is-bad missing = refl

  count-full : (h : ℕ) (f : Found) → count_full (twin s m holds) h f ≡ count_full s h f
  unfolding count_full
  count-full h (found g) = refl
  count-full h missing = refl

  too-low : (at : ℕ) (f : Found) → too_low (twin s m holds) at f ≡ too_low s at f
  unfolding too_low
  too-low at (found g) = refl
  too-low at missing = refl

  no_room_is : (f : Found) → no_room (twin s m holds) f ≡ no_room s f
  unfolding no_room
  no_room_is (found r) = refl
  no_room_is missing = refl

  file-pinned : (f : Found) → file_pinned (twin s m holds) f ≡ file_pinned s f
  unfolding file_pinned has_pins
  file-pinned (found r) = refl
  file-pinned missing = refl

  page-first : (n : PageName) (later : List Place) → page_first (twin s m holds) n later ≡ page_first s n later
  unfolding page_first
  page-first n later = rw (no-page n.block.0 (row_of s.rows n.file), is-bad (place_of s.rows n)) refl

  above_same : (h : ℕ) (n : PageName) → above (twin s m holds) h n ≡ above s h n
  unfolding above
  above_same h n =
      ap (λ (ps : List Place). place 19 (leb 64 h) ∷ ps)
      (page-first n _ ∙ ap (λ (b : Bool). page_first s n (place 5 b ∷ [])) (count-full h (place_of s.rows n)))

  -- the larger pool lacks a buffer only where the smaller one does
  six-less : s.buffers ≤ m → pinned_pages s ≤ s.buffers → (f : Found) → no_buffer (twin s m holds) f ≡ true → no_buffer s f ≡ true
  unfolding no_buffer has_pins pinned_pages
  six-less fewer few (found x) e =
      let p = eqb-true (pinned_pages s) m (and_right (not (has_pins s x)) _ e) in
      and-true (and_left (not (has_pins s x)) _ e) (eq-eqb (pinned_pages s) s.buffers (omega (arith, p, fewer, few)))
  six-less fewer few missing e = e

-- ---- the refusals
module _ (s : Shelf) (m : ℕ) (holds : ℕ → Found) (p : Pins) (number page : ℕ → ℕ) (fewer : s.buffers ≤ m)
    (few : pinned_pages s ≤ s.buffers) (left : Booked s p page) (right : Booked (twin s m holds) (renumbered p number) page) where
  -- the holder of a pin not given back has pins of its page
  counted : (h k : ℕ) → Mine p h k → s.counts h (page k) ≢ 0
  counted h k e z =
      owed-some s.counts p page left.owed k e.held (left.made k e.held) (ap (λ (i : ℕ). s.counts i (page k)) e.by ∙ z)

  -- so its number hands on to the later places in both
  numbers : (h k : ℕ) → Mine p h k → (ps qs : List Place) → first_of ps ≡ first_of qs
      → first_of (number_places (twin s m holds) h (number k) ps) ≡ first_of (number_places s h (p.number k) qs)
  unfolding first_of
  numbers h k e ps qs later =
      number-kept (twin s m holds) h (number k) (page k) ps (right.below k e.held) (right.holds k e.held) (counted h k e)
      ∙ rw later refl
      ∙ sym (number-kept s h (p.number k) (page k) qs (left.below k e.held) (left.holds k e.held) (counted h k e))

  low_same : (h k at : ℕ) → Mine p h k → too_low (twin s m holds) at (holds (number k)) ≡ too_low s at (s.holds (p.number k))
  low_same h k at e =
      too-low s m holds at (holds (number k))
      ∙ ap (too_low s at) (right.holds k e.held ∙ sym (left.holds k e.held))

  -- THE REFUSALS: where the smaller pool does not answer 6, both answer one number
  refuses-same : (c : Asked) → Names p c → refuses s (resolve p.number c) ≢ 6
      → refuses (twin s m holds) (resolve number c) ≡ refuses s (resolve p.number c)
  unfolding refuses resolve places
  refuses-same (AskPin h n) u six =
      ap (λ (ps : List Place). first_of (ps ++ (place 6 (no_buffer (twin s m holds) (place_of s.rows n)) ∷ []))) (above_same s m holds h n)
      ∙ six-same (above s h n) _ _ (six-less s m holds fewer few (place_of s.rows n)) six
  refuses-same (AskUnpin h k) u six = numbers h k u [] [] refl
  refuses-same (AskRead h k from out) u six = numbers h k u _ _ refl
  refuses-same (AskWrite h k from bytes at) u six =
      numbers h k u _ _
      (ap
      (λ (b : Bool).
      first_of
      (place 9 (ltb s.size (from + length bytes) || ltb from 8)
      ∷ place 10 (eqb (length bytes) 0)
      ∷ place 11 (ltb s.inserted at)
      ∷ place 12 b
      ∷ []))
      (low_same h k at u))
  refuses-same (AskFlush h k) u six = numbers h k u [] [] refl
  refuses-same (AskGiveBack h) u six = refl
  refuses-same AskCheckpoint u six = refl
  refuses-same (AskPeek n) u six = ap first_of (page-first s m holds n [])
  refuses-same (AskExtend f) u six =
      ap (λ (b : Bool). first_of (place 3 (no_file (row_of s.rows f)) ∷ place 13 b ∷ [])) (no_room_is s m holds (row_of s.rows f))
  refuses-same (AskDrop f) u six =
      ap (λ (b : Bool). first_of (place 3 (no_file (row_of s.rows f)) ∷ place 14 b ∷ [])) (file-pinned s m holds (row_of s.rows f))
  refuses-same (AskInserted q) u six = refl
  refuses-same (AskFlushed q) u six = refl

-- ---- two pools in mid-list
-- their shelves, their pins, the pages that these are for
pub record Twins (s t : Shelf) (p q : Pins) (page : ℕ → ℕ) : Type 0 where
  pub same : t ≡ twin s t.buffers t.holds
  pub pins : q ≡ renumbered p q.number
  pub fewer : s.buffers ≤ t.buffers
  pub few : pinned_pages s ≤ s.buffers
  pub left : Booked s p page
  pub right : Booked t q page

module _ {s t : Shelf} {p q : Pins} {page : ℕ → ℕ} (w : Twins s t p q page) where
  pub right-twin : Booked (twin s t.buffers t.holds) (renumbered p q.number) page
  right-twin =
      subst (λ (z : Shelf). Booked z (renumbered p q.number) page) w.same
      (subst (λ (z : Pins). Booked t z page) w.pins w.right)

  pub held-too : (k : ℕ) → p.held k ≡ q.held k
  held-too k = ap (λ (z : Pins). z.held k) (sym w.pins)

  pub refuses-twins : (c : Asked) → Names p c → refuses s (resolve p.number c) ≢ 6
      → refuses t (resolve q.number c) ≡ refuses s (resolve p.number c)
  refuses-twins c names six =
      ap (λ (z : Shelf). refuses z (resolve q.number c)) w.same
      ∙ refuses-same s t.buffers t.holds p q.number page w.fewer w.few w.left right-twin c names six
