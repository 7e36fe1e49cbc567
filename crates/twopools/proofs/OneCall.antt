-- One call of the list, given to both pools: one refusal, one receipt, and two pools in mid-list again.
use Prim.Native.Nat.{ℕ, zero, suc}
use mathlib.Core.Path.{◌≡◌, refl, sym, ap, ◌∙◌, subst}
use mathlib.Core.Logic.{◌≢◌, ⊎_elim}
use mathlib.Core.List.{List, []}
use lib.ListN.{length, get_or, take, drop}
use Rattle.laws.specs.First.{found}
use Rattle.laws.proofs.First.{found-same}
use Rattle.laws.proofs.Tests.{eq-or-ne}
use Rattle.bufmodel.specs.Checksum.{bare}
use Rattle.bufmodel.specs.Rows.{row_of, blocks_at, place_of}
use Rattle.bufmodel.specs.Memory.{Memory}
use Rattle.bufmodel.specs.Outcome.{Outcome, zeros}
use Rattle.bufmodel.specs.Calls.{part_at, part}
use Rattle.bufmodel.specs.Step.{Call}
use Rattle.shelf.specs.Shelf.{Shelf, refuses, shelf_after}
use Rattle.shelf.specs.Ledger.{Ledger, buffer_in, accepted_by, ledger_after}
use Rattle.shelf.specs.Statement.{own, Shows, Agrees}
use Rattle.twopools.specs.Asked.{
  Asked,
  AskPin,
  AskUnpin,
  AskRead,
  AskWrite,
  AskFlush,
  AskGiveBack,
  AskCheckpoint,
  AskPeek,
  AskExtend,
  AskDrop,
  AskInserted,
  AskFlushed,
  resolve,
}
use Rattle.twopools.specs.Pins.{Pins, Mine, Names, entered, pins_after}
use Rattle.twopools.specs.Receipts.{Receipt, read_bytes, bytes_by, block_by, receipt}
use Rattle.twopools.proofs.Booked.{onward, booked-on}
use Rattle.twopools.proofs.Twins.{renumbered, Twins, right-twin, held-too, refuses-twins}
use Rattle.twopools.proofs.After.{after}

-- what demand 3 says of a call, as far as receipts go by it
pub record Ends (s : Shelf) (d : Call) (o : Outcome) : Type 0 where
  pub number : o.refusal ≡ refuses s d
  pub shows : o.refusal ≡ 0 → Shows s o d
  pub blank : o.refusal ≢ 0 → o.answer ≡ zeros
  pub kept : o.refusal ≢ 0 → o.bytes ≡ own d

pub ends_of : {m : Memory} {l : Ledger} {d : Call} {o : Outcome} {l' : Ledger} → Agrees m l d o l' → Ends l.shelf d o
ends_of a = record { number = a.number; shows = a.shows; blank = a.blank; kept = a.kept }

-- ---- what both show
module _ {s t : Shelf} {p q : Pins} {page : ℕ → ℕ} (w : Twins s t p q page) where
  page-bytes : (x y : ℕ) → x ≡ y → s.bytes x ≡ t.bytes y
  page-bytes x y e = ap s.bytes e ∙ ap (λ (z : Shelf). z.bytes y) (sym w.same)

module _ {s t : Shelf} {p q : Pins} {page : ℕ → ℕ} (w : Twins s t p q page) (o r : Outcome) where
  -- the page that a read's pin is for
  read-page : (h k x y : ℕ) → Mine p h k → s.holds (p.number k) ≡ found x → t.holds (q.number k) ≡ found y → x ≡ y
  read-page h k x y u e f =
      found-same (sym e ∙ w.left.holds k u.held ∙ sym (w.right.holds k (sym (held-too w k) ∙ u.held)) ∙ f)

  bytes-shown : o.refusal ≡ 0 → r.refusal ≡ 0 → (c : Asked) → Names p c → Shows s o (resolve p.number c)
      → Shows t r (resolve q.number c)
      → bytes_by c o ≡ bytes_by c r
  unfolding bytes_by resolve read_bytes
  bytes-shown zo zr (AskPin h n) u x y = x.3 ∙ sym y.3
  bytes-shown zo zr (AskUnpin h k) u x y = x ∙ sym y
  bytes-shown zo zr (AskRead h k from out) u x y =
      rw (zo, zr)
      (x.2
      ∙ ap (λ (z : List ℕ). take (length out) (drop from (bare z))) (page-bytes w x.0 y.0 (read-page h k _ _ u x.1 y.1))
      ∙ sym y.2)
  bytes-shown zo zr (AskWrite h k from bytes at) u x y = x ∙ sym y
  bytes-shown zo zr (AskFlush h k) u x y = x ∙ sym y
  bytes-shown zo zr (AskGiveBack h) u x y = x ∙ sym y
  bytes-shown zo zr AskCheckpoint u x y = x ∙ sym y
  bytes-shown zo zr (AskPeek n) u x y =
      let same = found-same (sym x.1 ∙ ap (λ (z : Shelf). place_of z.rows n) (sym w.same) ∙ y.1) in
      x.2 ∙ ap bare (page-bytes w x.0 y.0 same) ∙ sym y.2
  bytes-shown zo zr (AskExtend f) u x y = x.3 ∙ sym y.3
  bytes-shown zo zr (AskDrop f) u x y = x ∙ sym y
  bytes-shown zo zr (AskInserted k) u x y = x ∙ sym y
  bytes-shown zo zr (AskFlushed k) u x y = x ∙ sym y

  block-shown : (c : Asked) → Shows s o (resolve p.number c) → Shows t r (resolve q.number c) → block_by c o ≡ block_by c r
  unfolding block_by resolve
  block-shown (AskPin h n) x y = refl
  block-shown (AskUnpin h k) x y = refl
  block-shown (AskRead h k from out) x y = refl
  block-shown (AskWrite h k from bytes at) x y = refl
  block-shown (AskFlush h k) x y = refl
  block-shown (AskGiveBack h) x y = refl
  block-shown AskCheckpoint x y = refl
  block-shown (AskPeek n) x y = refl
  block-shown (AskExtend f) x y =
      let same = found-same (sym x.1 ∙ ap (λ (z : Shelf). row_of z.rows f) (sym w.same) ∙ y.1) in
      x.2 ∙ ap (blocks_at s.rows) same ∙ ap (λ (z : Shelf). blocks_at z.rows y.0) (sym w.same) ∙ sym y.2
  block-shown (AskDrop f) x y = refl
  block-shown (AskInserted k) x y = refl
  block-shown (AskFlushed k) x y = refl

-- ---- a refused call: the caller's own bytes, no part of a page, no block number
own_same : (a b : ℕ → ℕ) (c : Asked) → own (resolve a c) ≡ own (resolve b c)
unfolding resolve
own_same a b (AskPin h n) = refl
own_same a b (AskUnpin h k) = refl
own_same a b (AskRead h k from out) = refl
own_same a b (AskWrite h k from bytes at) = refl
own_same a b (AskFlush h k) = refl
own_same a b (AskGiveBack h) = refl
own_same a b AskCheckpoint = refl
own_same a b (AskPeek n) = refl
own_same a b (AskExtend f) = refl
own_same a b (AskDrop f) = refl
own_same a b (AskInserted k) = refl
own_same a b (AskFlushed k) = refl

no_part : (z : ℕ) (o : Outcome) → z ≢ 0 → part_at z o ≡ []
unfolding part_at
no_part zero o ne = absurd (ne refl)
no_part (suc z) o ne = refl

module _ (o r : Outcome) (number : o.refusal ≡ r.refusal) (ne : o.refusal ≢ 0) where
  refused-bytes : (c : Asked) → o.bytes ≡ r.bytes → bytes_by c o ≡ bytes_by c r
  unfolding bytes_by part
  refused-bytes (AskPin h n) e = e
  refused-bytes (AskUnpin h k) e = e
  refused-bytes (AskRead h k from out) e = ap (λ (z : ℕ). read_bytes z from o.bytes) number ∙ ap (read_bytes r.refusal from) e
  refused-bytes (AskWrite h k from bytes at) e = e
  refused-bytes (AskFlush h k) e = e
  refused-bytes (AskGiveBack h) e = e
  refused-bytes AskCheckpoint e = e
  refused-bytes (AskPeek n) e = ap bare (no_part o.refusal o ne ∙ sym (no_part r.refusal r (λ z. ne (number ∙ z))))
  refused-bytes (AskExtend f) e = e
  refused-bytes (AskDrop f) e = e
  refused-bytes (AskInserted k) e = e
  refused-bytes (AskFlushed k) e = e

refused-block : (c : Asked) (o r : Outcome) → o.answer ≡ r.answer → block_by c o ≡ block_by c r
unfolding block_by
refused-block (AskPin h n) o r e = refl
refused-block (AskUnpin h k) o r e = refl
refused-block (AskRead h k from out) o r e = refl
refused-block (AskWrite h k from bytes at) o r e = refl
refused-block (AskFlush h k) o r e = refl
refused-block (AskGiveBack h) o r e = refl
refused-block AskCheckpoint o r e = refl
refused-block (AskPeek n) o r e = refl
refused-block (AskExtend f) o r e = ap (λ (a : List ℕ). get_or a 0 0) e
refused-block (AskDrop f) o r e = refl
refused-block (AskInserted k) o r e = refl
refused-block (AskFlushed k) o r e = refl

receipt-is : {i j : ℕ} {x y : List ℕ} {b d : ℕ} → i ≡ j → x ≡ y → b ≡ d
    → ◌≡◌ {A = Receipt} (record { refusal = i; bytes = x; block = b }) (record { refusal = j; bytes = y; block = d })
receipt-is e f g = cc

-- ---- the call
module _ (l l' : Ledger) {p q : Pins} {page : ℕ → ℕ} (w : Twins l.shelf l'.shelf p q page) (c : Asked) (names : Names p c)
    (o r : Outcome) (x : Ends l.shelf (resolve p.number c) o) (y : Ends l'.shelf (resolve q.number c) r)
    (six : o.refusal ≢ 6) where
  number_same : o.refusal ≡ r.refusal
  number_same = x.number ∙ sym (refuses-twins w c names (λ z. six (x.number ∙ z))) ∙ sym y.number

  pub receipt-same : receipt c o ≡ receipt c r
  unfolding receipt
  receipt-same =
      ⊎_elim
      (λ z.
      let a = x.shows z in
      let b = y.shows (sym number_same ∙ z) in
      receipt-is number_same (bytes-shown w o r z (sym number_same ∙ z) c names a b) (block-shown w o r c a b))
      (λ ne.
      let no : r.refusal ≢ 0 = λ z. ne (number_same ∙ z) in
      receipt-is number_same
      (refused-bytes o r number_same ne c (x.kept ne ∙ own_same p.number q.number c ∙ sym (y.kept no)))
      (refused-block c o r (x.blank ne ∙ sym (y.blank no))))
      (eq-or-ne o.refusal 0)

  abbrev Next : ℕ → Type 0
  Next z =
      (pages : ℕ → ℕ)
      × Twins (ledger_after l (resolve p.number c) o.answer o.refusal).shelf
      (ledger_after l' (resolve q.number c) r.answer z).shelf
      (pins_after p c o.refusal (buffer_in o.answer)) (pins_after q c z (buffer_in r.answer)) pages

  -- the shelves and the pins after it
  go : (z : ℕ) → o.refusal ≡ z
      → (pages : ℕ → ℕ)
      × Twins (ledger_after l (resolve p.number c) o.answer z).shelf (ledger_after l' (resolve q.number c) r.answer z).shelf
      (pins_after p c z (buffer_in o.answer)) (pins_after q c z (buffer_in r.answer)) pages
  unfolding ledger_after accepted_by pins_after
  go zero z =
      let s = l.shelf in
      let t = l'.shelf in
      subst
      (λ (v : Pins).
      (pages : ℕ → ℕ)
      × Twins (shelf_after s (resolve p.number c) (buffer_in o.answer)) (shelf_after t (resolve q.number c) (buffer_in r.answer))
      (entered p c (buffer_in o.answer)) (entered v c (buffer_in r.answer)) pages)
      (sym w.pins)
      (subst
      (λ (v : Shelf).
      (pages : ℕ → ℕ)
      × Twins (shelf_after s (resolve p.number c) (buffer_in o.answer)) (shelf_after v (resolve q.number c) (buffer_in r.answer))
      (entered p c (buffer_in o.answer)) (entered (renumbered p q.number) c (buffer_in r.answer)) pages)
      (sym w.same)
      (after s t.buffers t.holds p q.number page w.fewer w.few w.left (right-twin w) o r c names (sym x.number ∙ z)
      (x.shows z)
      (subst (λ (v : Shelf). Shows v r (resolve q.number c)) w.same (y.shows (sym number_same ∙ z)))))
  go (suc k) z = (
    page,
    record {
      same = w.same;
      pins = ap onward w.pins;
      fewer = w.fewer;
      few = w.few;
      left = booked-on refl refl refl w.left;
      right = booked-on refl refl refl w.right;
    },
  )

  pub next : Next r.refusal
  next = subst Next number_same (go o.refusal refl)
