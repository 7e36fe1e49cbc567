-- An accepted pin: what the ledger says after it, and what is left to show of it.
use Prim.Native.Nat.{ℕ, ◌<◌, max}
use mathlib.Core.Path.{◌≡◌, refl, sym, ap, ◌∙◌}
use mathlib.Core.Bool.{Bool, true, false, not, ◌&&◌, ◌||◌, cond, or-false}
use mathlib.Core.List.{List, [], ◌∷◌}
use lib.ListN.{length}
use Rattle.laws.specs.First.{Found, found}
use Rattle.laws.specs.Block.{block}
use Rattle.laws.proofs.First.{found-same}
use Rattle.laws.proofs.Tests.{never}
use Rattle.buftag.specs.declared.name.PageName.{PageName}
use Rattle.bufmodel.specs.Word.{pinned}
use Rattle.bufmodel.specs.Position.{position}
use Rattle.bufmodel.specs.Checksum.{bare}
use Rattle.bufmodel.specs.Rows.{store_blocks, place_of}
use Rattle.bufmodel.specs.Memory.{Memory, buffers, size, cap_of, word_of}
use Rattle.bufmodel.specs.Outcome.{done}
use Rattle.bufmodel.specs.Step.{Pin}
use Rattle.shelf.specs.Shelf.{with, refuses, pinned_at, shelf_after}
use Rattle.shelf.specs.Ledger.{Ledger, is_place, buffer_in, wrote_in, highest}
use Rattle.shelf.specs.Ledger.{back_by, new_by, put_by, dirtied_by, dirty_after, last_after, said_flushed, flushed_after, accepted_by}
use Rattle.shelf.specs.Statement.{Answers, PinRule}
use Rattle.shelf.proofs.CallKinds.{not-checkpoint}
use Rattle.shelf.proofs.Kept.{View, shelf_of, ledger_of, view_of, Nobody, Kept}
use Rattle.shelf.proofs.KeptLaws.{is_place-true, is_place-self, Alike, kept-alike, pins-nobody, holds-none}
use Rattle.shelf.proofs.HighestLaws.{highest-still, highest-one}
use Rattle.shelf.proofs.Accepted.{Accepted, ledger_then}
use Rattle.shelf.proofs.LoadKept.{view_load}

-- ---- the page that a pin last got at number b was written back, if the answer says so
abbrev pub was_last : View → Bool → ℕ → ℕ → Bool
was_last v d b h = d && is_place (v.last b) h

-- then it is not dirty, and was put
abbrev pub view_wrote : View → Bool → ℕ → View
view_wrote v d b =
    record {
      bytes = v.bytes;
      counts = v.counts;
      holds = v.holds;
      bad = v.bad;
      dirty = λ h. not (was_last v d b h) && v.dirty h;
      last = v.last;
      put = λ h. was_last v d b h || v.put h;
    }

-- and flushed is the larger of itself and its position
pub highest-last : (l : Ledger) (v : View) (t : Bool) (b h p n : ℕ) → v.last b ≡ found h → h < n
    → highest l n (was_last v t b) p ≡ cond t (max p (position (l.shelf.bytes h))) p
highest-last l v true b h p n last below =
    highest-one l (is_place (v.last b)) p n h below (ap (λ (f : Found). is_place f h) last ∙ is_place-self h)
    (λ g c t. found-same (sym (is_place-true (v.last b) g t) ∙ last))
highest-last l v false b h p n last below = highest-still l p n

-- what the ledger says after a pin of holder o that answered so
abbrev pub view_pin : View → ℕ → List ℕ → ℕ → View
view_pin v o answer g = view_load (view_wrote v (wrote_in answer) (buffer_in answer)) o (buffer_in answer) g

module _ (m : Memory) (v : View) (o : ℕ) (n : PageName) (g : ℕ) (place : place_of m.rows n ≡ found g) (answer : List ℕ) where
  pin-view : Alike (view_pin v o answer g) (view_of (ledger_then m v (Pin o n) answer))
  unfolding accepted_by shelf_after pinned_at dirty_after dirtied_by back_by new_by put_by last_after
  pin-view =
      let b = buffer_in answer in
      let s = shelf_of m v in
      record {
        bytes = λ h. ap (λ (f : Found). (pinned_at s o b f).bytes h) place;
        counts = λ u h. ap (λ (f : Found). (pinned_at s o b f).counts u h) place;
        holds = λ c. ap (λ (f : Found). (pinned_at s o b f).holds c) place;
        bads = λ h. ap (λ (f : Found). (pinned_at s o b f).bad h) place;
        marks = λ h. refl;
        last = λ c. ap (λ (f : Found). with b f v.last c) place;
        put = λ h. ap (λ (t : Bool). t || v.put h) (or-false (was_last v (wrote_in answer) b h));
      }

-- ---- the rule of buffer numbers: a page that no buffer has has no pins, and an unpinned buffer's number holds none
pub new-rule : (m : Memory) (v : View) → Kept m v → (g : ℕ) → Nobody m g → (b : ℕ) → b < buffers m → pinned (word_of m b) ≡ false
    → (rest : List ℕ) (m' : Memory) → PinRule (shelf_of m v) (done (b ∷ rest) [] m') g
unfolding buffer_in
new-rule m v k g none b l free rest m' =
    record {
      below = l;
      had = λ t. never t (pins-nobody m v k g none);
      fresh = λ f. holds-none m v k b l free;
    }

-- ---- what is left to show
module _ (m : Memory) (v : View) (o : ℕ) (n : PageName) (g : ℕ) (answer : List ℕ) (m' : Memory) where
  abbrev back : ℕ → Bool
  back h = was_last v (wrote_in answer) (buffer_in answer) h

  pub record PinAccepted : Type 0 where
    pub number : refuses (shelf_of m v) (Pin o n) ≡ 0
    pub words : Answers (done answer [] m') (Pin o n)
    pub rule : PinRule (shelf_of m v) (done answer [] m') g
    pub many : buffers m ≡ buffers m'
    pub wide : size m ≡ size m'
    pub cap : cap_of m ≡ cap_of m'
    pub rows : m.rows ≡ m'.rows
    pub inserted : m.control.inserted ≡ m'.control.inserted
    pub flushed : highest (ledger_of m v) (store_blocks m.rows) back m.control.flushed ≡ m'.control.flushed
    pub kept : Kept m' (view_pin v o answer g)
    pub others : (h : ℕ) → h < store_blocks m.rows → back h ≡ false → block (size m) h m'.store ≡ block (size m) h m.store
    pub long : length m'.store ≡ length m.store
    pub stored : (h : ℕ) → back h ≡ true → bare (block (size m) h m'.store) ≡ bare (v.bytes h)

  -- this is all, whichever way the pin got its buffer
  pub pin-accepted : place_of m.rows n ≡ found g → PinAccepted → Accepted m v (Pin o n) answer [] m'
  unfolding accepted_by shelf_after pinned_at back_by new_by put_by said_flushed flushed_after
  pin-accepted place a =
      let s = shelf_of m v in
      let b = buffer_in answer in
      record {
        number = a.number;
        answers = a.words;
        shows = (g, place, a.rule, refl);
        many = a.many;
        wide = a.wide;
        cap = a.cap;
        rows = ap (λ (f : Found). (pinned_at s o b f).rows) place ∙ a.rows;
        inserted = ap (λ (f : Found). (pinned_at s o b f).inserted) place ∙ a.inserted;
        flushed = a.flushed;
        kept = kept-alike m' (view_pin v o answer g) (view_of (ledger_then m v (Pin o n) answer)) (pin-view m v o n g place answer) a.kept;
        others = λ h l e. a.others h l (sym (or-false (back h)) ∙ e);
        long = a.long;
        stored = λ h t. a.stored h (sym (or-false (back h)) ∙ t) ∙ sym (ap (λ (f : Found). bare ((pinned_at s o b f).bytes h)) place);
        settled = λ q. absurd (not-checkpoint refl q);
      }
