-- What each call answers: document 01's number and words of the answer are those of the outcome. Beside them, what becomes of the
-- caller's own bytes, and that a refused call leaves the memory.
use Prim.Native.Nat.{ℕ, zero, suc, ◌<◌}
use native.Mathlib.Omega.{arith}
use Rattle.std.specs.Prelude.{Result}
use mathlib.Core.Path.{◌≡◌, refl, ap, ◌∙◌}
use mathlib.Core.Logic.{◌≢◌}
use mathlib.Core.Bool.{Bool, true, false}
use mathlib.Core.List.{List, [], ◌∷◌}
use Rattle.laws.specs.Sum.{ind}
use Rattle.laws.specs.First.{Found, found, missing}
use Rattle.buftag.specs.declared.link.Link.{Link}
use Rattle.buftag.specs.declared.link.Link.TheVariants.{To, End, Off, Bad}
use Rattle.buftag.specs.Link.{link_of}
use Rattle.buftag.specs.Lookup.{Held}
use Rattle.std.specs.Prelude.{Some, None}
use Rattle.buftag.specs.declared.name.FileName.{FileName}
use Rattle.buftag.specs.declared.name.PageName.{PageName}
use Rattle.bufmodel.specs.Word.{dirty}
use Rattle.bufmodel.specs.Memory.{Memory, word_of}
use Rattle.bufmodel.specs.Outcome.{Outcome, one, done, refused, outcome}
use Rattle.bufmodel.specs.declared.refusal.Refusal.{Refusal}
use Rattle.bufmodel.specs.Answer.{result_number, result_words, answer_at, pin_words, peek_words, extend_words, done_words}
use Rattle.bufmodel.specs.Answer.{pinned_at, written_at, peeked_at, extended_at, accepted_at}
use Rattle.bufmodel.proofs.RefusalLaws.{number-back, refusal-below, checked-below}
use Rattle.bufmodel.specs.Sweep.{Swept}
use Rattle.bufmodel.specs.Rows.{row_of}
use Rattle.bufmodel.specs.Pin.{holder_place, name_places, page_places, pin_places, held_in, pin_held, pin_free, pin_victim, pin_swept, pin_new, pin_to, pin}
use Rattle.bufmodel.specs.Calls.{buffer_places, write_places, set_up, unpin, read, write, flush, give_back, checkpoint, part_of, peek}
use Rattle.bufmodel.specs.Calls.{extend_at, extend, drop_at, drop_file, log_inserted, log_flushed}

-- ---- an outcome, and the case that it means
-- it is the one of an accepted call, or refused
pub by-case : (P : Outcome → Type 0) (k : ℕ) (bytes : List ℕ) (m : Memory) (o : Outcome) → P o → ((j : ℕ) → P (refused (suc j) bytes m))
    → P (outcome k bytes m o)
unfolding outcome
by-case P zero bytes m o p q = p
by-case P (suc k) bytes m o p q = q k

-- and where its number is a refusal's, refused with such a number
pub by-case-below : (P : Outcome → Type 0) (k : ℕ) (bytes : List ℕ) (m : Memory) (o : Outcome) → k < 20 → P o
    → ((j : ℕ) → suc j < 20 → P (refused (suc j) bytes m)) → P (outcome k bytes m o)
unfolding outcome
by-case-below P zero bytes m o l p q = p
by-case-below P (suc k) bytes m o l p q = q k l

-- the case's number and words are the outcome's, the caller's own bytes are known, and a refused call leaves the memory
pub record Answers {T : Type 0} (words : T → List ℕ) (of : List ℕ → T) (left : List ℕ) (m : Memory) (o : Outcome) : Type 0 where
  pub same_number : result_number (answer_at of o.refusal o.answer) ≡ o.refusal
  pub same-words : result_words words (answer_at of o.refusal o.answer) ≡ o.answer
  pub same_bytes : left ≡ o.bytes
  pub kept : o.refusal ≢ 0 → o.after ≡ m

module _ {T : Type 0} {words : T → List ℕ} {of : List ℕ → T} {left : List ℕ} {m : Memory} {o : Outcome}
    (answers : Answers words of left m o) {a : Result T Refusal} where
  -- an answer a that is this case has number and words
  pub answered : a ≡ answer_at of o.refusal o.answer
      → (a ≡ answer_at of o.refusal o.answer) × ((result_number a ≡ o.refusal) × (result_words words a ≡ o.answer))
  answered e = (e, (ap result_number e ∙ answers.same_number, ap (result_words words) e ∙ answers.same-words))

  -- and where more is shown, as what memory the call leaves
  pub promised : {X : Type 0} → (a ≡ answer_at of o.refusal o.answer) × X
      → (a ≡ answer_at of o.refusal o.answer) × ((result_number a ≡ o.refusal) × ((result_words words a ≡ o.answer) × X))
  promised p = let s = answered p.0 in (p.0, (s.1.0, (s.1.1, p.1)))

-- ---- an outcome that is done, or that leaves the memory
module _ {T : Type 0} {words : T → List ℕ} {of : List ℕ → T} {bytes : List ℕ} {m : Memory} where
  yes : {ws : List ℕ} {after : Memory} → words (of ws) ≡ ws → Answers words of bytes m (done ws bytes after)
  unfolding answer_at
  yes f = record { same_number = refl; same-words = f; same_bytes = refl; kept = λ h. absurd (h refl) }

  no : (j : ℕ) → suc j < 20 → Answers words of bytes m (refused (suc j) bytes m)
  unfolding answer_at
  no j l = record { same_number = number-back (suc j) (λ e. omega arith) l; same-words = refl; same_bytes = refl; kept = λ h. refl }

  -- a call that is done, or refused
  answers-is : (k : ℕ) (o : Outcome) → k < 20 → Answers words of bytes m o → Answers words of bytes m (outcome k bytes m o)
  answers-is k o l a = by-case-below (Answers words of bytes m) k bytes m o l a no

-- ---- the kinds of answer
abbrev AcceptedIs : List ℕ → Memory → Outcome → Type 0
AcceptedIs left m o = Answers done_words accepted_at left m o

abbrev WrittenIs : Memory → Outcome → Type 0
WrittenIs m o = Answers one written_at [] m o

abbrev PeekedIs : Memory → Outcome → Type 0
PeekedIs m o = Answers peek_words peeked_at [] m o

abbrev ExtendedIs : Memory → Outcome → Type 0
ExtendedIs m o = Answers extend_words extended_at [] m o

abbrev PinnedIs : Memory → Outcome → Type 0
PinnedIs m o = Answers pin_words pinned_at [] m o

-- ---- set up
pub set-up-answers : (p at cap : ℕ) (m : Memory) → AcceptedIs [] m (set_up m p at cap)
unfolding set_up
set-up-answers p at cap m = answers-is _ _ (refusal-below _ refl) (yes refl)

-- ---- calls of a holder on a buffer
module _ (h i : ℕ) where
  pub unpin-answers : (m : Memory) → AcceptedIs [] m (unpin m h i)
  unfolding unpin buffer_places holder_place
  unpin-answers m = answers-is _ _ (checked-below m _ refl) (yes refl)

  pub flush-answers : (m : Memory) → WrittenIs m (flush m h i)
  unfolding flush buffer_places holder_place
  flush-answers m = answers-is _ _ (checked-below m _ refl) (yes refl)

  module _ (from : ℕ) (bytes : List ℕ) where
    -- out is what the call says
    pub read-answers : (m : Memory) → AcceptedIs (read m h i from bytes).bytes m (read m h i from bytes)
    unfolding read buffer_places holder_place
    read-answers m = by-case-below (λ o. AcceptedIs o.bytes m o) _ bytes m _ (checked-below m _ refl) (yes refl) no

    pub write-answers : (at : ℕ) (m : Memory) → AcceptedIs bytes m (write m h i from bytes at)
    unfolding write write_places buffer_places holder_place
    write-answers at m = answers-is _ _ (checked-below m _ refl) (yes refl)

-- ---- give back
pub give-answers : (h : ℕ) (m : Memory) → AcceptedIs [] m (give_back m h)
unfolding give_back holder_place
give-answers h m = answers-is _ _ (checked-below m _ refl) (yes refl)

-- ---- checkpoint
pub checkpoint-answers : (m : Memory) → WrittenIs m (checkpoint m)
unfolding checkpoint
checkpoint-answers m = answers-is _ _ (checked-below m _ refl) (yes refl)

-- ---- log positions
module _ (p : ℕ) where
  pub inserted-answers : (m : Memory) → AcceptedIs [] m (log_inserted m p)
  unfolding log_inserted
  inserted-answers m = answers-is _ _ (checked-below m _ refl) (yes refl)

  pub flushed-answers : (m : Memory) → AcceptedIs [] m (log_flushed m p)
  unfolding log_flushed
  flushed-answers m = answers-is _ _ (checked-below m _ refl) (yes refl)

-- ---- calls on a file
module _ (f : FileName) where
  extend-done : (m : Memory) (r : Found) → ExtendedIs m (extend_at m r)
  unfolding extend_at
  extend-done m (found r) = yes refl
  extend-done m missing = yes refl

  pub extend-answers : (m : Memory) → ExtendedIs m (extend m f)
  unfolding extend
  extend-answers m = answers-is _ _ (checked-below m _ refl) (extend-done m (row_of m.rows f))

  drop-done : (m : Memory) (r : Found) → AcceptedIs [] m (drop_at m f r)
  unfolding drop_at
  drop-done m (found r) = yes refl
  drop-done m missing = yes refl

  pub drop-answers : (m : Memory) → AcceptedIs [] m (drop_file m f)
  unfolding drop_file
  drop-answers m = answers-is _ _ (checked-below m _ refl) (drop-done m (row_of m.rows f))

-- ---- calls on a page
module _ (n : PageName) where
  peek-done : (m : Memory) (h : Held) → PeekedIs m (done (part_of m n h) [] m)
  unfolding part_of
  peek-done m (Some b) = yes refl
  peek-done m None = yes refl

  pub peek-answers : (m : Memory) → PeekedIs m (peek m n)
  unfolding peek page_places name_places
  peek-answers m = answers-is _ _ (checked-below m _ refl) (peek-done m (held_in m n))

-- ---- pin
module _ (h : ℕ) (n : PageName) where
  pin-words : (m after : Memory) (i : ℕ) (hit wrote : Bool) (probes : ℕ)
      → PinnedIs m (done (i ∷ ind hit ∷ ind wrote ∷ probes ∷ []) [] after)
  pin-words m after i true true probes = yes refl
  pin-words m after i true false probes = yes refl
  pin-words m after i false true probes = yes refl
  pin-words m after i false false probes = yes refl

  pin-victim : (m : Memory) (s : Swept) (v : Found) → PinnedIs m (pin_victim m h n s v)
  unfolding pin_victim
  pin-victim m s (found v) = pin-words m _ v false (dirty (word_of m v)) s.probes
  pin-victim m s missing = no 5 (omega arith)

  pin-swept : (m : Memory) (s : Swept) → PinnedIs m (pin_swept m h n s)
  unfolding pin_swept
  pin-swept m s = pin-victim m s s.victim

  pin-new : (m : Memory) (l : Link) → PinnedIs m (pin_new m h n l)
  unfolding pin_new pin_free
  pin-new m (To i) = pin-words m _ i false false 0
  pin-new m End = pin-swept m _
  pin-new m Off = pin-swept m _
  pin-new m Bad = pin-swept m _

  pin-done : (m : Memory) (b : Held) → PinnedIs m (pin_to m h n b)
  unfolding pin_to pin_held
  pin-done m (Some b) = pin-words m _ b.0 true false 0
  pin-done m None = pin-new m (link_of m.control.top)

  pub pin-answers : (m : Memory) → PinnedIs m (pin m h n)
  unfolding pin pin_places page_places name_places holder_place
  pin-answers m = answers-is _ _ (checked-below m _ refl) (pin-done m (held_in m n))
