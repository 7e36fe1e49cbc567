-- Demand 1's table: its conditions are those of the pool's own places, so over memory that passes the places 1 and 2 it gives each call's
-- number.
use Prim.Native.Nat.{ℕ, zero, suc, max, ◌+◌}
use mathlib.Core.Path.{◌≡◌, refl, sym, ap, ◌∙◌}
use mathlib.Core.Logic.{◌≢◌}
use mathlib.Core.Bool.{Bool, true, false, not}
use mathlib.Core.List.{List, [], ◌∷◌}
use lib.ListN.{length, take, drop}
use lib.Dec.{eqb, ltb}
use Rattle.laws.specs.Sum.{ind, count}
use Rattle.laws.specs.First.{Found, found, missing}
use Rattle.laws.specs.Block.{block}
use Rattle.buftag.specs.declared.link.Link.{Link}
use Rattle.buftag.specs.declared.link.Link.TheVariants.{To, End, Off, Bad}
use Rattle.buftag.specs.Lookup.{Held}
use Rattle.std.specs.Prelude.{Some, None}
use Rattle.buftag.specs.declared.name.FileName.{FileName}
use Rattle.buftag.specs.declared.name.PageName.{PageName}
use Rattle.buftag.specs.Link.{link_of}
use Rattle.bufmodel.specs.Word.{pins, empty, pinned, dirty}
use Rattle.bufmodel.specs.Rows.{row_of, place_of}
use Rattle.bufmodel.specs.Memory.{Memory, buffers, size, cap_of, word_of, page_of, with_inserted, with_flushed}
use Rattle.bufmodel.specs.Counts.{count_at, has_pin}
use Rattle.bufmodel.specs.Books.{empty_at}
use Rattle.bufmodel.specs.Sweep.{Swept, sweep_all}
use Rattle.bufmodel.specs.Moves.{write_back, write_up_to, of_file}
use Rattle.bufmodel.specs.Outcome.{Outcome, Place, place, refusal_of, checked, zeros, one, done, refused, outcome}
use Rattle.bufmodel.specs.Pin.{holder_place, no_row, no_block, sum_differs, count_full, no_victim, held_in, name_places, page_places, pin_places}
use Rattle.bufmodel.specs.Pin.{pin_held, pin_free, pin_victim, pin_swept, pin_new, pin_to, pin}
use Rattle.bufmodel.specs.Calls.{buffer_places, write_places, file_full, file_pinned, unpin_at, write_to, give_up_to, part_of, extend_at, drop_at}
use Rattle.bufmodel.specs.Calls.{unpin, read, write, flush, give_back, checkpoint, peek, extend, drop_file, log_inserted, log_flushed}
use Rattle.bufmodel.specs.Step.{
  Call,
  Pin,
  Unpin,
  Read,
  Write,
  Flush,
  GiveBack,
  Checkpoint,
  Peek,
  Extend,
  Drop,
  LogInserted,
  LogFlushed,
  step,
}
use Rattle.bufmodel.proofs.OutcomeLaws.{refusal-same}
use Rattle.bufmodel.proofs.GoodLaws.{Good, checked-good}
use Rattle.shelf.specs.Shelf.{first_of, no_file}
use Rattle.shelf.specs.Published.{filed}
use Rattle.shelf.specs.Statement.{own}
use Rattle.shelf.specs.Guards.{private_count, block_past, sum_wrong, pins_full, all_pinned, row_full, page_checks, buffer_checks, table}
use Rattle.shelf.proofs.SumsLaws.{fails-not}
use Rattle.shelf.proofs.MemoryPlaces.{pin-victim}
use Rattle.shelf.proofs.ShelfPlaces.{first-is}

-- ---- every call is its places, and what it does where they pass
module _ (m : Memory) where
  abbrev pub own_places : Call → List Place
  own_places (Pin h n) = pin_places m h n
  own_places (Unpin h i) = buffer_places m h i []
  own_places (Read h i from out) = buffer_places m h i (place 9 (ltb (size m) (from + length out)) ∷ [])
  own_places (Write h i from bytes at) = write_places m h i from bytes at
  own_places (Flush h i) = buffer_places m h i []
  own_places (GiveBack h) = holder_place h ∷ []
  own_places Checkpoint = []
  own_places (Peek n) = page_places m n []
  own_places (Extend f) = let r = row_of m.rows f in place 3 (no_row r) ∷ place 13 (file_full m.rows r) ∷ []
  own_places (Drop f) = place 3 (no_row (row_of m.rows f)) ∷ place 14 (file_pinned m f) ∷ []
  own_places (LogInserted p) = place 15 (ltb p m.control.inserted) ∷ []
  own_places (LogFlushed p) = place 16 (ltb m.control.inserted p) ∷ []

  abbrev pub does : Call → Outcome
  does (Pin h n) = pin_to m h n (held_in m n)
  does (Unpin h i) = done zeros [] (unpin_at m h i)
  does (Read h i from out) = done zeros (take (length out) (drop from (page_of m i))) m
  does (Write h i from bytes at) = done zeros bytes (write_to m i from bytes at)
  does (Flush h i) = done (one (ind (dirty (word_of m i)))) [] (write_back m i)
  does (GiveBack h) = done zeros [] (give_up_to h (buffers m) m)
  does Checkpoint = done (one (count (buffers m) (λ i. dirty (word_of m i)))) [] (write_up_to (buffers m) m)
  does (Peek n) = done (part_of m n (held_in m n)) [] m
  does (Extend f) = extend_at m (row_of m.rows f)
  does (Drop f) = drop_at m f (row_of m.rows f)
  does (LogInserted p) = done zeros [] (with_inserted p m)
  does (LogFlushed p) = done zeros [] (with_flushed (max m.control.flushed p) m)

  pub step_is : (c : Call) → step m c ≡ outcome (checked m (own_places c)) (own c) m (does c)
  unfolding step pin unpin read write flush give_back checkpoint peek extend drop_file log_inserted log_flushed
  step_is (Pin h n) = refl
  step_is (Unpin h i) = refl
  step_is (Read h i from out) = refl
  step_is (Write h i from bytes at) = refl
  step_is (Flush h i) = refl
  step_is (GiveBack h) = refl
  step_is Checkpoint = refl
  step_is (Peek n) = refl
  step_is (Extend f) = refl
  step_is (Drop f) = refl
  step_is (LogInserted p) = refl
  step_is (LogFlushed p) = refl

-- ---- what a call does where its places pass: it is accepted
module _ (m : Memory) where
  extend-accepted : (r : Found) → (extend_at m r).refusal ≡ 0
  unfolding extend_at
  extend-accepted (found r) = refl
  extend-accepted missing = refl

  drop-accepted : (f : FileName) (r : Found) → (drop_at m f r).refusal ≡ 0
  unfolding drop_at
  drop-accepted f (found r) = refl
  drop-accepted f missing = refl

  module _ (h : ℕ) (n : PageName) where
    victim-accepted : (s : Swept) {v : ℕ} → s.victim ≡ found v → (pin_swept m h n s).refusal ≡ 0
    unfolding pin_swept pin_victim
    victim-accepted s e = rw e refl

    new-accepted : {v : ℕ} → (sweep_all (cap_of m) m.states m.control.hand).victim ≡ found v → (l : Link)
        → (pin_new m h n l).refusal ≡ 0
    unfolding pin_new pin_free
    new-accepted e (To i) = refl
    new-accepted e End = victim-accepted _ e
    new-accepted e Off = victim-accepted _ e
    new-accepted e Bad = victim-accepted _ e

    -- a pin of a page that is not held: some buffer is unpinned, so a sweep finds a victim
    pin-accepted : Good m → refusal_of (pin_places m h n) ≡ 0 → (x : Held) → held_in m n ≡ x → (pin_to m h n x).refusal ≡ 0
    unfolding pin_to pin_held
    pin-accepted g z (Some b) e = refl
    pin-accepted g z None e =
        new-accepted (pin-victim m h n z g e).1 (link_of m.control.top)

  accepted : Good m → (c : Call) → refusal_of (own_places m c) ≡ 0 → (does m c).refusal ≡ 0
  accepted g (Pin h n) z = pin-accepted h n g z (held_in m n) refl
  accepted g (Unpin h i) z = refl
  accepted g (Read h i from out) z = refl
  accepted g (Write h i from bytes at) z = refl
  accepted g (Flush h i) z = refl
  accepted g (GiveBack h) z = refl
  accepted g Checkpoint z = refl
  accepted g (Peek n) z = refl
  accepted g (Extend f) z = extend-accepted (row_of m.rows f)
  accepted g (Drop f) z = drop-accepted f (row_of m.rows f)
  accepted g (LogInserted p) z = refl
  accepted g (LogFlushed p) z = refl

-- ---- the conditions, one by one
no-file : (r : Found) → no_row r ≡ no_file r
unfolding no_row no_file
no-file (found r) = refl
no-file missing = refl

twice : (t : Bool) → not (not t) ≡ t
twice true = refl
twice false = refl

module _ (m : Memory) where
  past : (b : ℕ) (r : Found) → no_block m.rows b r ≡ block_past m b r
  unfolding no_block block_past
  past b (found r) = refl
  past b missing = refl

  sum-wrong : (n : PageName) (f : Found) (h : Held) → sum_differs m n f h ≡ sum_wrong m n f h
  unfolding sum_differs sum_wrong
  sum-wrong n (found g) (Some b) = refl
  sum-wrong n (found g) None = sym (fails-not n.block.0 (block (size m) g m.store))
  sum-wrong n missing h = refl

  pins-full : (h : ℕ) (x : Held) → count_full m h x ≡ pins_full m h x
  unfolding count_full pins_full count_at
  pins-full h (Some b) = refl
  pins-full h None = refl

  all-pinned : (h : Held) → no_victim m h ≡ all_pinned m h
  unfolding no_victim all_pinned pinned pins
  all-pinned (Some b) = refl
  all-pinned None = refl

  row-full : (r : Found) → file_full m.rows r ≡ row_full m r
  unfolding file_full row_full
  row-full (found r) = refl
  row-full missing = refl

  no_pin_is : (i h : ℕ) → not (has_pin m.counts i h) ≡ eqb (private_count m i h) 0
  unfolding has_pin count_at
  no_pin_is i h = twice (eqb (private_count m i h) 0)

  -- ---- and the places, in their order
  page-same : (n : PageName) (ps qs : List Place) → refusal_of ps ≡ refusal_of qs
      → refusal_of (page_places m n ps) ≡ refusal_of (page_checks m n qs)
  unfolding page_places name_places page_checks
  page-same n ps qs e =
      let r = row_of m.rows n.file in
      let wrong = sum-wrong n (place_of m.rows n) (held_in m n) in
      refusal-same 3 _ _ (no-file r) (refusal-same 4 _ _ (past n.block.0 r) (refusal-same 17 ps qs wrong e))

  buffer-same : (h i : ℕ) (ps : List Place) → refusal_of (buffer_places m h i ps) ≡ refusal_of (buffer_checks m h i ps)
  unfolding buffer_places buffer_checks holder_place
  buffer-same h i ps = refusal-same 19 _ _ refl (refusal-same 7 _ _ refl (refusal-same 8 ps ps (no_pin_is i h) refl))

  table_is : (c : Call) → refusal_of (own_places m c) ≡ refusal_of (table m c)
  unfolding table holder_place pin_places write_places file_pinned of_file empty_at empty filed pinned pins
  table_is (Pin h n) =
      let x = held_in m n in
      refusal-same 19 _ _ refl
      (page-same n _ _ (refusal-same 5 _ _ (pins-full h x) (refusal-same 6 [] [] (all-pinned x) refl)))
  table_is (Unpin h i) = buffer-same h i _
  table_is (Read h i from out) = buffer-same h i _
  table_is (Write h i from bytes at) = buffer-same h i _
  table_is (Flush h i) = buffer-same h i _
  table_is (GiveBack h) = refl
  table_is Checkpoint = refl
  table_is (Peek n) = page-same n [] [] refl
  table_is (Extend f) =
      let r = row_of m.rows f in
      refusal-same 3 _ _ (no-file r) (refusal-same 13 [] [] (row-full r) refl)
  table_is (Drop f) = refusal-same 3 _ _ (no-file (row_of m.rows f)) refl
  table_is (LogInserted p) = refl
  table_is (LogFlushed p) = refl

-- an outcome's number is that of the places, where what is done after they pass is accepted
outcome-as : (bytes : List ℕ) (m : Memory) (o : Outcome) (k : ℕ) → (k ≡ 0 → o.refusal ≡ 0) → (outcome k bytes m o).refusal ≡ k
unfolding outcome
outcome-as bytes m o zero h = h refl
outcome-as bytes m o (suc k) h = refl

-- THE TABLE'S NUMBER IS THE CALL'S
pub step-number : (m : Memory) → Good m → (c : Call) → (step m c).refusal ≡ first_of (table m c)
step-number m g c =
    let e = checked-good m g (own_places m c) in
    ap (λ (o : Outcome). o.refusal) (step_is m c) ∙ outcome-as (own c) m (does m c) _ (λ z. accepted m g c (sym e ∙ z)) ∙ e
    ∙ table_is m c
    ∙ sym (first-is (table m c))

-- ---- a refused call leaves zeros, the caller's bytes and the memory, whatever memory that is
module _ (m : Memory) where
  module _ (o : ℕ) (n : PageName) where
    victim-refused : (s : Swept) (f : Found) → (pin_victim m o n s f).refusal ≢ 0
        → pin_victim m o n s f ≡ refused (pin_victim m o n s f).refusal [] m
    unfolding pin_victim
    victim-refused s (found v) h = absurd (h refl)
    victim-refused s missing h = refl

    new-refused : (l : Link) → (pin_new m o n l).refusal ≢ 0 → pin_new m o n l ≡ refused (pin_new m o n l).refusal [] m
    unfolding pin_new pin_free pin_swept
    new-refused (To i) h = absurd (h refl)
    new-refused End h = victim-refused _ _ h
    new-refused Off h = victim-refused _ _ h
    new-refused Bad h = victim-refused _ _ h

    pin-refused : (x : Held) → (pin_to m o n x).refusal ≢ 0 → pin_to m o n x ≡ refused (pin_to m o n x).refusal [] m
    unfolding pin_to pin_held
    pin-refused (Some b) h = absurd (h refl)
    pin-refused None h = new-refused (link_of m.control.top) h

  does-refused : (c : Call) → (does m c).refusal ≢ 0 → does m c ≡ refused (does m c).refusal (own c) m
  does-refused (Pin o n) h = pin-refused o n (held_in m n) h
  does-refused (Unpin o i) h = absurd (h refl)
  does-refused (Read o i from out) h = absurd (h refl)
  does-refused (Write o i from bytes at) h = absurd (h refl)
  does-refused (Flush o i) h = absurd (h refl)
  does-refused (GiveBack o) h = absurd (h refl)
  does-refused Checkpoint h = absurd (h refl)
  does-refused (Peek n) h = absurd (h refl)
  does-refused (Extend f) h = absurd (h (extend-accepted m (row_of m.rows f)))
  does-refused (Drop f) h = absurd (h (drop-accepted m f (row_of m.rows f)))
  does-refused (LogInserted p) h = absurd (h refl)
  does-refused (LogFlushed p) h = absurd (h refl)

  outcome-left : (bytes : List ℕ) (o : Outcome) → (o.refusal ≢ 0 → o ≡ refused o.refusal bytes m) → (k : ℕ)
      → let e = outcome k bytes m o in
      e.refusal ≢ 0 → e ≡ refused e.refusal bytes m
  unfolding outcome
  outcome-left bytes o f zero h = f h
  outcome-left bytes o f (suc k) h = refl

  pub step-refused : (c : Call) → (step m c).refusal ≢ 0 → step m c ≡ refused (step m c).refusal (own c) m
  step-refused c = rw (step_is m c) (outcome-left (own c) (does m c) (does-refused c) (checked m (own_places m c)))
