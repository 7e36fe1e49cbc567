-- What the number of a call's places says of the memory, whatever a ledger says.
use Prim.Native.Nat.{ℕ, ◌≤◌, ◌<◌}
use mathlib.Core.Path.{◌≡◌, refl, sym, ap, ◌∙◌}
use mathlib.Core.Logic.{◌≢◌, ⊎_elim}
use mathlib.Core.Bool.{Bool, true, false, false≢true}
use mathlib.Core.List.{List, [], ◌∷◌}
use native.Mathlib.Omega.{arith}
use borrow.Author.Tests.{eqb-false, leb-false, le-leb, lt-leb, not-true, not-false}
use Rattle.laws.specs.First.{Found, found, missing}
use Rattle.laws.proofs.Tests.{lt-or-le}
use Rattle.laws.proofs.First.{found-missing}
use Rattle.laws.proofs.Every.{all-at, all-false-at}
use Rattle.buftag.specs.Lookup.{Held}
use Rattle.std.specs.Prelude.{Some, None}
use Rattle.buftag.specs.declared.name.PageName.{PageName}
use Rattle.bufmodel.specs.Word.{pinned}
use Rattle.bufmodel.specs.Rows.{blocks_at, row_of, place_of}
use Rattle.bufmodel.specs.Memory.{Memory, buffers, cap_of, word_of}
use Rattle.bufmodel.specs.Counts.{max_holders, count_at, has_pin}
use Rattle.bufmodel.specs.Sweep.{sweep_all}
use Rattle.bufmodel.specs.Outcome.{Place, place, refusal_of}
use Rattle.bufmodel.specs.Pin.{holder_place, no_row, no_block, count_full, no_victim, held_in, name_places, page_places, pin_places}
use Rattle.bufmodel.specs.Calls.{buffer_places}
use Rattle.bufmodel.proofs.RowsLaws.{place_found, place_is}
use Rattle.bufmodel.proofs.GoodLaws.{Good}
use Rattle.bufmodel.proofs.SweepEnds.{sweep-finds}
use Rattle.bufmodel.proofs.OutcomeLaws.{refusal-past, refusal-at, refusal-passed}
use Rattle.shelf.proofs.PublishedWords.{few-used}

-- ---- a holder and a buffer's number: where no place refuses, the holder has a pin on the buffer, and no later place refuses
pub number_passed : (m : Memory) (o i : ℕ) (ps : List Place) → refusal_of (buffer_places m o i ps) ≡ 0
    → (i < buffers m) × (count_at m.counts i o ≢ 0) × (refusal_of ps ≡ 0) × (o < max_holders)
unfolding buffer_places holder_place has_pin
number_passed m o i ps e =
    let h = refusal-passed 19 _ _ (omega arith) e in
    let a = refusal-passed 7 _ _ (omega arith) h.1 in
    let b = refusal-passed 8 _ ps (omega arith) a.1 in
    (leb-false _ _ a.0, eqb-false _ 0 (not-true _ (not-false _ b.0)), b.1, leb-false _ _ h.0)

-- ---- a name
module _ (rows : List ℕ) (n : PageName) where
  -- its two tests are passed where the page has a place
  pub name-past : {g : ℕ} (later : List Place) → place_of rows n ≡ found g → refusal_of (name_places rows n later) ≡ refusal_of later
  unfolding name_places no_row no_block
  name-past later e =
      let p = place_found rows n e in
      refusal-past 3 _ (ap no_row p.1) ∙ refusal-past 4 later (ap (no_block rows n.block.0) p.1 ∙ lt-leb _ _ p.2)

  -- one of them refuses where it has none, whatever is checked later
  pub name-refused : place_of rows n ≡ missing
      → (k : ℕ) × (2 < k) × (k < 5) × ((later : List Place) → refusal_of (name_places rows n later) ≡ k)
  unfolding name_places no_row no_block
  name-refused e = go (row_of rows n.file) refl
    where
      go : (f : Found) → row_of rows n.file ≡ f
          → (k : ℕ) × (2 < k) × (k < 5) × ((later : List Place) → refusal_of (name_places rows n later) ≡ k)
      go missing q = (3, omega arith, omega arith, λ later. refusal-at 3 _ (ap no_row q))
      go (found r) q =
          let behind : blocks_at rows r ≤ n.block.0 =
          ⊎_elim (λ l. found-missing (sym (place_is rows n q l) ∙ e)) (λ l. l) (lt-or-le n.block.0 (blocks_at rows r)) in (
            4,
            omega arith,
            omega arith,
            λ later.
                refusal-past 3 _ (ap no_row q) ∙ refusal-at 4 later (ap (no_block rows n.block.0) q ∙ le-leb _ _ behind),
          )

  -- a number other than 3 and 4: there is such a page, and the number is that of the later places
  pub name-found : {k : ℕ} (later : List Place) → refusal_of (name_places rows n later) ≡ k → k ≢ 3 → k ≢ 4
      → (g : ℕ) × (place_of rows n ≡ found g) × (refusal_of later ≡ k)
  name-found {k} later e three four = go (place_of rows n) refl
    where
      go : (f : Found) → place_of rows n ≡ f → (g : ℕ) × (place_of rows n ≡ found g) × (refusal_of later ≡ k)
      go (found g) q = (g, q, sym (name-past later q) ∙ e)
      go missing q =
          let r = name-refused q in
          let s : r.0 ≡ k = sym (r.3 later) ∙ e in
          ⊎_elim (λ l. absurd (three (omega (arith, r.1)))) (λ l. absurd (four (omega (arith, r.2)))) (lt-or-le r.0 4)

-- ---- a pin: the places 5 and 6
abbrev pub last_places : Memory → ℕ → Held → List Place
last_places m o h = place 5 (count_full m o h) ∷ place 6 (no_victim m h) ∷ []

-- 6 at the last of them
pub last-six : (t u : Bool) → refusal_of (place 5 t ∷ place 6 u ∷ []) ≡ 6 → (t ≡ false) × (u ≡ true)
unfolding refusal_of
last-six true u e = absurd (omega arith)
last-six false true e = (refl, refl)
last-six false false e = absurd (omega arith)

-- a number other than a place's own: it passes, and the number is the later places'
pub past-place : (j : ℕ) (t : Bool) {k : ℕ} (later : List Place) → refusal_of (place j t ∷ later) ≡ k → k ≢ j
    → (t ≡ false) × (refusal_of later ≡ k)
unfolding refusal_of
past-place j true later e other = absurd (other (sym e))
past-place j false later e other = (refl, e)

module _ (m : Memory) (o : ℕ) (n : PageName) where
  -- a number other than 19, 3 and 4: there is such a page, and the number is theirs
  pub pin-found : {k : ℕ} → refusal_of (pin_places m o n) ≡ k → k ≢ 19 → k ≢ 3 → k ≢ 4 → (g : ℕ) × (place_of m.rows n ≡ found g)
  unfolding pin_places page_places holder_place
  pin-found e who three four = let w = name-found m.rows n _ (past-place 19 _ _ e who).1 three four in (w.0, w.1)

  pub pin-last : {k : ℕ} (h : Held) → held_in m n ≡ h → refusal_of (pin_places m o n) ≡ k → k ≢ 19 → k ≢ 3 → k ≢ 4 → k ≢ 17
      → refusal_of (last_places m o h) ≡ k
  unfolding pin_places page_places holder_place
  pin-last h q e who three four sum =
      ap (λ (x : Held). refusal_of (last_places m o x)) (sym q)
      ∙ (past-place 17 _ (last_places m o (held_in m n)) (name-found m.rows n _ (past-place 19 _ _ e who).1 three four).2 sum).1

  -- 6: the page is not held, and every buffer is pinned
  pub pin-stuck : refusal_of (pin_places m o n) ≡ 6 → (held_in m n ≡ None) × ((i : ℕ) → i < buffers m → pinned (word_of m i) ≡ true)
  unfolding no_victim
  pin-stuck e = go (held_in m n) refl
    where
      go : (h : Held) → held_in m n ≡ h → (held_in m n ≡ None) × ((i : ℕ) → i < buffers m → pinned (word_of m i) ≡ true)
      go (Some b) q =
          absurd (false≢true (last-six _ _ (pin-last (Some b) q e (omega arith) (omega arith) (omega arith) (omega arith))).1)
      go None q =
          let six = (last-six _ _ (pin-last None q e (omega arith) (omega arith) (omega arith) (omega arith))).1 in
          (q, all-at (λ i. pinned (word_of m i)) (buffers m) six)

-- ---- an accepted pin
module _ (m : Memory) (o : ℕ) (n : PageName) (z : refusal_of (pin_places m o n) ≡ 0) where
  -- there is such a holder
  pub pin-holder : o < max_holders
  unfolding pin_places holder_place
  pin-holder = leb-false _ _ (refusal-passed 19 _ _ (omega arith) z).0

  -- and such a page
  pub pin-place : (g : ℕ) × (place_of m.rows n ≡ found g)
  pin-place = pin-found m o n z (omega arith) (omega arith) (omega arith)

  -- not held: some buffer is unpinned
  pub pin-open : held_in m n ≡ None → (i : ℕ) × (i < buffers m) × (pinned (word_of m i) ≡ false)
  unfolding no_victim
  pin-open e =
      let last = pin-last m o n None e z (omega arith) (omega arith) (omega arith) (omega arith) in
      let later = (refusal-passed 5 _ _ (omega arith) last).1 in
      all-false-at (λ i. pinned (word_of m i)) (buffers m) (refusal-passed 6 _ [] (omega arith) later).0

  -- so the sweep finds a victim
  pub pin-victim : Good m → held_in m n ≡ None → (v : ℕ) × ((sweep_all (cap_of m) m.states m.control.hand).victim ≡ found v)
  pin-victim g e =
      let u = pin-open e in
      let f = sweep-finds (cap_of m) m.states m.control.hand g.books.hand u.0 u.1 u.2 (few-used m g.books) in
      (f.0, f.1)
