-- Wrong pools are shut out: none of the list meets the statement, and the right pool passes all that they fail on.
use Prim.Native.Nat.{ℕ, zero, suc, ◌^◌}
use native.Mathlib.Omega.{arith}
use mathlib.Core.Path.{◌≡◌, refl, ap}
use mathlib.Core.Bool.{true, cond}
use mathlib.Core.List.{List, [], ◌∷◌, map}
use lib.ListN.{length}
use lib.Dec.{eqb}
use borrow.Author.Tests.{ne_eqb}
use Rattle.laws.proofs.Tests.{and_left, and_right}
use Rattle.std.specs.Prelude.{None}
use Rattle.bufmodel.specs.Rows.{place_of}
use Rattle.bufmodel.specs.Memory.{Memory, with_store, with_hand}
use Rattle.bufmodel.specs.Sizes.{sized_for}
use Rattle.bufmodel.specs.Books.{sound}
use Rattle.bufmodel.specs.Outcome.{Outcome, refused}
use Rattle.bufmodel.specs.Pin.{sum_differs}
use Rattle.bufmodel.specs.Step.{Call, step}
use Rattle.bufmodel.specs.Lent.{Lent, opened, closed, ended, called}
use Rattle.bufmodel.proofs.SizesLaws.{sizes-say}
use Rattle.bufmodel.proofs.BooksLaws.{books-say}
use Rattle.shelf.specs.Shelf.{first_of}
use Rattle.shelf.specs.Published.{Demand2For}
use Rattle.shelf.specs.Statement.{Pool, calling, Demand3For, Demand3}
use Rattle.shelf.specs.Guards.{table, Demand1For}
use Rattle.shelf.specs.Tests.{Fine, Fails}
use Rattle.shelf.specs.Trial.{size, log, cap, bench, unsummed, stock, pin, unpin, slice, Wrong, every, all_below}
use Rattle.shelf.specs.Changes.{Change, if_refused, stepping, calls, pins, leaving}
use Rattle.shelf.specs.WrongCalls.{wrong_refusals, wrong_flushes, wrong_backs, wrong_answers, wrong_pages, wrong_files}
use Rattle.shelf.specs.WrongBooks.{wrong_buffers, wrong_counts}
use Rattle.shelf.specs.WrongSums.{wrong_sums, wrong_bytes, wrong_verified, wrong_refused}
use Rattle.shelf.specs.WrongLent.{wrong_lent, wrong_set_ups}
use Rattle.shelf.specs.WrongCaps.{wrong_rises, wrong_caps}
use Rattle.shelf.specs.WrongPools.{wrong_pools}
use Rattle.shelf.proofs.Computes.{computes}
use Rattle.shelf.proofs.Trials.{below, passes, refuted, tried, is_trial, Passed, Shown, chosen, spread, ◌&◌}
use Rattle.shelf.proofs.ShutHolders.{holders, owners, given, private}

-- ---- the wrong pools of the list
-- list by list: the whole is more than the prover computes in one declaration
refusals : Shown wrong_refusals
unfolding computes
refusals = record { trials = refl; caught = refl; passed = refl }

flushes-once : Passed (chosen (1 ∷ 0 ∷ 0 ∷ 1 ∷ 0 ∷ 0 ∷ 1 ∷ 0 ∷ 0 ∷ []) wrong_flushes)
unfolding computes chosen
flushes-once = refl

flushes-passed : Passed wrong_flushes
unfolding wrong_flushes chosen spread
flushes-passed = ap (spread (0 ∷ 0 ∷ 0 ∷ 1 ∷ 0 ∷ 0 ∷ 2 ∷ 0 ∷ 0 ∷ [])) flushes-once

flushes : Shown wrong_flushes
unfolding computes
flushes = record { trials = refl; caught = refl; passed = flushes-passed }

backs : Shown wrong_backs
unfolding computes
backs = record { trials = refl; caught = refl; passed = refl }

answers : Shown wrong_answers
unfolding computes
answers = record { trials = refl; caught = refl; passed = refl }

pages : Shown wrong_pages
unfolding computes
pages = record { trials = refl; caught = refl; passed = refl }

files : Shown wrong_files
unfolding computes
files = record { trials = refl; caught = refl; passed = refl }

buffers : Shown wrong_buffers
unfolding computes
buffers = record { trials = refl; caught = refl; passed = refl }

counts : Shown wrong_counts
unfolding computes
counts = record { trials = refl; caught = refl; passed = refl }

sums : Shown wrong_sums
unfolding computes
sums = record { trials = refl; caught = refl; passed = refl }

sum_bytes : Shown wrong_bytes
unfolding computes
sum_bytes = record { trials = refl; caught = refl; passed = refl }

verified : Shown wrong_verified
unfolding computes
verified = record { trials = refl; caught = refl; passed = refl }

refused_sums : Shown wrong_refused
unfolding computes
refused_sums = record { trials = refl; caught = refl; passed = refl }

lent : Shown wrong_lent
unfolding computes
lent = record { trials = refl; caught = refl; passed = refl }

set_ups : Shown wrong_set_ups
unfolding computes
set_ups = record { trials = refl; caught = refl; passed = refl }

rises : Shown wrong_rises
unfolding computes
rises = record { trials = refl; caught = refl; passed = refl }

caps : Shown wrong_caps
unfolding computes
caps = record { trials = refl; caught = refl; passed = refl }

pub shown : Shown wrong_pools
unfolding wrong_pools
shown =
    refusals & flushes & backs & answers & pages & files & buffers & counts & sums & sum_bytes & verified & refused_sums & lent & set_ups
    & rises
    & caps
    & holders
    & owners
    & given
    & private

pub caught : map (λ w. tried w.pool w) wrong_pools ≡ map (λ w. Fails w.refused_by) wrong_pools
caught = shown.caught

abbrev pub AllShut : List Wrong → Type 0
AllShut [] = Unit {0}
AllShut (w ∷ ws) = (Demand3For w.pool → ⊥) × AllShut ws

all-shut : (ws : List Wrong) → every (map is_trial ws) ≡ true → map (λ w. tried w.pool w) ws ≡ map (λ w. Fails w.refused_by) ws
    → AllShut ws
unfolding every
all-shut [] h e = tt
all-shut (w ∷ ws) h e =
    let here : tried w.pool w ≡ Fails w.refused_by = cc in (
      refuted w.pool w.lent w.size w.log w.cap w.calls (and_left (is_trial w) _ h) here,
      all-shut ws (and_right (is_trial w) _ h) (cc),
    )

-- WRONG POOLS ARE SHUT OUT
pub shut_out : AllShut wrong_pools
shut_out = all-shut wrong_pools shown.trials caught

-- ---- the right pool passes the same trials: by the theorem, and by computation
abbrev pub AllFine : Pool → List Wrong → Type 0
AllFine pool [] = Unit {0}
AllFine pool (w ∷ ws) = (tried pool w ≡ Fine) × AllFine pool ws

all-fine : (pool : Pool) → Demand3For pool → (ws : List Wrong) → every (map is_trial ws) ≡ true → AllFine pool ws
unfolding every
all-fine pool d [] h = tt
all-fine pool d (w ∷ ws) h =
    let trial = and_left (is_trial w) _ h in
    (passes pool d w.lent w.size w.log w.cap w.calls trial, all-fine pool d ws (and_right (is_trial w) _ h))

pub right-passes : Demand3 → AllFine (calling step) wrong_pools
right-passes d = all-fine (calling step) d wrong_pools shown.trials

pub right-computes : map (tried (calling step)) wrong_pools ≡ map (λ w. Fine) wrong_pools
right-computes = shown.passed

-- ---- a function whose refusals move the hand: demand 2 shuts it out, and `calling` puts back what it moved, so that no call shows it
abbrev pub moves : Change
moves = if_refused (λ m c o. leaving (with_hand 1) o)

-- the bench of two buffers, set up
abbrev begun : Memory
begun = opened ((calling step).sets_up size log cap (bench 2) slice).lent

begun-words : all_below (2 ^ 32) begun.states ≡ true
unfolding computes
begun-words = refl

begun_sized : sized_for begun.control.size begun ≡ true
unfolding computes
begun_sized = refl

begun-sound : sound begun ≡ true
unfolding computes
begun-sound = refl

begun-hand : begun.control.hand ≡ 0
unfolding computes
begun-hand = refl

moved-refusal : (stepping moves begun (unpin 0)).refusal ≡ 8
unfolding computes
moved-refusal = refl

moved-hand : (stepping moves begun (unpin 0)).after.control.hand ≡ 1
unfolding computes
moved-hand = refl

pub moves-shut : Demand2For (stepping moves) → ⊥
moves-shut d =
    let h = d begun (unpin 0) (below _ _ begun-words) ((sizes-say _ begun).holds begun_sized) ((books-say begun).holds begun-sound) in
    let same = h.same (λ z. omega (arith, moved-refusal)) in
    omega (arith, moved-hand, begun-hand, ap (λ (k : Memory). k.control.hand) same)

ended_same : (m : Lent) (o other : Outcome) → other.refusal ≡ o.refusal → other.answer ≡ o.answer → other.bytes ≡ o.bytes
    → let o' = cond (eqb o.refusal 0) o other in ended m o' o'.refusal ≡ ended m o o.refusal
unfolding ended
ended_same m o other e a b = go o.refusal refl
  where
    go : (r : ℕ) → o.refusal ≡ r
        → let o' = cond (eqb o.refusal 0) o other in ended m o' o'.refusal ≡ ended m o o.refusal
    go zero q = rw q
    go (suc k) q = rw (ne_eqb o.refusal 0 (λ z. omega arith)) cc

pub moves-unseen : (c : Call) (m : Lent) (own answer : List ℕ)
    → (calls moves).calls c m own answer ≡ (calling step).calls c m own answer
unfolding called
moves-unseen c m own answer =
    let o = step (opened m) c in
    rw (ended_same m o (leaving (with_hand 1) o) refl refl refl)

-- ---- pins that verify the block of a held page too: no list of calls after a set up shows them, since that block passes; demand 1, which
-- is of any lent memory, shuts them out
abbrev pub verifies_held : Pool
verifies_held =
    pins (λ m c o. let bad = refused 17 [] m in cond (sum_differs m c.page (place_of m.rows c.page) None) bad o)

-- the page of stock is pinned, and its block in the store is bad
abbrev holding : Lent
holding =
    let begun = ((calling step).sets_up size log cap (bench 1) slice).lent in
    let k = opened ((calling step).calls (pin stock 0) begun [] slice).lent in
    closed (with_store (unsummed 1).store k)

holding-sized : sized_for (opened holding).control.size (opened holding) ≡ true
unfolding computes
holding-sized = refl

holding-control : length holding.control ≡ 6
unfolding computes
holding-control = refl

holding-sound : sound (opened holding) ≡ true
unfolding computes
holding-sound = refl

holding-accepts : first_of (table (opened holding) (pin stock 0)) ≡ 0
unfolding computes
holding-accepts = refl

holding-refused : (verifies_held.calls (pin stock 0) holding [] slice).result ≡ 17
unfolding computes
holding-refused = refl

pub held-shut : Demand1For verifies_held → ⊥
held-shut d =
    let sized = (sizes-say _ (opened holding)).holds holding-sized in
    let sounds = (books-say (opened holding)).holds holding-sound in
    let h = (d.calls (pin stock 0) holding slice).number refl (sized, holding-control) sounds in
    omega (arith, h, holding-accepts, holding-refused)
