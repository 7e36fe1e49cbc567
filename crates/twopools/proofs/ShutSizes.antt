-- Wrong statements of two sizes are false of the right pool: each is refuted by a list of calls, computed.
use Prim.Native.Nat.{ℕ, ◌*◌, ◌/◌, ◌^◌, ◌<◌}
use native.Mathlib.Nat.{mul-div_cancel_left}
use native.Mathlib.Omega.{arith}
use mathlib.Core.Path.{◌≡◌, refl, sym, ap, ◌∙◌}
use mathlib.Core.Bool.{true, false}
use mathlib.Core.List.{List, [], ◌∷◌}
use lib.ListN.{length}
use Rattle.bufmodel.specs.Rows.{store_blocks}
use Rattle.bufmodel.specs.Sizes.{SizedFor}
use Rattle.bufmodel.specs.Step.{step}
use Rattle.bufmodel.specs.Lent.{opened}
use Rattle.shelf.specs.Statement.{Pool, calling}
use Rattle.shelf.specs.Trial.{size, log, sales, stock, block_of}
use Rattle.shelf.proofs.Demand.{demand-3}
use Rattle.twopools.specs.Asked.{Asked, AskPeek, AskInserted}
use Rattle.twopools.specs.Receipts.{receipts_of}
use Rattle.twopools.specs.TwoSizes.{Setup, FitsSetup, set_up_in, TwoSizesFor}
use Rattle.twopools.specs.WrongSizes.{
  Fewer,
  OneRows,
  OneStore,
  RightParts,
  AnySizes,
  AnyStores,
  AnyRows,
  AnyPositions,
  GivenBackToo,
  AnyPins,
  AnyHolders,
  EvenAtSix,
  LargeNever,
  setup,
  stocked,
  shorter,
  ask_pin,
  both,
  after_unpin,
  after_other,
}
use Rattle.twopools.proofs.SizesTests.{
  named_test,
  named,
  since_test,
  named-since,
  by_test,
  named_by,
  names_in,
  never-in,
  runs,
  served_at,
  served,
  fits-setup,
  Ready,
  one-ready,
  two_ready,
  one-two,
  Served,
  asked,
  Differ,
  apart,
  refusal_at,
  byte_at,
}

-- ---- with the right parts it is the statement
pub right-parts : (pool : Pool) → TwoSizesFor pool → RightParts pool
right-parts pool h p at small large calls fp fat fs fl fc b = h p at small large calls fp fat fs fl fc b.0 b.1 b.2

pub parts-right : (pool : Pool) → RightParts pool → TwoSizesFor pool
parts-right pool h p at small large calls fp fat fs fl fc few rows store = h p at small large calls fp fat fs fl fc (few, rows, store)

-- ---- of the two set-ups
-- two pages at once, in two buffers and in one
both-two : Served named_test (setup 2) both
unfolding runs
both-two = record { fits = refl; serves = refl }

both-differ : Differ (refusal_at 1) (receipts_of (served (setup 1) both)) (receipts_of (served (setup 2) both)) 6 0
unfolding runs
both-differ = record { first = refl; second = refl }

two-one : OneRows (setup 2) (setup 1) × OneStore (setup 2) (setup 1)
unfolding runs
two-one = (refl, refl)

pub any-sizes-shut : AnySizes (calling step) → ⊥
any-sizes-shut h =
    apart (refusal_at 1) both-differ (λ e. omega (arith, e))
    (sym
    (h size log (setup 2) (setup 1) both (omega arith) (omega arith) two_ready.fits one-ready.fits (asked both-two) two-one
    two_ready.up one-ready.up (named _ (names_in both-two)) (never-in both-two)))

-- two blocks of stock
stocked-ready : Ready log (stocked 1)
unfolding runs
stocked-ready = record { fits = fits-setup 2 _ 1 refl; up = refl }

abbrev peeked : List Asked
peeked = AskPeek (block_of stock 0) ∷ []

peeked-one : Served named_test (setup 1) peeked
unfolding runs
peeked-one = record { fits = refl; serves = refl }

peeked-differ : Differ (byte_at 0 10) (receipts_of (served (setup 1) peeked)) (receipts_of (served (stocked 1) peeked)) 0 77
unfolding runs
peeked-differ = record { first = refl; second = refl }

one-stocked : Fewer (setup 1) (stocked 1) × OneRows (setup 1) (stocked 1)
unfolding runs
one-stocked = (omega arith, refl)

pub any-stores-shut : AnyStores (calling step) → ⊥
any-stores-shut h =
    apart (byte_at 0 10) peeked-differ (λ e. omega (arith, e))
    (h size log (setup 1) (stocked 1) peeked (omega arith) (omega arith) one-ready.fits stocked-ready.fits (asked peeked-one)
    one-stocked one-ready.up stocked-ready.up (named _ (names_in peeked-one)) (never-in peeked-one))

-- a block of sales that one of them has
shorter-ready : Ready log (shorter 1)
unfolding runs
shorter-ready = record { fits = fits-setup 1 _ 1 refl; up = refl }

abbrev second : List Asked
second = ask_pin 0 sales 1 ∷ []

second-one : Served named_test (setup 1) second
unfolding runs
second-one = record { fits = refl; serves = refl }

second-differ : Differ (refusal_at 0) (receipts_of (served (setup 1) second)) (receipts_of (served (shorter 1) second)) 0 4
unfolding runs
second-differ = record { first = refl; second = refl }

one-shorter : Fewer (setup 1) (shorter 1) × OneStore (setup 1) (shorter 1)
unfolding runs
one-shorter = (omega arith, refl)

pub any-rows-shut : AnyRows (calling step) → ⊥
any-rows-shut h =
    apart (refusal_at 0) second-differ (λ e. omega (arith, e))
    (h size log (setup 1) (shorter 1) second (omega arith) (omega arith) one-ready.fits shorter-ready.fits (asked second-one)
    one-shorter one-ready.up shorter-ready.up (named _ (names_in second-one)) (never-in second-one))

-- of block sizes there is nothing to refute: where there is a block at all, rows and store say what its size is
sized-up : (p at : ℕ) (b : Setup) → p < 2 ^ 64 → at < 2 ^ 64 → FitsSetup b → (set_up_in (calling step) p at b).result ≡ 0
    → SizedFor p (opened b.lent)
sized-up p at b fp fat f up =
    ((demand-3 b.lent p at b.cap b.answer [] f.lent fp fat f.cap f.answer tt).0.accepted.0 up).0.0

pub one-block-size : (p q at to : ℕ) (small large : Setup) → p < 2 ^ 64 → q < 2 ^ 64 → at < 2 ^ 64 → to < 2 ^ 64 → FitsSetup small
    → FitsSetup large
    → OneRows small large
    → OneStore small large
    → (set_up_in (calling step) p at small).result ≡ 0
    → (set_up_in (calling step) q to large).result ≡ 0
    → 0 < store_blocks small.lent.rows
    → p ≡ q
unfolding opened
one-block-size p q at to small large fp fq fat fto fs fl rows store s l some =
    let n = store_blocks small.lent.rows in
    let first : length small.lent.store ≡ n * p = (sized-up p at small fp fat fs s).store in
    let second : length large.lent.store ≡ store_blocks large.lent.rows * q = (sized-up q to large fq fto fl l).store in
    let one : n * p ≡ n * q = sym first ∙ ap length store ∙ second ∙ ap (λ (r : List ℕ). store_blocks r * q) (sym rows) in
    sym (mul-div_cancel_left p some) ∙ ap (λ (x : ℕ). x / n) one ∙ mul-div_cancel_left q some

-- a position between those of the two
later-ready : Ready 102 (setup 1)
unfolding runs
later-ready = record { fits = one-ready.fits; up = refl }

abbrev between : List Asked
between = AskInserted 101 ∷ []

between-one : Served named_test (setup 1) between
unfolding runs
between-one = record { fits = refl; serves = refl }

between-differ : Differ (refusal_at 0) (receipts_of (served (setup 1) between)) (receipts_of (served_at 102 (setup 1) between)) 0 15
unfolding runs
between-differ = record { first = refl; second = refl }

pub any-positions-shut : AnyPositions (calling step) → ⊥
any-positions-shut h =
    apart (refusal_at 0) between-differ (λ e. omega (arith, e))
    (h size log 102 (setup 1) (setup 1) between (omega arith) (omega arith) (omega arith) one-ready.fits one-ready.fits
    (asked between-one) (omega arith, refl, refl) one-ready.up later-ready.up (named _ (names_in between-one)) (never-in between-one))

-- ---- of the pins
-- the buffer has another page in the smaller pool, and this one, unpinned, in the larger
unpinned-one : Served (since_test (λ k. false)) (setup 1) after_unpin
unfolding runs
unpinned-one = record { fits = refl; serves = refl }

unpinned-differ : Differ (refusal_at 3) (receipts_of (served (setup 1) after_unpin)) (receipts_of (served (setup 2) after_unpin)) 0 8
unfolding runs
unpinned-differ = record { first = refl; second = refl }

pub given-back-shut : GivenBackToo (calling step) → ⊥
given-back-shut h =
    apart (refusal_at 3) unpinned-differ (λ e. omega (arith, e))
    (h size log (setup 1) (setup 2) after_unpin (omega arith) (omega arith) one-ready.fits two_ready.fits (asked unpinned-one) one-two
    one-ready.up two_ready.up (named-since _ _ (names_in unpinned-one)) (never-in unpinned-one))

-- with more pins it says more
pub any-pins-shut : AnyPins (calling step) → ⊥
any-pins-shut h =
    given-back-shut (λ p at s l calls fp fat fs fl fc b su lu named. h p at s l calls fp fat fs fl fc b su lu tt)

-- holder 1 names holder 0's pin, which takes its own
other-one : Served (by_test 1) (setup 1) after_other
unfolding runs
other-one = record { fits = refl; serves = refl }

other_differ : Differ (refusal_at 5) (receipts_of (served (setup 1) after_other)) (receipts_of (served (setup 2) after_other)) 0 8
unfolding runs
other_differ = record { first = refl; second = refl }

pub any-holders-shut : AnyHolders (calling step) → ⊥
any-holders-shut h =
    apart (refusal_at 5) other_differ (λ e. omega (arith, e))
    (h size log (setup 1) (setup 2) after_other (omega arith) (omega arith) one-ready.fits two_ready.fits (asked other-one) one-two
    one-ready.up two_ready.up (named_by 1 _ (names_in other-one)) (never-in other-one))

-- ---- of 6
both-named : named_test (served (setup 1) both) ≡ true
unfolding runs
both-named = refl

pub even-at-six-shut : EvenAtSix (calling step) → ⊥
even-at-six-shut h =
    apart (refusal_at 1) both-differ (λ e. omega (arith, e))
    (h size log (setup 1) (setup 2) both (omega arith) (omega arith) one-ready.fits two_ready.fits (asked both-two) one-two
    one-ready.up two_ready.up (named _ both-named) tt)

pub large-never-shut : LargeNever (calling step) → ⊥
large-never-shut h =
    apart (refusal_at 1) both-differ (λ e. omega (arith, e))
    (h size log (setup 1) (setup 2) both (omega arith) (omega arith) one-ready.fits two_ready.fits (asked both-two) one-two
    one-ready.up two_ready.up (named _ both-named) (never-in both-two))
