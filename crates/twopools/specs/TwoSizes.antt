-- Bigger boxes, same receipts (document 02): pools of two sizes give one list of calls the same receipts.
use Rattle.std.specs.Prelude.{ℕ, ◌^◌, ◌≤◌, ◌<◌, ◌≡◌, List, length}
use Rattle.bufmodel.specs.Memory.{buffers}
use Rattle.bufmodel.specs.Step.{step}
use Rattle.bufmodel.specs.Lent.{Lent, Called, answer_words, opened}
use Rattle.shelf.specs.Statement.{FitsLent, Pool, calling}
use Rattle.twopools.specs.Asked.{Asked, FitsAsked}
use Rattle.twopools.specs.Pins.{no_pins}
use Rattle.twopools.specs.Receipts.{Turn, turns, receipts_of, Named, NeverSix}

-- what is one pool's own: what it is lent, the cap that it is set up with, an answer slice for set up and one for each call of the list
pub record Setup : Type 0 where
  pub lent : Lent
  pub cap : ℕ
  pub answer : List ℕ
  pub slices : ℕ → List ℕ

-- all that is assumed of numbers, as in demand 3
pub record FitsSetup (b : Setup) : Type 0 where
  pub lent : FitsLent b.lent
  pub cap : b.cap < 2 ^ 64
  pub answer : length b.answer ≡ answer_words
  pub slices : (i : ℕ) → length (b.slices i) ≡ answer_words

abbrev pub buffers_of : Setup → ℕ
buffers_of b = buffers (opened b.lent)

-- its pool set up with a block size and a position, and then the list of calls
abbrev pub set_up_in : Pool → ℕ → ℕ → Setup → Called
set_up_in pool p at b = pool.sets_up p at b.cap b.lent b.answer

abbrev pub served_in : Pool → ℕ → ℕ → Setup → List Asked → List Turn
served_in pool p at b calls = turns pool b.slices (set_up_in pool p at b).lent no_pins calls

-- TWO SIZES, of a pool: N and M buffers, N ≤ M, set up with one block size and position over equal stores and rows, get one list of calls
-- in which a call on a buffer names one of its holder's pins not yet given back. If the smaller never answers 6, both give the same
-- refusals, bytes (a page's 8 and 9 left out) and block numbers at every call. Whatever else is lent, the number of buckets and the cap are
-- each pool's own; which pins were accepted, and whether 6 is answered, is asked of the smaller alone
abbrev pub TwoSizesFor : Pool → Type 0
TwoSizesFor pool =
    (p at : ℕ) (small large : Setup) (calls : List Asked) → p < 2 ^ 64 → at < 2 ^ 64 → FitsSetup small → FitsSetup large → FitsAsked calls
    → buffers_of small ≤ buffers_of large
    → small.lent.rows ≡ large.lent.rows
    → small.lent.store ≡ large.lent.store
    → (set_up_in pool p at small).result ≡ 0
    → (set_up_in pool p at large).result ≡ 0
    → Named (served_in pool p at small calls)
    → NeverSix (served_in pool p at small calls)
    → receipts_of (served_in pool p at small calls) ≡ receipts_of (served_in pool p at large calls)

-- and of this one
abbrev pub TwoSizes : Type 0
TwoSizes = TwoSizesFor (calling step)
