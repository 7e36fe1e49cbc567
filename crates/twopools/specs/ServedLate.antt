-- What the statement of two sizes assumes comes about: a list of calls that a pool of 2 buffers serves, and one of 3 as well. Then one more
-- pin, at which they part.
use Rattle.std.specs.Prelude.{ℕ, ◌-◌, ◌≡◌, List, [], ◌∷◌, ◌++◌, replicate}
use Rattle.bufmodel.specs.Step.{step}
use Rattle.shelf.specs.Statement.{calling}
use Rattle.shelf.specs.Trial.{size, log, sales, stock, block_of}
use Rattle.twopools.specs.Asked.{
  Asked,
  AskUnpin,
  AskRead,
  AskWrite,
  AskGiveBack,
  AskPeek,
  AskExtend,
  AskDrop,
  FitsAsked,
}
use Rattle.twopools.specs.Receipts.{Receipt, receipts_of, Named, NeverSix}
use Rattle.twopools.specs.TwoSizes.{FitsSetup, set_up_in, served_in}
use Rattle.twopools.specs.WrongSizes.{Setups, setup, ask_pin}

-- ---- the list
-- holders 0 and 1 share a page, and one of them writes it; sales gets a third block; stock is pinned, given back and dropped. In 2 buffers
-- the written page gives way to another one of sales, is found in the store by the peek, and comes back
unfoldable pub late : List Asked
late =
    ask_pin 0 sales 0
    ∷ ask_pin 1 sales 0
    ∷ AskWrite 0 0 10 (77 ∷ []) 100
    ∷ AskUnpin 0 0
    ∷ AskRead 1 1 8 (0 ∷ 0 ∷ 0 ∷ [])
    ∷ ask_pin 0 stock 0
    ∷ AskExtend sales
    ∷ AskGiveBack 1
    ∷ AskDrop stock
    ∷ AskGiveBack 0
    ∷ AskDrop stock
    ∷ ask_pin 1 sales 2
    ∷ ask_pin 0 sales 1
    ∷ AskPeek (block_of sales 0)
    ∷ AskUnpin 0 12
    ∷ ask_pin 1 sales 0
    ∷ []

-- a page that neither of the 2 buffers has; both are pinned
abbrev pub one_more : Asked
one_more = ask_pin 0 sales 1

-- ---- its receipts, of both pools
abbrev pub gives : ℕ → List ℕ → ℕ → Receipt
gives refusal bytes block = record { refusal = refusal; bytes = bytes; block = block }

abbrev pub done : Receipt
done = gives 0 [] 0

-- position 100, its low word second, and byte 10. Bytes 8 and 9 are zeros: where the store's block is handed back, its checksum stands
-- there
unfoldable pub written_page : List ℕ
written_page = 0 ∷ 0 ∷ 0 ∷ 0 ∷ 100 ∷ 0 ∷ 0 ∷ 0 ∷ 0 ∷ 0 ∷ 77 ∷ replicate (size - 11) 0

unfoldable pub late_receipts : List Receipt
late_receipts =
    done
    ∷ done
    ∷ gives 0 (77 ∷ []) 0
    ∷ done
    ∷ gives 0 (0 ∷ 0 ∷ 77 ∷ []) 0
    ∷ done
    ∷ gives 0 [] 2
    ∷ done
    ∷ gives 14 [] 0
    ∷ done
    ∷ done
    ∷ done
    ∷ done
    ∷ gives 0 written_page 0
    ∷ done
    ∷ done
    ∷ []

-- ---- all that the statement assumes, and what both answer
abbrev served_of : ℕ → List Asked → List Receipt
served_of n calls = receipts_of (served_in (calling step) size log (setup n) calls)

pub record ServedLate : Type 0 where
  pub fits : FitsSetup (setup 2) × FitsSetup (setup 3) × FitsAsked late
  pub setups : Setups (setup 2) (setup 3)
  pub small_up : (set_up_in (calling step) size log (setup 2)).result ≡ 0
  pub large_up : (set_up_in (calling step) size log (setup 3)).result ≡ 0
  pub named : Named (served_in (calling step) size log (setup 2) late)
  pub never : NeverSix (served_in (calling step) size log (setup 2) late)
  -- the same receipts
  pub small : served_of 2 late ≡ late_receipts
  pub large : served_of 3 late ≡ late_receipts
  -- and one more pin
  pub six : served_of 2 (late ++ (one_more ∷ [])) ≡ late_receipts ++ (gives 6 [] 0 ∷ [])
  pub accepted : served_of 3 (late ++ (one_more ∷ [])) ≡ late_receipts ++ (done ∷ [])
