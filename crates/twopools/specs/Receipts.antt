-- What a pool gives to one list of calls: a receipt, document 02's word in "same receipts", for each call.
use Rattle.std.specs.Prelude.{ℕ, zero, suc, ◌≢◌, List, [], ◌∷◌, get_or}
use Rattle.bufmodel.specs.Checksum.{bare, bare_from}
use Rattle.bufmodel.specs.Outcome.{Outcome}
use Rattle.bufmodel.specs.Calls.{part}
use Rattle.bufmodel.specs.Lent.{Lent, Called}
use Rattle.shelf.specs.Ledger.{buffer_in}
use Rattle.shelf.specs.Statement.{own, outcome_of, Pool}
use Rattle.twopools.specs.Asked.{
  Asked,
  AskPin,
  AskUnpin,
  AskRead,
  AskWrite,
  AskFlush,
  AskGiveBack,
  AskCheckpoint,
  AskPeek,
  AskExtend,
  AskDrop,
  AskInserted,
  AskFlushed,
  resolve,
}
use Rattle.twopools.specs.Pins.{Pins, Names, pins_after}

-- ---- the refusal number, the bytes, an extend's block number. Left out, since pools of two sizes differ in them: buffer numbers, hit,
-- wrote, probes, the counts of pages written, where a peek found its page
pub record Receipt : Type 0 where
  pub refusal : ℕ
  pub bytes : List ℕ
  pub block : ℕ

-- a page's bytes 8 and 9 are left out; what a refused read leaves in the caller's bytes is no page's
unfoldable pub read_bytes : ℕ → ℕ → List ℕ → List ℕ
read_bytes zero from bytes = bare_from from bytes
read_bytes (suc k) from bytes = bytes

-- the bytes that a read fills or a peek hands back; at other calls the caller's own, as they are afterwards
unfoldable pub bytes_by : Asked → Outcome → List ℕ
bytes_by (AskPin h n) o = o.bytes
bytes_by (AskUnpin h k) o = o.bytes
bytes_by (AskRead h k from out) o = read_bytes o.refusal from o.bytes
bytes_by (AskWrite h k from bytes at) o = o.bytes
bytes_by (AskFlush h k) o = o.bytes
bytes_by (AskGiveBack h) o = o.bytes
bytes_by AskCheckpoint o = o.bytes
bytes_by (AskPeek n) o = bare (part o)
bytes_by (AskExtend f) o = o.bytes
bytes_by (AskDrop f) o = o.bytes
bytes_by (AskInserted p) o = o.bytes
bytes_by (AskFlushed p) o = o.bytes

unfoldable pub block_by : Asked → Outcome → ℕ
block_by (AskPin h n) o = 0
block_by (AskUnpin h k) o = 0
block_by (AskRead h k from out) o = 0
block_by (AskWrite h k from bytes at) o = 0
block_by (AskFlush h k) o = 0
block_by (AskGiveBack h) o = 0
block_by AskCheckpoint o = 0
block_by (AskPeek n) o = 0
block_by (AskExtend f) o = get_or o.answer 0 0
block_by (AskDrop f) o = 0
block_by (AskInserted p) o = 0
block_by (AskFlushed p) o = 0

unfoldable pub receipt : Asked → Outcome → Receipt
receipt c o = record { refusal = o.refusal; bytes = bytes_by c o; block = block_by c o }

-- ---- a list of calls given to a pool
-- one call of it: the pins before it, what was asked, what the pool ended with
pub record Turn : Type 0 where
  pub pins : Pins
  pub asked : Asked
  pub ended : Called

-- each call has an answer slice of its own, by its index
abbrev pub called_by : Pool → (ℕ → List ℕ) → Lent → Pins → Asked → Called
called_by pool slices m p c = let d = resolve p.number c in pool.calls d m (own d) (slices p.made)

abbrev pub pins_then : Pins → Asked → Called → Pins
pins_then p c r = pins_after p c r.result (buffer_in r.answer)

-- each call gets the lent memory as the call before left it, and the numbers that the pins before it got
unfoldable pub turns : Pool → (ℕ → List ℕ) → Lent → Pins → List Asked → List Turn
turns pool slices m p [] = []
turns pool slices m p (c ∷ cs) =
    let r = called_by pool slices m p c in
    record { pins = p; asked = c; ended = r } ∷ turns pool slices r.lent (pins_then p c r) cs

unfoldable pub receipts_of : List Turn → List Receipt
receipts_of [] = []
receipts_of (t ∷ ts) = receipt t.asked (outcome_of t.ended) ∷ receipts_of ts

-- in which a call on a buffer names one of its holder's pins not yet given back
unfoldable pub Named : List Turn → Type 0
Named [] = Unit {0}
Named (t ∷ ts) = Names t.pins t.asked × Named ts

-- the pool never answers 6
unfoldable pub NeverSix : List Turn → Type 0
NeverSix [] = Unit {0}
NeverSix (t ∷ ts) = (t.ended.result ≢ 6) × NeverSix ts
