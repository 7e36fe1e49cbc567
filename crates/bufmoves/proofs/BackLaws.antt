-- What write-back leaves of the parts that it is lent.
use Prim.Native.Nat.{ℕ, max}
use mathlib.Core.Path.{◌≡◌, sym}
use mathlib.Core.Bool.{true, false}
use mathlib.Core.List.{List, []}
use lib.ListN.{get_or, set}
use lib.Seq.{set-get_or}
use Rattle.laws.specs.Block.{block}
use Rattle.buftag.specs.Names.{name_at}
use Rattle.bufmodel.specs.declared.control.Control.{Control}
use Rattle.bufmodel.specs.Word.{dirty, make_clean}
use Rattle.bufmodel.specs.Position.{position}
use Rattle.bufmodel.specs.Checksum.{sealed}
use Rattle.bufmodel.specs.Rows.{place_of}
use Rattle.bufmodel.specs.Memory.{Memory, memory}
use Rattle.bufmodel.specs.Moves.{put_at, write_back}

module _ (c : Control) (states names pool rows store : List ℕ) (i : ℕ) where
  abbrev before : Memory
  before = memory c states names pool [] [] [] rows store

  -- a page that is not dirty stays as it is
  pub back-clean : {w : ℕ} → w ≡ get_or states i 0 → dirty w ≡ false → before ≡ write_back before i
  unfolding write_back
  back-clean h e = rw (sym h, e, h, set-get_or states i 0)

  -- a dirty one: flushed, the page at its place, the bits
  pub back-dirty : {w : ℕ} → w ≡ get_or states i 0 → dirty w ≡ true → {c' : Control} {p s : ℕ} {to on : List ℕ}
      → p ≡ position (block c.size i pool)
      → c' ≡ record { size = c.size; hand = c.hand; top = c.top; inserted = c.inserted; flushed = max c.flushed p; cap = c.cap }
      → to ≡ put_at c.size (sealed (name_at names i).block.0 (block c.size i pool)) store (place_of rows (name_at names i))
      → s ≡ make_clean w
      → on ≡ set states i s
      → memory c' on names pool [] [] [] rows to ≡ write_back before i
  unfolding write_back
  back-dirty h e p q r t u = rw (sym h, e, q, p, r, u, t)
