-- No call changes N, P or the number of the store's blocks.
use Prim.Native.Nat.{ℕ}
use mathlib.Core.Path.{◌≡◌, refl}
use mathlib.Core.List.{List}
use Rattle.laws.specs.First.{Found, found, missing}
use Rattle.bufmodel.specs.Rows.{row_of, store_blocks, place_of}
use Rattle.bufmodel.specs.Step.{
  Call,
  Pin,
  Unpin,
  Read,
  Write,
  Flush,
  GiveBack,
  Checkpoint,
  Peek,
  Extend,
  Drop,
  LogInserted,
  LogFlushed,
}
use Rattle.bufmodel.proofs.RowsLaws.{store-set}
use Rattle.shelf.specs.Shelf.{Shelf, pinned_at, unpinned_at, given_back, written_at, extended_at, dropped_at, shelf_after}

pub record SameSizes (s t : Shelf) : Type 0 where
  pub buffers : t.buffers ≡ s.buffers
  pub size : t.size ≡ s.size
  pub blocks : store_blocks t.rows ≡ store_blocks s.rows

same-sizes : {s : Shelf} → SameSizes s s
same-sizes = record { buffers = refl; size = refl; blocks = refl }

module _ (s : Shelf) where
  pinned-sizes : (h b : ℕ) (g : Found) → SameSizes s (pinned_at s h b g)
  unfolding pinned_at
  pinned-sizes h b (found g) = record { buffers = refl; size = refl; blocks = refl }
  pinned-sizes h b missing = same-sizes

  unpinned-sizes : (h b : ℕ) (g : Found) → SameSizes s (unpinned_at s h b g)
  unfolding unpinned_at
  unpinned-sizes h b (found g) = record { buffers = refl; size = refl; blocks = refl }
  unpinned-sizes h b missing = same-sizes

  given-sizes : (h : ℕ) → SameSizes s (given_back s h)
  unfolding given_back
  given-sizes h = record { buffers = refl; size = refl; blocks = refl }

  written-sizes : (from : ℕ) (bytes : List ℕ) (at : ℕ) (g : Found) → SameSizes s (written_at s from bytes at g)
  unfolding written_at
  written-sizes from bytes at (found g) = record { buffers = refl; size = refl; blocks = refl }
  written-sizes from bytes at missing = same-sizes

  extended-sizes : (r : Found) → SameSizes s (extended_at s r)
  unfolding extended_at
  extended-sizes (found r) = record { buffers = refl; size = refl; blocks = store-set s.rows r _ }
  extended-sizes missing = same-sizes

  dropped-sizes : (r : Found) → SameSizes s (dropped_at s r)
  unfolding dropped_at
  dropped-sizes (found r) = record { buffers = refl; size = refl; blocks = store-set s.rows r 0 }
  dropped-sizes missing = same-sizes

  pub sizes-after : (c : Call) (b : ℕ) → SameSizes s (shelf_after s c b)
  unfolding shelf_after
  sizes-after (Pin h n) b = pinned-sizes h b (place_of s.rows n)
  sizes-after (Unpin h i) b = unpinned-sizes h i (s.holds i)
  sizes-after (Read h i from out) b = same-sizes
  sizes-after (Write h i from bytes at) b = written-sizes from bytes at (s.holds i)
  sizes-after (Flush h i) b = same-sizes
  sizes-after (GiveBack h) b = given-sizes h
  sizes-after Checkpoint b = same-sizes
  sizes-after (Peek n) b = same-sizes
  sizes-after (Extend f) b = extended-sizes (row_of s.rows f)
  sizes-after (Drop f) b = dropped-sizes (row_of s.rows f)
  sizes-after (LogInserted p) b = record { buffers = refl; size = refl; blocks = refl }
  sizes-after (LogFlushed p) b = same-sizes
