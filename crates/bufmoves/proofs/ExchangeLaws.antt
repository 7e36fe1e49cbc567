-- What release and load leave of the parts that they are lent.
use Prim.Native.Nat.{ℕ}
use mathlib.Core.Path.{◌≡◌}
use mathlib.Core.List.{List, []}
use lib.ListN.{length, set}
use lib.IntN.{ℤ, pos}
use Rattle.laws.specs.Block.{block, put_block}
use Rattle.buftag.specs.declared.name.PageName.{PageName}
use Rattle.buftag.specs.Name.{bucket_of}
use Rattle.buftag.specs.Names.{set_name, no_name}
use Rattle.buftag.specs.Link.{number_at}
use Rattle.buftag.specs.Chain.{enter_heads, enter_chain, unchain_heads, unchain_chain}
use Rattle.bufmodel.specs.declared.control.Control.{Control}
use Rattle.bufmodel.specs.Word.{loaded}
use Rattle.bufmodel.specs.Memory.{memory}
use Rattle.bufmodel.specs.Moves.{off, release, load_at}
use Rattle.bufmoves.specs.Free.{topped}

module _ (c : Control) (states names pool : List ℕ) (free heads chain : List ℤ) (store : List ℕ) (i : ℕ) where
  pub released : {c' : Control} {states' names' : List ℕ} {free' heads' chain' : List ℤ} → c' ≡ topped c (pos i) → states' ≡ set states i 0
      → names' ≡ set_name names i no_name
      → free' ≡ set free i c.top
      → heads' ≡ unchain_heads heads chain i
      → chain' ≡ unchain_chain chain i
      → memory c' states' names' [] free' heads' chain' [] [] ≡ release (memory c states names [] free heads chain [] []) i
  unfolding release
  released t s n f h l = rw (t, s, n, f, h, l)

  pub loaded-in : (n : PageName) (g : ℕ) {c' : Control} {states' names' pool' : List ℕ} {free' heads' chain' : List ℤ}
      → c' ≡ topped c (number_at free i)
      → states' ≡ set states i loaded
      → names' ≡ set_name names i n
      → pool' ≡ put_block c.size i (block c.size g store) pool
      → free' ≡ set free i off
      → heads' ≡ enter_heads heads (bucket_of n (length heads)) i
      → chain' ≡ enter_chain heads chain (bucket_of n (length heads)) i
      → memory c' states' names' pool' free' heads' chain' [] store
      ≡ load_at (memory c states names pool free heads chain [] store) n i g
  unfolding load_at
  loaded-in n g t s m p f h l = rw (t, s, m, p, f, h, l)
