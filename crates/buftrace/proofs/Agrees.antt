-- A pool between two uses, and the same without page bytes.
use Prim.Native.Nat.{ℕ, suc, ◌-◌, ◌*◌, ◌≤◌, ◌<◌}
use mathlib.Core.Path.{◌≡◌}
use mathlib.Core.Bool.{false}
use mathlib.Core.List.{[], ◌∷◌, ◌++◌}
use lib.ListN.{length, get_or, replicate}
use Rattle.buftag.specs.declared.link.Link.TheVariants.{To, End}
use Rattle.buftag.specs.Link.{link_of, link_at}
use Rattle.bufmodel.specs.Word.{dirty}
use Rattle.bufmodel.specs.Memory.{Memory, size, cap_of, word_of, name_of}
use Rattle.bufmodel.specs.Counts.{max_holders}
use Rattle.bufmodel.specs.Books.{empty_at}
use Rattle.bufmodel.proofs.GoodLaws.{Good}
use Rattle.buftrace.specs.Usage.{cap, page, pinned, unpinned, tallied}
use Rattle.buftrace.specs.Trace.{Trace}

-- nobody has a pin, the store is zeros, the free list has the buffers from the first unused one on, rising
pub record Agrees (p n blocks : ℕ) (m : Memory) (t : Trace) : Type 0 where
  pub good : Good m
  pub size_is : size m ≡ p
  pub cap-is : cap_of m ≡ cap
  pub rows : m.rows ≡ 1663 ∷ 5 ∷ 16384 ∷ 0 ∷ blocks ∷ blocks ∷ []
  pub store : m.store ≡ replicate (blocks * p) 0
  pub counts : m.counts ≡ replicate (n * max_holders) 0
  pub least : 1 ≤ n
  pub most : length t.held ≤ n
  pub same : length t.states ≡ length t.held
  pub words : m.states ≡ t.states ++ replicate (n - length t.held) 0
  pub hand : m.control.hand ≡ t.hand
  pub names : (i : ℕ) → i < length t.held → name_of m i ≡ page (get_or t.held i 0)
  pub full : (i : ℕ) → i < length t.held → empty_at m i ≡ false
  pub top-free : length t.held < n → link_of m.control.top ≡ To (length t.held)
  pub top-end : length t.held ≡ n → link_of m.control.top ≡ End
  pub on : (i : ℕ) → length t.held ≤ i → suc i < n → link_at m.free i ≡ To (suc i)
  pub last : (i : ℕ) → length t.held ≤ i → suc i ≡ n → link_at m.free i ≡ End
  -- nothing is written, so no page is dirty and none is written back
  pub clean : (i : ℕ) → i < length t.held → dirty (word_of m i) ≡ false

-- one use of block b makes u of t
pub record UsedOnce (p n blocks : ℕ) (m : Memory) (t u : Trace) (b : ℕ) : Type 0 where
  pub pin-done : (pinned m b).refusal ≡ 0
  pub unpin-done : (unpinned m b).refusal ≡ 0
  pub agrees : Agrees p n blocks (unpinned m b).after u
  pub totals : tallied t.totals (pinned m b).answer ≡ u.totals
