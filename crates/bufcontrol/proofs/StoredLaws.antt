-- The control record as a call stores it back: hand, top and log positions are the new ones, and the block size and the cap stay.
use mathlib.Core.Path.{◌≡◌, ap, sym, ◌∙◌}
use Prim.Native.Nat.{ℕ}
use mathlib.Core.List.{List}
use lib.IntN.{ℤ}
use Rattle.bufmodel.specs.declared.control.Control.{Control}
use Rattle.bufmodel.specs.Memory.{Memory, memory, with_counts, size, cap_of}
use Rattle.bufmodel.proofs.FixedLaws.{fixed}
pub use Rattle.bufcontrol.specs.Stored.{back}

back-same : (c d : Control) → ◌≡◌ {A = ℕ × ℕ} (d.size, d.cap) (c.size, c.cap) → back c d ≡ d
back-same c d e =
    ap {B = Control}
    (λ (f : ℕ × ℕ). record { size = f.0; hand = d.hand; top = d.top; inserted = d.inserted; flushed = d.flushed; cap = f.1 }) (sym e)

-- a memory with the record that is given is one with the record as it is stored back, where size and cap are those at entry
pub stored : (c d : Control) (states names pool : List ℕ) (free heads chain : List ℤ) (rows store counts : List ℕ) (m : Memory)
    → with_counts counts (memory d states names pool free heads chain rows store) ≡ m → fixed m ≡ (c.size, c.cap)
    → with_counts counts (memory (back c d) states names pool free heads chain rows store) ≡ m
stored c d states names pool free heads chain rows store counts m e same =
    ap (λ x. with_counts counts (memory x states names pool free heads chain rows store))
    (back-same c d (ap (λ (x : Memory). fixed x) e ∙ same))
    ∙ e

-- a memory that is m, whose size and cap are s and k
pub stored-fixed : {after m : Memory} {s k : ℕ} → after ≡ m → fixed m ≡ (s, k) → (size after ≡ s) × (cap_of after ≡ k)
stored-fixed e same =
    let p = ap (λ (x : Memory). fixed x) e ∙ same in (ap (λ (x : ℕ × ℕ). x.0) p, ap (λ (x : ℕ × ℕ). x.1) p)
