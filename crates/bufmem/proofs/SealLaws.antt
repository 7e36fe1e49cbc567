-- A block that is put and then changed where it stands.
use Prim.Native.Nat.{ℕ, ◌+◌, ◌*◌, ◌≤◌}
use mathlib.Core.Path.{◌≡◌, ap, ap₂, ◌∙◌}
use mathlib.Core.List.{List}
use lib.ListN.{length}
use Rattle.laws.specs.Block.{block, put_block}
use Rattle.laws.proofs.Block.{block-there, put-again}

pub put-changed : (p i : ℕ) (ys xs : List ℕ) → i * p + p ≤ length xs → length ys ≡ p → (f : List ℕ → List ℕ) {mid new : List ℕ}
    → mid ≡ put_block p i ys xs
    → new ≡ f (block p i mid)
    → put_block p i new mid ≡ put_block p i (f ys) xs
put-changed p i ys xs room long f e c =
    ap₂ (put_block p i) (c ∙ ap (λ (l : List ℕ). f (block p i l)) e ∙ ap f (block-there p i ys xs room long)) e
    ∙ put-again p i ys xs room long (f ys)
