-- One holder more of a buffer, whose counts are looked at as a part of all.
use Prim.Native.Nat.{ℕ, ◌+◌, ◌*◌, ◌<◌}
use native.Mathlib.Omega.{arith}
use mathlib.Core.Path.{◌≡◌, ap, sym, ◌∙◌}
use mathlib.Core.Bool.{Bool, true, false, not}
use mathlib.Core.List.{List}
use lib.Dec.{eqb}
use lib.ListN.{length, get_or, take, drop}
use mir.Val.{bool_byte}
use Rattle.std.proofs.lemmas.List.{get_or-take, get_or-drop, length-take}
use Rattle.laws.specs.Sum.{count}
use Rattle.laws.proofs.Sum.{count-hit, count-miss}
use Rattle.bufmodel.specs.Counts.{max_holders, count_at, has_pin}

-- one test more, as the code adds it
count_next : (p : ℕ → Bool) (n : ℕ) (b : Bool) → b ≡ p n → count (n + 1) p ≡ count n p + bool_byte b
count_next p n true e = count-hit p n (sym e)
count_next p n false e = omega (arith, count-miss p n (sym e))

pub holder_next : (counts : List ℕ) (b m i : ℕ) → i < length (take m (drop (b * max_holders) counts))
    → count (i + 1) (has_pin counts b)
    ≡ count i (has_pin counts b) + bool_byte (not (eqb (get_or (take m (drop (b * max_holders) counts)) i 0) 0))
unfolding has_pin count_at
holder_next counts b m i l =
    let own = drop (b * max_holders) counts in
    count_next (has_pin counts b) i _
    (ap (λ x. not (eqb x 0)) (get_or-take m own i 0 (omega (arith, length-take m own)) ∙ get_or-drop (b * max_holders) counts i 0))
