-- What no list of calls after a set up shows of the cap: there the books are sound after each call, and the cap is the set-up's. Calls that
-- take another cap for one that is bad, or below a usage count, are shut out by demand 1, which is of any lent memory; calls that change
-- the cap of a memory that no list reaches, by demand 2.
use Prim.Native.Nat.{ℕ, ◌+◌, ◌%◌, ◌^◌, max, min}
use native.Mathlib.Omega.{arith}
use mathlib.Core.Path.{◌≡◌, refl, ap}
use mathlib.Core.Bool.{true, false}
use mathlib.Core.List.{List, [], ◌∷◌}
use lib.ListN.{length, get_or, set}
use Rattle.laws.proofs.Tests.{never}
use Rattle.bufmodel.specs.Word.{usage}
use Rattle.bufmodel.specs.Memory.{cap_of}
use Rattle.bufmodel.specs.Sizes.{sized_for}
use Rattle.bufmodel.specs.Books.{sound}
use Rattle.bufmodel.specs.Step.{Checkpoint, step}
use Rattle.bufmodel.specs.Lent.{Lent, Called, opened}
use Rattle.bufmodel.proofs.SizesLaws.{sizes-say}
use Rattle.bufmodel.proofs.BooksLaws.{books-say}
use Rattle.shelf.specs.Published.{Demand2For}
use Rattle.shelf.specs.Statement.{Pool, calling}
use Rattle.shelf.specs.Guards.{Demand1For}
use Rattle.shelf.specs.Trial.{size, log, cap, bench, sales, pin_by, pin, slice, all_below}
use Rattle.shelf.specs.Changes.{Change, if_accepted, stepping, leaving, with_control_words, lends}
use Rattle.shelf.specs.WrongCaps.{with_cap}
use Rattle.shelf.proofs.Computes.{computes}
use Rattle.shelf.proofs.Trials.{below}

-- ---- calls that take another cap
-- the right pool's calls over a memory with another cap word
abbrev pub cap_word : (ℕ → ℕ) → Lent → Lent
cap_word f m = with_control_words (set m.control 5 (f (get_or m.control 5 0))) m

abbrev pub takes_cap : (ℕ → ℕ) → Pool
takes_cap f = lends (cap_word f)

-- the greatest usage count for a cap below it
unfoldable pub greatest : List ℕ → ℕ
greatest [] = 0
greatest (w ∷ ws) = max (usage w) (greatest ws)

abbrev pub raises : Pool
raises = lends (λ m. cap_word (max (greatest m.states)) m)

-- a memory of one buffer with this cap: set up, and with a page pinned by two holders
abbrev pub begun : Lent
begun = ((calling step).sets_up size log cap (bench 1) slice).lent

abbrev capped : ℕ → Lent
capped k = cap_word (λ w. k) begun

abbrev used_twice : ℕ → Lent
used_twice k =
    let once = ((calling step).calls (pin sales 0) begun [] slice).lent in
    cap_word (λ w. k) ((calling step).calls (pin_by 1 sales 0) once [] slice).lent

-- a checkpoint that is accepted over books that are not sound
pub record Trusts (pool : Pool) (m : Lent) : Type 0 where
  pub sized : sized_for (opened m).control.size (opened m) ≡ true
  pub long : length m.control ≡ 6
  pub unsound : sound (opened m) ≡ false
  pub accepted : (pool.calls Checkpoint m [] slice).result ≡ 0

pub shut : (pool : Pool) (m : Lent) → Trusts pool m → Demand1For pool → ⊥
shut pool m t d =
    let h = (d.calls Checkpoint m slice).books refl ((sizes-say _ (opened m)).holds t.sized, t.long)
    (λ b. never ((books-say (opened m)).shown b) t.unsound) in
    omega (arith, t.accepted, ap (λ (r : Called). r.result) h)

-- 0 is taken for 1, 16 for 15
zero-trusts : Trusts (takes_cap (max 1)) (capped 0)
unfolding computes
zero-trusts = record { sized = refl; long = refl; unsound = refl; accepted = refl }

pub zero-shut : Demand1For (takes_cap (max 1)) → ⊥
zero-shut = shut _ (capped 0) zero-trusts

sixteen-trusts : Trusts (takes_cap (min 15)) (capped 16)
unfolding computes
sixteen-trusts = record { sized = refl; long = refl; unsound = refl; accepted = refl }

pub sixteen-shut : Demand1For (takes_cap (min 15)) → ⊥
sixteen-shut = shut _ (capped 16) sixteen-trusts

-- only the low 32 bits are looked at, or those below the sign
narrow-trusts : Trusts (takes_cap (λ w. w % 2 ^ 32)) (capped (2 ^ 32 + 5))
unfolding computes
narrow-trusts = record { sized = refl; long = refl; unsound = refl; accepted = refl }

pub narrow-shut : Demand1For (takes_cap (λ w. w % 2 ^ 32)) → ⊥
narrow-shut = shut _ (capped (2 ^ 32 + 5)) narrow-trusts

signed-trusts : Trusts (takes_cap (λ w. w % 2 ^ 63)) (capped (2 ^ 63 + 5))
unfolding computes
signed-trusts = record { sized = refl; long = refl; unsound = refl; accepted = refl }

pub signed-shut : Demand1For (takes_cap (λ w. w % 2 ^ 63)) → ⊥
signed-shut = shut _ (capped (2 ^ 63 + 5)) signed-trusts

-- a usage count above the cap is let pass
raises-trusts : Trusts raises (used_twice 1)
unfolding computes greatest
raises-trusts = record { sized = refl; long = refl; unsound = refl; accepted = refl }

pub raises-shut : Demand1For raises → ⊥
raises-shut = shut _ (used_twice 1) raises-trusts

-- ---- a function over the memory whose calls lose the cap
abbrev pub forgets : Change
forgets = if_accepted (λ m c o. leaving (with_cap 1) o)

begun-words : all_below (2 ^ 32) (opened begun).states ≡ true
unfolding computes
begun-words = refl

begun_sized : sized_for (opened begun).control.size (opened begun) ≡ true
unfolding computes
begun_sized = refl

begun-sound : sound (opened begun) ≡ true
unfolding computes
begun-sound = refl

begun-cap : cap_of (opened begun) ≡ 5
unfolding computes
begun-cap = refl

forgot : cap_of (stepping forgets (opened begun) Checkpoint).after ≡ 1
unfolding computes
forgot = refl

pub forgets-shut : Demand2For (stepping forgets) → ⊥
forgets-shut d =
    let m = opened begun in
    let h = d m Checkpoint (below _ _ begun-words) ((sizes-say _ m).holds begun_sized) ((books-say m).holds begun-sound) in
    omega (arith, h.stays, forgot, begun-cap)
