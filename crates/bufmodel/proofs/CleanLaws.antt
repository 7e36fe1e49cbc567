-- A write-back of a page that is not dirty leaves the memory as it is.
use Prim.Native.Nat.{ℕ}
use mathlib.Core.Path.{◌≡◌, ap}
use mathlib.Core.Bool.{false}
use mathlib.Core.List.{List}
use lib.Seq.{set-get_or}
use Rattle.bufmodel.specs.Word.{dirty}
use Rattle.bufmodel.specs.Memory.{Memory, word_of, with_states}
use Rattle.bufmodel.specs.Moves.{write_back}

pub back-clean : (m : Memory) → (i : ℕ) → dirty (word_of m i) ≡ false → write_back m i ≡ m
unfolding write_back
back-clean m i d = rw d (ap (λ (x : List ℕ). with_states x m) (set-get_or m.states i 0))
