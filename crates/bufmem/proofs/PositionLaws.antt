-- The log position at a place among bytes: as two words, as the position of a page, and what storing it leaves.
use Prim.Native.Nat.{ℕ, ◌+◌, ◌*◌, ◌/◌, ◌%◌, ◌^◌, ◌≤◌, ◌<◌}
use mathlib.Core.Path.{◌≡◌, sym, ap, ◌∙◌}
use mathlib.Core.List.{List, ◌++◌, append_assoc}
use native.Mathlib.Nat.{add-zero, add_assoc}
use native.Mathlib.Omega.{arith}
use lib.ListN.{length, get_or, take, drop}
use lib.Seq.{sets, sets-eq, drop-drop, get_or-drop, get_or-take}
use Rattle.laws.specs.Block.{block}
use Rattle.laws.proofs.Sets.{sets-append}
use Rattle.bufhash.specs.Bytes.{word_bytes, word_at}
use Rattle.bufmodel.specs.Position.{position, position_bytes, paste}

-- the high word, then the low one
pub position-words : (at : ℕ) (bytes : List ℕ) → position (drop at bytes) ≡ word_at bytes at * 2 ^ 32 + word_at bytes (at + 4)
unfolding position
position-words at bytes = simp (get_or-drop, add-zero, add_assoc)

-- a page's position lies in its first 8 bytes
word-take : (n k : ℕ) (l : List ℕ) → k + 4 ≤ n → word_at (take n l) k ≡ word_at l k
word-take n k l h =
    let at : (j : ℕ) → j < 4 → get_or (take n l) (k + j) 0 ≡ get_or l (k + j) 0 = λ j m. get_or-take n l (k + j) 0 (omega arith) in
    rw (get_or-take n l k 0 (omega arith), at 1 (omega arith), at 2 (omega arith), at 3 (omega arith))

pub position-block : (p i : ℕ) (pool : List ℕ) → 8 ≤ p → position (drop (i * p) pool) ≡ position (block p i pool)
unfolding position block
position-block p i pool h =
    let page = drop (i * p) pool in
    rw (word-take p 0 page (omega arith), word-take p 4 page (omega arith))

-- bytes stored one by one
pub sets-paste : (at : ℕ) (new bytes : List ℕ) → at + length new ≤ length bytes → sets bytes at new ≡ paste at new bytes
unfolding paste
sets-paste at new bytes h =
    sets-eq new bytes at h ∙ append_assoc (take at bytes) new (drop (at + length new) bytes)
    ∙ ap (λ (l : List ℕ). take at bytes ++ (new ++ l)) (sym (drop-drop (length new) at bytes))

pub position-put : (at p : ℕ) (bytes : List ℕ) → at + 8 ≤ length bytes
    → sets (sets bytes at (word_bytes (p / 2 ^ 32))) (at + 4) (word_bytes (p % 2 ^ 32)) ≡ paste at (position_bytes p) bytes
unfolding position_bytes
position-put at p bytes h =
    sets-append bytes at (word_bytes (p / 2 ^ 32)) (word_bytes (p % 2 ^ 32)) ∙ sets-paste at (position_bytes p) bytes h
