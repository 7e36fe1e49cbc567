-- Laws of the names in memory: the name of a buffer after a store, and the others'.
use mathlib.Core.Path.{◌≡◌, ◌∙◌, ap}
use mathlib.Core.Logic.{◌≢◌, ⊎_elim}
use mathlib.Core.List.{List}
use Prim.Native.Nat.{ℕ, ◌+◌, ◌*◌, ◌≤◌, ◌<◌}
use native.Mathlib.Nat.{add-zero}
use native.Mathlib.Omega.{arith}
use lib.ListN.{length, get_or}
use lib.Seq.{length-sets}
use Rattle.laws.proofs.Tests.{lt-or-le}
use Rattle.laws.proofs.Sets.{sets-among, sets-before, sets_behind, sets-whole}
use Rattle.buftag.specs.declared.name.PageName.{PageName}
use Rattle.buftag.specs.Names.{name_words, name_at, set_name, words_of}
use Rattle.buftag.proofs.NameLaws.{name-parts}

pub length-set_name : (ws : List ℕ) (i : ℕ) (n : PageName) → length (set_name ws i n) ≡ length ws
length-set_name ws i n = length-sets ws (name_words * i) (words_of n)

-- equal words make equal names
name-words : (ws vs : List ℕ) (i j : ℕ) → ((k : ℕ) → k < name_words → get_or ws (name_words * i + k) 0 ≡ get_or vs (name_words * j + k) 0)
    → name_at ws i ≡ name_at vs j
name-words ws vs i j same =
    name-parts (simp add-zero at (same 0 (omega arith))) (same 1 (omega arith)) (same 2 (omega arith)) (same 3 (omega arith))
    (same 4 (omega arith))

module _ (ws : List ℕ) (i : ℕ) (n : PageName) where
  -- the name of the buffer that was given one
  pub name-put : name_words * i + name_words ≤ length ws → name_at (set_name ws i n) i ≡ n
  name-put h =
      name-words (set_name ws i n) (words_of n) i 0 (λ k l.
      let e : k ≡ name_words * 0 + k = omega arith in
      sets-among 0 ws (name_words * i) (words_of n) k h l ∙ ap (λ (j : ℕ). get_or (words_of n) j 0) e)

  -- another buffer's
  pub name-kept : (j : ℕ) → j ≢ i → name_at (set_name ws i n) j ≡ name_at ws j
  name-kept j ne =
      name-words (set_name ws i n) ws j j (λ k l.
      ⊎_elim
      (λ b. sets-before 0 ws (name_words * i) (words_of n) (name_words * j + k) (omega arith))
      (λ b. sets_behind 0 ws (name_words * i) (words_of n) (name_words * j + k) (omega arith))
      (lt-or-le j i))

-- the only buffer's name is all of the words
pub name-whole : (ws : List ℕ) (n : PageName) → length ws ≡ name_words → set_name ws 0 n ≡ words_of n
name-whole ws n h = sets-whole ws (words_of n) h

-- a buffer's words are within the names
pub name_in : (n i : ℕ) (ws : List ℕ) → length ws ≡ name_words * n → i < n → name_words * i + name_words ≤ length ws
name_in n i ws e h = omega arith
