-- Marks in the slots of files: a file whose slot has none is new.
use Prim.Native.Nat.{ℕ, ◌+◌, ◌<◌}
use mathlib.Core.Path.{◌≡◌, ap, sym, ◌∙◌}
use mathlib.Core.Bool.{Bool, true, false}
use mathlib.Core.Logic.{⊎_elim}
use mathlib.Core.List.{List}
use lib.Dec.{eqb}
use lib.ListN.{length, get_or, set}
use lib.Seq.{get_or-set_same, get_or-set_other}
use borrow.Author.Count.{below_more}
use borrow.Author.Tests.{eqb-true, eqb-false}
use Rattle.laws.proofs.Every.{all_none, all_more}
use Rattle.laws.proofs.Says.{says_all, says-not}
use Rattle.laws.proofs.Tests.{never, true-or-false}
use Rattle.buftag.proofs.NameLaws.{says-same-file}
use Rattle.bufmodel.specs.Rows.{file_at}
use Rattle.bufmodel.specs.Sizes.{new_file}
use Rattle.bufbooks.specs.Guesses.{slot_of}

-- the slots of the first rows' files are marked
abbrev pub Marked : List ℕ → List Bool → ℕ → Type 0
Marked rows marks n = (r : ℕ) → r < n → get_or marks (slot_of (file_at rows r)) false ≡ true

pub unmarked-new : (rows : List ℕ) (marks : List Bool) (n : ℕ) → Marked rows marks n → get_or marks (slot_of (file_at rows n)) false ≡ false
    → new_file rows n ≡ true
unfolding new_file
unmarked-new rows marks n k z =
    (says_all n _ _ (λ s l. says-not (says-same-file (file_at rows s) (file_at rows n)))).shown
    (λ s l e. never (k s l) (ap (λ f. get_or marks (slot_of f) false) e ∙ z))

-- one row more is marked
pub marked_more : (rows : List ℕ) (marks : List Bool) (n : ℕ) → Marked rows marks n → {s : ℕ} → s ≡ slot_of (file_at rows n) → s < length marks
    → Marked rows (set marks s true) (n + 1)
marked_more rows marks n k {s} e l = below_more _ n (λ r m. stays _ (k r m)) (at_slot _ (sym e))
  where
    at_slot : (t : ℕ) → t ≡ s → get_or (set marks s true) t false ≡ true
    at_slot t h = ap (λ (x : ℕ). get_or (set marks s true) x false) h ∙ get_or-set_same marks s true false l

    stays : (t : ℕ) → get_or marks t false ≡ true → get_or (set marks s true) t false ≡ true
    stays t h =
        ⊎_elim (λ q. at_slot t (eqb-true t s q)) (λ q. get_or-set_other marks s t true false (eqb-false t s q) ∙ h) (true-or-false (eqb t s))

pub ruleset marks = (all_none, all_more, unmarked-new, marked_more)
