-- Demand 1: every call over any lent memory, and set up, is accepted exactly under the table's conditions.
use Prim.Native.Nat.{ℕ, zero, suc}
use mathlib.Core.Path.{◌≡◌, refl, sym, ap, ◌∙◌, subst}
use mathlib.Core.Logic.{◌≢◌, ⊎_elim}
use mathlib.Core.Bool.{Bool, true, false, not}
use mathlib.Core.List.{List, []}
use native.Mathlib.Omega.{arith}
use lib.ListN.{length}
use borrow.Author.Tests.{eq-eqb, ne_eqb}
use Rattle.laws.proofs.Tests.{eq-or-ne}
use Rattle.bufmodel.specs.Memory.{Memory}
use Rattle.bufmodel.specs.Sizes.{sized}
use Rattle.bufmodel.specs.Books.{BooksSound, sound}
use Rattle.bufmodel.specs.Outcome.{Outcome, checked, refused, zeros}
use Rattle.bufmodel.specs.Calls.{set_up}
use Rattle.bufmodel.specs.Step.{Call, step}
use Rattle.bufmodel.specs.Lent.{Lent, Called, opened, ended, called}
use Rattle.bufmodel.proofs.SizesLaws.{sizes-say}
use Rattle.bufmodel.proofs.BooksLaws.{books-say}
use Rattle.bufmodel.proofs.OutcomeLaws.{refusal-at, refusal-past}
use Rattle.bufmodel.proofs.AnswerLaws.{end-first}
use Rattle.shelf.specs.Shelf.{first_of}
use Rattle.shelf.specs.Statement.{own, calling}
use Rattle.shelf.specs.Guards.{table, Refuses, Fitting, Demand1}
use Rattle.shelf.proofs.SetUpSays.{sets-up}
use Rattle.shelf.proofs.GuardsTable.{own_places, does, step_is, step-number, step-refused}

-- ---- the places 1 and 2
module _ (m : Memory) where
  gives_one : sized m ≡ false → checked m [] ≡ 1
  unfolding checked
  gives_one e = refusal-at 1 _ (ap not e)

  gives-two : sized m ≡ true → sound m ≡ false → checked m [] ≡ 2
  unfolding checked
  gives-two e f = refusal-past 1 _ (ap not e) ∙ refusal-at 2 _ (ap not f)

-- ---- an outcome as the caller in C has it
module _ (m : Lent) where
  -- its number stays
  ended-number : (o : Outcome) (k : ℕ) → (ended m o k).result ≡ k
  unfolding ended
  ended-number o zero = refl
  ended-number o (suc k) = refl

  -- refused: nothing changed, to the letter
  ended-refused : {o : Outcome} (bytes : List ℕ) (n : Memory) (k : ℕ) → k ≢ 0 → o ≡ refused k bytes n
      → Refuses k bytes m zeros (ended m o k)
  unfolding ended
  ended-refused bytes n zero h e = absurd (h refl)
  ended-refused bytes n (suc k) h e = rw e refl

module _ (c : Call) (m : Lent) (answer : List ℕ) where
  abbrev ends : Called
  ends = (calling step).calls c m (own c) answer

  abbrev stepped : Outcome
  stepped = step (opened m) c

  -- ---- by the lengths of the answer slice and of the control record
  slice-refused : length answer ≢ 4 → Refuses 1 (own c) m answer ends
  unfolding called
  slice-refused ne = rw (ne_eqb (length answer) 4 ne) refl

  module _ (la : length answer ≡ 4) where
    short : length m.control ≢ 6 → Refuses 1 (own c) m zeros ends
    unfolding called
    short ne = rw (eq-eqb (length answer) 4 la, ne_eqb (length m.control) 6 ne) refl

    long : length m.control ≡ 6 → ends ≡ ended m stepped stepped.refusal
    unfolding called
    long lc = rw (eq-eqb (length answer) 4 la, eq-eqb (length m.control) 6 lc) refl

    -- ---- refused
    left : length m.control ≡ 6 → stepped.refusal ≢ 0 → Refuses stepped.refusal (own c) m zeros ends
    left lc h = long lc ∙ ended-refused m (own c) (opened m) stepped.refusal h (step-refused (opened m) c h)

    result-is : length m.control ≡ 6 → ends.result ≡ stepped.refusal
    result-is lc = ap (λ (r : Called). r.result) (long lc) ∙ ended-number m stepped stepped.refusal

    call-refused : ends.result ≢ 0 → Refuses ends.result (own c) m zeros ends
    call-refused h =
        ⊎_elim
        (λ lc.
        let e = result-is lc in
        subst (λ (k : ℕ). Refuses k (own c) m zeros ends) (sym e) (left lc (λ z. h (e ∙ z))))
        (λ ne.
        let e = short ne in
        subst (λ (k : ℕ). Refuses k (own c) m zeros ends) (sym (ap (λ (r : Called). r.result) e)) e)
        (eq-or-ne (length m.control) 6)

    -- by a place of all calls
    early : {k : ℕ} → length m.control ≡ 6 → checked (opened m) [] ≡ suc k → Refuses (suc k) (own c) m zeros ends
    early {k} lc e =
        let o : stepped ≡ refused (suc k) (own c) (opened m) =
        step_is (opened m) c
        ∙ end-first (opened m) (own_places (opened m) c) (own c) (does (opened m) c) (sym e) (λ z. omega arith) in
        let n : stepped.refusal ≡ suc k = ap (λ (x : Outcome). x.refusal) o in
        subst (λ (j : ℕ). Refuses j (own c) m zeros ends) n (left lc (λ z. omega arith))

    sizes-refused : (Fitting m → ⊥) → (t : Bool) → sized (opened m) ≡ t → Refuses 1 (own c) m zeros ends
    unfolding sized
    sizes-refused nay true e = short (λ lc. nay ((sizes-say _ _).holds e, lc))
    sizes-refused nay false e =
        ⊎_elim (λ lc. early lc (gives_one (opened m) e)) (λ ne. short ne) (eq-or-ne (length m.control) 6)

    module _ (fits : Fitting m) where
      books-refused : (BooksSound (opened m) → ⊥) → (t : Bool) → sound (opened m) ≡ t → Refuses 2 (own c) m zeros ends
      unfolding sized
      books-refused nay true e = absurd (nay ((books-say (opened m)).holds e))
      books-refused nay false e = early fits.1 (gives-two (opened m) ((sizes-say _ _).shown fits.0) e)

      -- ---- the table
      number_is : BooksSound (opened m) → ends.result ≡ first_of (table (opened m) c)
      number_is b = result-is fits.1 ∙ step-number (opened m) (record { sizes = fits.0; books = b }) c

-- ---- set up
set-up-slice : (m : Lent) (p at cap : ℕ) (answer : List ℕ) → length answer ≢ 4
    → Refuses 1 [] m answer (called (λ k. set_up k p at cap) m [] answer)
unfolding called
set-up-slice m p at cap answer ne = rw (ne_eqb (length answer) 4 ne) refl

-- DEMAND 1
pub demand-1 : Demand1
demand-1 =
    record {
      sets_up = λ p at cap m answer. record { slice = set-up-slice m p at cap answer; sizes = sets-up m p at cap answer };
      calls = λ c m answer.
          record {
            slice = slice-refused c m answer;
            sizes = λ la nay. sizes-refused c m answer la nay (sized (opened m)) refl;
            books = λ la fits nay. books-refused c m answer la fits nay (sound (opened m)) refl;
            number = number_is c m answer;
            refused = call-refused c m answer;
          };
    }
