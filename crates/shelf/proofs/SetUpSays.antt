-- Set up is accepted exactly where lengths and rows keep the rules and the cap is from 1 to 15, and leaves the books of empty buffers.
use Prim.Native.Nat.{ℕ, zero, suc, ◌+◌, ◌<◌, ◌*◌}
use mathlib.Core.Path.{◌≡◌, refl, sym, ap, ◌∙◌, subst}
use mathlib.Core.Logic.{⊎_elim, inl, inr}
use mathlib.Core.Bool.{Bool, true, false, not, cond}
use mathlib.Core.List.{List, [], ◌∷◌}
use native.Mathlib.Omega.{arith}
use lib.ListN.{length, length-replicate, get_or-replicate}
use lib.IntN.{pos}
use lib.Dec.{eqb}
use borrow.Author.Tests.{eq-eqb, ne_eqb, eqb-true, eqb-false}
use Rattle.laws.specs.Says.{Says}
use Rattle.laws.proofs.Lists.{get_d-replicate-all}
use Rattle.laws.proofs.Tests.{eq-or-ne, never}
use Rattle.laws.proofs.Says.{says-le, says-and}
use Rattle.buftag.specs.Link.{none, number_at}
use Rattle.bufmodel.specs.Word.{sound_cap}
use Rattle.bufmodel.specs.Memory.{Memory, buffers}
use Rattle.bufmodel.specs.Sizes.{sized_for, SizedFor}
use Rattle.bufmodel.specs.Outcome.{place, refusal_of, zeros, done, outcome}
use Rattle.bufmodel.specs.Calls.{free_links, fresh, set_up}
use Rattle.bufmodel.specs.Lent.{Lent, Called, control_words, answer_words, top_word, words_of, opened, closed, ended, called}
use Rattle.bufmodel.proofs.SizesLaws.{sizes-say}
use Rattle.bufmodel.proofs.LentLaws.{opened-closed}
use Rattle.bufmodel.proofs.FreshLaws.{fresh-word, fresh-name, fresh-good}
use Rattle.shelf.specs.Published.{marks_of, Alike, list_end}
use Rattle.shelf.specs.Statement.{fresh_marks, Fresh, Lends, Capped, SetsUp}

-- ---- the free list
free-number : (j n i : ℕ) → i < n → number_at (free_links j n) i ≡ cond (eqb (suc i) n) list_end (pos (suc (j + i)))
unfolding free_links
free-number j zero i l = absurd (omega arith)
free-number j (suc zero) zero l = refl
free-number j (suc zero) (suc i) l = absurd (omega arith)
free-number j (suc (suc n)) zero l = rw (ne_eqb 1 (suc (suc n)) (λ q. omega arith)) (ap pos (omega arith))
free-number j (suc (suc n)) (suc i) l =
    free-number (suc j) (suc n) i (omega arith)
    ∙ ⊎_elim
    (λ e. rw (eq-eqb (suc i) (suc n) e, eq-eqb (suc (suc i)) (suc (suc n)) (omega arith)))
    (λ ne. rw (ne_eqb (suc i) (suc n) ne, ne_eqb (suc (suc i)) (suc (suc n)) (λ q. omega arith)) (ap pos (omega arith)))
    (eq-or-ne (suc i) (suc n))

-- ---- the fresh memory, as it is lent
module _ (m : Lent) (p at cap : ℕ) (s : SizedFor p (opened m)) where
  abbrev k : Memory
  k = opened m

  back : opened (closed (fresh k p at cap)) ≡ fresh k p at cap
  unfolding fresh
  back = opened-closed (fresh k p at cap) (inr (0, refl, omega arith))

  fresh-alike : Alike (length m.states) (length m.heads) (marks_of (fresh k p at cap)) (fresh_marks (length m.states))
  unfolding fresh opened
  fresh-alike =
      record {
        words = λ i l. fresh-word k p at cap i;
        names = λ i l. fresh-name k p at cap i;
        links = λ i l.
            free-number 0 (buffers k) i l ∙ ap (λ (t : ℕ). cond (eqb (suc i) (buffers k)) list_end (pos (suc t))) (omega arith);
        chains = λ i l. get_or-replicate (length m.chain) i none (pos 0) (omega (arith, s.chain));
        heads = λ i l. get_or-replicate (length m.heads) i none (pos 0) l;
        counts = λ i h l few. get_d-replicate-all (length m.counts) (i * 64 + h) 0;
        hand = refl;
        top = refl;
      }

  fresh-lent : Capped cap → Fresh m (closed (fresh k p at cap)) p at cap
  unfolding fresh opened closed words_of top_word
  fresh-lent c =
      record {
        many = length-replicate (length m.states) 0;
        wide = length-replicate (length m.heads) none;
        sizes = subst (SizedFor p) (sym back) (fresh-good k p at cap s c).sizes;
        alike = subst
            (λ (x : Memory). Alike (length m.states) (length m.heads) (marks_of x) (fresh_marks (length m.states)))
            (sym back) fresh-alike;
        control = refl;
        pool = refl;
        rows = refl;
        store = refl;
      }

-- ---- accepted or refused
-- with a control record of another length, or sizes that do not fit: 1, and nothing changed
refuses-so : (m : Lent) (p at cap : ℕ) → (Lends m p → ⊥) → SetsUp m p at cap (record { result = 1; answer = zeros; bytes = []; lent = m })
refuses-so m p at cap not =
    record {
      accepted = (λ z. absurd (omega arith), λ s. absurd (not s.0));
      fresh = λ z. absurd (omega arith);
      number = λ h. inl (refl, not);
      refused = λ h. refl;
      answer = refl;
      bytes = refl;
    }

-- the test of a cap decides that it is from 1 to 15
cap-says : (cap : ℕ) → Says (sound_cap cap) (Capped cap)
unfolding sound_cap
cap-says cap = says-and (says-le 1 cap) (says-le cap 15)

module _ (m : Lent) (p at cap : ℕ) where
  -- by the tests of the sizes and the cap
  abbrev ends : Bool → Bool → Called
  ends t u =
      let o = outcome (refusal_of (place 1 (not t) ∷ place 18 (not u) ∷ [])) [] (opened m) (done zeros [] (fresh (opened m) p at cap)) in
      ended m o o.refusal

  by-cap : Lends m p → (u : Bool) → sound_cap cap ≡ u → SetsUp m p at cap (ends true u)
  unfolding refusal_of outcome ended
  by-cap s true e =
      record {
        accepted = (λ z. (s, (cap-says cap).holds e), λ y. refl);
        fresh = λ z. fresh-lent m p at cap s.0 ((cap-says cap).holds e);
        number = λ h. absurd (h refl);
        refused = λ h. absurd (h refl);
        answer = refl;
        bytes = refl;
      }
  by-cap s false e =
      let bad : Capped cap → ⊥ = λ c. never ((cap-says cap).shown c) e in
      record {
        accepted = (λ z. absurd (omega arith), λ y. absurd (bad y.1));
        fresh = λ z. absurd (omega arith);
        number = λ h. inr (refl, s);
        refused = λ h. refl;
        answer = refl;
        bytes = refl;
      }

  by-sizes : length m.control ≡ control_words → (t : Bool) → sized_for p (opened m) ≡ t → SetsUp m p at cap (ends t (sound_cap cap))
  unfolding refusal_of outcome ended
  by-sizes long true e = by-cap ((sizes-say p (opened m)).holds e, long) (sound_cap cap) refl
  by-sizes long false e = refuses-so m p at cap (λ s. never ((sizes-say p (opened m)).shown s.0) e)

  -- and of the control record's length
  by_length : (t : Bool) → eqb (length m.control) control_words ≡ t
      → SetsUp m p at cap
      (cond t (ends (sized_for p (opened m)) (sound_cap cap)) (record { result = 1; answer = zeros; bytes = []; lent = m }))
  by_length true e = by-sizes (eqb-true _ _ e) (sized_for p (opened m)) refl
  by_length false e = refuses-so m p at cap (λ s. absurd (eqb-false _ _ e s.1))

pub sets-up : (m : Lent) (p at cap : ℕ) (answer : List ℕ) → length answer ≡ answer_words
    → SetsUp m p at cap (called (λ k. set_up k p at cap) m [] answer)
unfolding called set_up
sets-up m p at cap answer long =
    rw (eq-eqb (length answer) answer_words long) (by_length m p at cap (eqb (length m.control) control_words) refl)
