-- How a call ends: refused by a place of all calls, refused by one of its own, or done; and what its code then answers.
use Prim.Native.Nat.{ℕ, zero, suc}
use mathlib.Core.Path.{◌≡◌, refl, sym, ◌∙◌, ap}
use mathlib.Core.Logic.{◌≢◌}
use mathlib.Core.List.{List, []}
use Rattle.std.specs.Prelude.{Result, Ok, Err}
use Rattle.bufmodel.specs.declared.refusal.Refusal.{Refusal}
use Rattle.bufmodel.specs.Memory.{Memory}
use Rattle.bufmodel.specs.Outcome.{Outcome, Place, zeros, one, refusal_of, checked, done, refused, outcome}
use Rattle.bufmodel.specs.Refusal.{refusal_number, refusal_at}
use Rattle.bufmodel.specs.Answer.{answer_at, result_number, result_words, done_words, accepted_at, written_at}
use Rattle.bufmodel.proofs.RefusalLaws.{refusal-not0, refusal-back}
use Rattle.bufmodel.proofs.OutcomeLaws.{outcome-done, outcome-refused}
use Rattle.bufmodel.proofs.GoodLaws.{Good, checked-good, checked-early}

-- ---- the ends
-- refused with the number that the places gave
pub end-at : (bytes : List ℕ) (m : Memory) (o : Outcome) {k n : ℕ} → k ≡ n → k ≢ 0 → outcome n bytes m o ≡ refused k bytes m
end-at bytes m o {k} e h = rw (← e) (outcome-refused bytes m o k h)

module _ (m : Memory) (own : List Place) (bytes : List ℕ) (o : Outcome) where
  -- by a place of all calls
  pub end-first : {k : ℕ} → k ≡ checked m [] → k ≢ 0 → outcome (checked m own) bytes m o ≡ refused k bytes m
  end-first e h = end-at bytes m o (checked-early m own e h) h

  module _ (g : Good m) where
    -- by one of its own
    pub end-own : {k : ℕ} → refusal_of own ≡ k → k ≢ 0 → outcome (checked m own) bytes m o ≡ refused k bytes m
    end-own e h = end-at bytes m o (sym (checked-good m g own ∙ e)) h

    pub end-done : refusal_of own ≡ 0 → outcome (checked m own) bytes m o ≡ o
    end-done e = outcome-done bytes m o (checked-good m g own ∙ e)

-- ---- the answer of a refusal, of whatever kind it is
answer-refused : {T : Type 0} (of : List ℕ → T) (k : ℕ) (ws : List ℕ) → k ≢ 0 → answer_at of k ws ≡ Err (refusal_at k)
unfolding answer_at
answer-refused of zero ws h = absurd (h refl)
answer-refused of (suc k) ws h = refl

module _ {T : Type 0} (of : List ℕ → T) where
  pub refusal-says : (r : Refusal) (ws : List ℕ) → Err r ≡ answer_at of (refusal_number r) ws
  refusal-says r ws = sym (answer-refused of (refusal_number r) ws (refusal-not0 r) ∙ ap Err (refusal-back r))

  -- a call e that refuses with r leaves the memory m
  module _ {m : Memory} {e : Outcome} {bytes : List ℕ} where
    pub refused-says : (r : Refusal) → e ≡ refused (refusal_number r) bytes m → (Err r ≡ answer_at of e.refusal e.answer) × (m ≡ e.after)
    refused-says r q = (
      refusal-says r _ ∙ ap (λ (x : Outcome). answer_at of x.refusal x.answer) (sym q),
      ap (λ (x : Outcome). x.after) (sym q),
    )

    -- and one that is done answers what its words say
    pub done-says : {ws : List ℕ} → e ≡ done ws bytes m → (Ok (of ws) ≡ answer_at of e.refusal e.answer) × (m ≡ e.after)
    unfolding answer_at
    done-says {ws} q = rw q (refl, refl)

-- and the caller's bytes
pub bytes-refused : {m : Memory} {e : Outcome} {k : ℕ} {bytes : List ℕ} → e ≡ refused k bytes m → bytes ≡ e.bytes
bytes-refused r = ap (λ (x : Outcome). x.bytes) (sym r)

-- ---- what is promised of the end of a call o: its answer, with number and words, and the memory afterwards
abbrev pub Ends : {T : Type 0} → (T → List ℕ) → (List ℕ → T) → Result T Refusal → Memory → Outcome → Type 0
Ends words of r after o =
    (r ≡ answer_at of o.refusal o.answer) × (result_number r ≡ o.refusal) × (result_words words r ≡ o.answer) × (after ≡ o.after)

module _ {T : Type 0} (words : T → List ℕ) (of : List ℕ → T) {m : Memory} {e : Outcome} {bytes : List ℕ} where
  pub refused-all : (r : Refusal) → e ≡ refused (refusal_number r) bytes m → Ends words of (Err r) m e
  refused-all r q =
      let s = refused-says of r q in
      (s.0, ap (λ (x : Outcome). x.refusal) (sym q), ap (λ (x : Outcome). x.answer) (sym q), s.1)

  pub done-all : {ws : List ℕ} {x : T} → e ≡ done ws bytes m → of ws ≡ x → words x ≡ ws → Ends words of (Ok x) m e
  done-all {ws} q h w =
      let s = done-says of q in
      (ap Ok (sym h) ∙ s.0, ap (λ (x : Outcome). x.refusal) (sym q), w ∙ ap (λ (x : Outcome). x.answer) (sym q), s.1)

-- a call that answers only that it was done
abbrev pub AcceptedEnds : Result (Unit {0}) Refusal → Memory → Outcome → Type 0
AcceptedEnds = Ends done_words accepted_at

module _ {m : Memory} {e : Outcome} {bytes : List ℕ} where
  pub accepted-refused : (r : Refusal) → e ≡ refused (refusal_number r) bytes m → AcceptedEnds (Err r) m e
  accepted-refused r q = refused-all done_words accepted_at r q

  pub accepted-done : e ≡ done zeros bytes m → AcceptedEnds (Ok (tt {0})) m e
  accepted-done q = done-all done_words accepted_at {x = tt {0}} q refl refl

-- and one that answers how many pages it wrote back
abbrev pub WrittenEnds : Result ℕ Refusal → Memory → Outcome → Type 0
WrittenEnds = Ends one written_at

-- a refusal that all calls, or a call's own places, give
module _ (m : Memory) (own : List Place) (bytes : List ℕ) (o : Outcome) (r : Refusal) where
  pub refused-first : refusal_number r ≡ checked m [] → outcome (checked m own) bytes m o ≡ refused (refusal_number r) bytes m
  refused-first e = end-first m own bytes o e (refusal-not0 r)

  pub refused-at : refusal_number r ≡ checked m own → outcome (checked m own) bytes m o ≡ refused (refusal_number r) bytes m
  refused-at e = end-at bytes m o e (refusal-not0 r)

  pub refused-own : Good m → refusal_of own ≡ refusal_number r → outcome (checked m own) bytes m o ≡ refused (refusal_number r) bytes m
  refused-own g e = end-own m own bytes o g e (refusal-not0 r)
