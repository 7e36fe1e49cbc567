-- Laws of calls over the memory as it is lent: an accepted call, and that the top of a good memory's free list is one control word.
use Prim.Native.Nat.{ℕ, zero, suc}
use mathlib.Core.Path.{◌≡◌, refl, ap}
use mathlib.Core.Bool.{Bool, true, false, cond}
use mathlib.Core.Logic.{inl, inr, ⊎_elim}
use mathlib.Core.List.{List}
use native.Mathlib.Omega.{arith}
use lib.ListN.{length}
use lib.IntN.{ℤ, pos, negsuc}
use lib.Dec.{eqb}
use borrow.Author.Tests.{eq-eqb}
use Rattle.buftag.specs.declared.link.Link.TheVariants.{To, End}
use Rattle.buftag.specs.Link.{link_of, none}
use Rattle.bufmodel.specs.Memory.{Memory}
use Rattle.bufmodel.specs.Outcome.{Outcome, zeros}
use Rattle.bufmodel.specs.Lent.{Lent, Called, answer_words, control_words, opened, closed, ended, called}
use Rattle.bufmodel.proofs.GoodLaws.{Good}
use Rattle.bufmodel.proofs.LentLaws.{TopFits}
use Rattle.bufmodel.proofs.FreeListLaws.{top-none, top-empty}

-- ---- an accepted call leaves what its definition says
ended-accepted : (m : Lent) (o : Outcome) (k : ℕ) → o.refusal ≡ k → (ended m o k).result ≡ 0
    → (o.refusal ≡ 0) × ((ended m o k).lent ≡ closed o.after)
unfolding ended
ended-accepted m o zero e z = (e, refl)
ended-accepted m o (suc k) e z = absurd (omega arith)

pub called-accepted : (call : Memory → Outcome) (m : Lent) (bytes answer : List ℕ) → length answer ≡ answer_words
    → (called call m bytes answer).result ≡ 0
    → ((call (opened m)).refusal ≡ 0) × ((called call m bytes answer).lent ≡ closed (call (opened m)).after)
unfolding called
called-accepted call m bytes answer h =
    rw (eq-eqb (length answer) answer_words h) (go (call (opened m)) (eqb (length m.control) control_words))
  where
    r : Outcome → Bool → Called
    r o t = cond t (ended m o o.refusal) (record { result = 1; answer = zeros; bytes = bytes; lent = m })

    go : (o : Outcome) (t : Bool) → (r o t).result ≡ 0 → (o.refusal ≡ 0) × ((r o t).lent ≡ closed o.after)
    go o true z = ended-accepted m o o.refusal refl z
    go o false z = absurd (omega arith)

-- ---- the top of the free list
end_is : (z : ℤ) → link_of z ≡ End → z ≡ none
end_is (pos i) e = absurd (let z : ◌≡◌ {A = ℕ} 0 1 = cc in omega arith)
end_is (negsuc zero) e = refl
end_is (negsuc (suc zero)) e = absurd (let z : ◌≡◌ {A = ℕ} 0 1 = cc in omega arith)
end_is (negsuc (suc (suc k))) e = absurd (let z : ◌≡◌ {A = ℕ} 0 1 = cc in omega arith)

to_is : (z : ℤ) (i : ℕ) → link_of z ≡ To i → z ≡ pos i
to_is (pos j) i e = let q : j ≡ i = cc in ap pos q
to_is (negsuc zero) i e = absurd (let z : ◌≡◌ {A = ℕ} 0 1 = cc in omega arith)
to_is (negsuc (suc zero)) i e = absurd (let z : ◌≡◌ {A = ℕ} 0 1 = cc in omega arith)
to_is (negsuc (suc (suc k))) i e = absurd (let z : ◌≡◌ {A = ℕ} 0 1 = cc in omega arith)

pub top-fits : (m : Memory) → Good m → TopFits m.control.top
top-fits m g =
    ⊎_elim
    (λ e. inl (end_is m.control.top e))
    (λ t. inr (t.0, to_is m.control.top t.0 t.1, omega (arith, (top-empty m g t.0 t.1).0, g.sizes.most)))
    (top-none m g)
