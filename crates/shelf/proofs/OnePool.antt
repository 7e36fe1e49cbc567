-- Demand 3 leaves one pool: set up and each call have one end, and so has a list of calls.
use Prim.Native.Nat.{ℕ, zero, suc}
use mathlib.Core.Path.{◌≡◌, refl, sym, ap, ◌∙◌, subst}
use mathlib.Core.Logic.{◌≢◌, ◌⊎◌, inl, inr, ⊎_elim}
use mathlib.Core.List.{List, [], ◌∷◌}
use lib.ListN.{length}
use Rattle.laws.proofs.Tests.{eq-or-ne}
use Rattle.bufmodel.specs.Step.{Call, step}
use Rattle.bufmodel.specs.Lent.{Lent, Called, opened}
use Rattle.shelf.specs.Ledger.{Ledger, first_ledger, ledger_after}
use Rattle.shelf.specs.Shelf.{first_shelf}
use Rattle.shelf.specs.Published.{Published}
use Rattle.shelf.specs.Statement.{Agrees, Left, Fresh, fresh_marks, Lends, SetsUp, Made, Pool, calling, outcome_of, own, ClaimFor}
use Rattle.shelf.specs.Statement.{receipts, if_accepted, OnePool}
use Rattle.shelf.proofs.Demand.{demand-3}
use Rattle.shelf.proofs.OneMarks.{Booked, same_books}
use Rattle.shelf.proofs.OneAnswer.{both, same_bytes}
use Rattle.shelf.proofs.ShelfSizes.{SameSizes}
use Rattle.shelf.proofs.OneLent.{same-lent, size_of, store-accepted, Matches, Ends, matches, same_end}

called-parts : {a a' : ℕ} {b b' c c' : List ℕ} {d d' : Lent} → a ≡ a' → b ≡ b' → c ≡ c' → d ≡ d'
    → ◌≡◌ {A = Called} (record { result = a; answer = b; bytes = c; lent = d }) (record { result = a'; answer = b'; bytes = c'; lent = d' })
called-parts p q r s = cc

-- ---- set up
module _ {m : Lent} {p at cap : ℕ} where
  fresh-booked : {k : Lent} → Fresh m k p at cap
      → Booked p (length m.states) (length m.heads) (fresh_marks (length m.states)) (opened k)
  unfolding opened
  fresh-booked f = record { sizes = f.sizes; many = f.many; wide = f.wide; alike = f.alike }

  same-fresh : {a b : Lent} → Fresh m a p at cap → Fresh m b p at cap → a ≡ b
  unfolding opened
  same-fresh {a} {b} f g =
      same-lent a b (f.control ∙ sym g.control) (same_books (fresh-booked f) (fresh-booked g)) (f.pool ∙ sym g.pool)
      (f.rows ∙ sym g.rows) (f.store ∙ sym g.store)

  one-start : {r r' : Called} → SetsUp m p at cap r → SetsUp m p at cap r' → r ≡ r'
  one-start {r} {r'} s s' = ⊎_elim accepts refuses (eq-or-ne r.result 0)
    where
      ends : r.result ≡ r'.result → r.lent ≡ r'.lent → r ≡ r'
      ends e f = called-parts e (s.answer ∙ sym s'.answer) (s.bytes ∙ sym s'.bytes) f

      accepts : r.result ≡ 0 → r ≡ r'
      accepts z = let z' = s'.accepted.1 (s.accepted.0 z) in ends (z ∙ sym z') (same-fresh (s.fresh z) (s'.fresh z'))

      -- 1 where lengths and rows break a rule, 18 where they do not
      numbers : ((r.result ≡ 1) × (Lends m p → ⊥)) ⊎ ((r.result ≡ 18) × Lends m p)
          → ((r'.result ≡ 1) × (Lends m p → ⊥)) ⊎ ((r'.result ≡ 18) × Lends m p) → r.result ≡ r'.result
      numbers (inl x) (inl y) = x.0 ∙ sym y.0
      numbers (inl x) (inr y) = absurd (x.1 y.1)
      numbers (inr x) (inl y) = absurd (y.1 x.1)
      numbers (inr x) (inr y) = x.0 ∙ sym y.0

      refuses : r.result ≢ 0 → r ≡ r'
      refuses ne =
          let ne' : r'.result ≢ 0 = λ z. ne (s.accepted.1 (s'.accepted.0 z)) in
          ends (numbers (s.number ne) (s'.number ne')) (s.refused ne ∙ sym (s'.refused ne'))

-- ---- a call
-- what the claim for a list says of its first call
record Claimed (m : Lent) (l : Ledger) (c : Call) (r : Called) : Type 0 where
  agrees : Agrees (opened m) l c (outcome_of r) (ledger_after l c r.answer r.result)
  left : Left m r (ledger_after l c r.answer r.result)
  published : Published (opened m) l.cap l.shelf.buffers c (outcome_of r)

module _ {m : Lent} {l : Ledger} {c : Call} {r r' : Called} (h : Matches m l) (a : Claimed m l c r) (a' : Claimed m l c r') where
  same-result : r.result ≡ r'.result
  same-result = a.agrees.number ∙ sym a'.agrees.number

  one-refusal : r.result ≢ 0 → r ≡ r'
  one-refusal ne =
      let ne' : r'.result ≢ 0 = λ z. ne (same-result ∙ z) in
      called-parts same-result (a.agrees.blank ne ∙ sym (a'.agrees.blank ne')) (a.agrees.kept ne ∙ sym (a'.agrees.kept ne'))
      (a.left.same ne ∙ sym (a'.left.same ne'))

  one-acceptance : r.result ≡ 0 → r ≡ r'
  one-acceptance z =
      let z' : r'.result ≡ 0 = sym same-result ∙ z in
      let k = both h.rows z z' c a.agrees a'.agrees a.published a'.published in
      let x = ledger_after l c r.answer r.result in
      let e : ledger_after l c r'.answer r'.result ≡ x = rw (k.answer, same-result) in
      let end : Ends m l x c k.rest r = record { agrees = a.agrees; left = a.left; leaves = k.left } in
      let end' = subst (λ y. Ends m l y c k.rest r') e (record { agrees = a'.agrees; left = a'.left; leaves = k.right }) in
      let s : SameSizes l.shelf x.shelf = rw z (store-accepted l c r.answer) in
      called-parts same-result k.answer (same_bytes h.rows z z' c a.agrees a'.agrees a.published a'.published)
      (same_end end end' h s)

  one-call : r ≡ r'
  one-call = ⊎_elim one-acceptance one-refusal (eq-or-ne r.result 0)

-- ---- a list of calls
module _ (pool pool' : Pool) where
  one_list : (m : Lent) (l : Ledger) (cs : List Made) → Matches m l → ClaimFor pool m l cs → ClaimFor pool' m l cs
      → receipts pool m cs ≡ receipts pool' m cs
  one_list m l [] h k k' = refl
  one_list m l (c ∷ cs) h k k' =
      let r = pool.calls c.call m (own c.call) c.answer in
      let after : Called → Ledger = λ q. ledger_after l c.call q.answer q.result in
      let r' = pool'.calls c.call m (own c.call) c.answer in
      let a : Claimed m l c.call r = record { agrees = k.0; left = k.1; published = k.2 } in
      let a' : Claimed m l c.call r' = record { agrees = k'.0; left = k'.1; published = k'.2 } in
      let e = one-call h a a' in
      let rest = subst (λ (q : Called). ClaimFor pool' q.lent (after q) cs) (sym e) k'.3 in
      ap (λ t. r ∷ t) (one_list r.lent (after r) cs (matches k.0 k.1) k.3 rest) ∙ ap (λ q. q ∷ receipts pool' q.lent cs) e

-- ---- all that the till program receives
-- the list begins with the rows and the block size of the set-up
first_matches : {m k : Lent} {p at cap : ℕ} → Fresh m k p at cap → Matches k (first_ledger (opened m) p at cap)
unfolding opened first_ledger first_shelf
first_matches {k} f = record { rows = f.rows; size = size_of k f.control }

module _ (pool pool' : Pool) (m : Lent) (p at cap : ℕ) (calls : List Made) where
  -- what demand 3 says of a set-up that ended so
  abbrev Starts : Pool → Called → Type 0
  Starts q r = SetsUp m p at cap r × (r.result ≡ 0 → ClaimFor q r.lent (first_ledger (opened m) p at cap) calls)

  -- the calls after a set-up that ended so, where it was accepted
  same_rest : {r : Called} → Starts pool r → Starts pool' r → (k : ℕ) → r.result ≡ k
      → if_accepted k (receipts pool r.lent calls) ≡ if_accepted k (receipts pool' r.lent calls)
  same_rest {r} s s' zero z =
      one_list pool pool' r.lent (first_ledger (opened m) p at cap) calls (first_matches (s.0.fresh z)) (s.1 z) (s'.1 z)
  same_rest s s' (suc k) z = refl

  one-received : {r r' : Called} → Starts pool r → Starts pool' r'
      → r ∷ if_accepted r.result (receipts pool r.lent calls) ≡ r' ∷ if_accepted r'.result (receipts pool' r'.lent calls)
  one-received {r} s s' =
      let e = one-start s.0 s'.0 in
      ap (λ t. r ∷ t) (same_rest s (subst (Starts pool') (sym e) s') r.result refl)
      ∙ ap (λ (q : Called). q ∷ if_accepted q.result (receipts pool' q.lent calls)) e

-- DEMAND 3 LEAVES ONE POOL: this one meets it, so whichever meets it gives the same
pub one-pool : OnePool
one-pool pool claim m p at cap answer calls fits hp hat hcap long made =
    one-received pool (calling step) m p at cap calls (claim m p at cap answer calls fits hp hat hcap long made)
    (demand-3 m p at cap answer calls fits hp hat hcap long made)
