-- TWO SIZES, proved: of every pool that meets demand 3, and so of this one.
use Prim.Native.Nat.{ℕ, zero, suc, ◌^◌, ◌≤◌, ◌<◌}
use native.Mathlib.Omega.{arith}
use mathlib.Core.Path.{◌≡◌, refl, sym, ap, ◌∙◌, subst}
use mathlib.Core.Bool.{true, cond, false≢true}
use mathlib.Core.Logic.{⊎_elim}
use mathlib.Core.List.{List, [], ◌∷◌}
use lib.ListN.{length}
use lib.Dec.{ltb}
use borrow.Author.Tests.{ltb-true, lt-ltb}
use Rattle.laws.specs.Sum.{sum, ind, count}
use Rattle.laws.proofs.Sum.{sum-zero, ind-none}
use Rattle.laws.proofs.Tests.{true-or-false}
use Rattle.bufmodel.specs.Rows.{store_blocks}
use Rattle.bufmodel.specs.Memory.{Memory, buffers}
use Rattle.bufmodel.specs.Step.{Call, Unpin, Read, Write, Flush, step}
use Rattle.bufmodel.specs.Lent.{Lent, Called, answer_words, opened}
use Rattle.shelf.specs.Shelf.{pins_in, has_pins, pinned_pages, first_shelf}
use Rattle.shelf.specs.Ledger.{Ledger, first_ledger, ledger_after, accepted_by}
use Rattle.shelf.specs.Statement.{FitsCall, own, Left, Made, FitsMade, outcome_of, Pool, calling, Agrees, ClaimFor, Demand3For}
use Rattle.shelf.specs.Published.{Published}
use Rattle.shelf.proofs.KeptLaws.{pins-none}
use Rattle.shelf.proofs.ShelfSizes.{sizes-after}
use Rattle.shelf.proofs.Demand.{demand-3}
use Rattle.twopools.specs.Asked.{
  Asked,
  AskPin,
  AskUnpin,
  AskRead,
  AskWrite,
  AskFlush,
  AskGiveBack,
  AskCheckpoint,
  AskPeek,
  AskExtend,
  AskDrop,
  AskInserted,
  AskFlushed,
  resolve,
  FitsAsked,
}
use Rattle.twopools.specs.Pins.{Pins, no_pins, Names}
use Rattle.twopools.specs.Receipts.{Receipt, called_by, pins_then, turns, receipts_of, Named, NeverSix}
use Rattle.twopools.specs.TwoSizes.{set_up_in, TwoSizesFor, TwoSizes}
use Rattle.twopools.proofs.Booked.{Booked}
use Rattle.twopools.proofs.Twins.{twin, Twins, held-too}
use Rattle.twopools.proofs.OneCall.{ends_of, receipt-same, next}

-- ---- Demand 3 is about lists of calls whose numbers fit 64 bits, and that the pool's answers do is known along its run alone. So it is
-- taken for the list in which a number that does not fit is 0; that none is follows
clip : ℕ → ℕ
clip b = cond (ltb b (2 ^ 64)) b 0

clip-fits : (b : ℕ) → clip b < 2 ^ 64
unfolding clip
clip-fits b =
    ⊎_elim (λ t. rw t (ltb-true b (2 ^ 64) t)) (λ f. rw f (omega arith)) (true-or-false (ltb b (2 ^ 64)))

clip-same : (b : ℕ) → b < 2 ^ 64 → clip b ≡ b
unfolding clip
clip-same b l = rw (lt-ltb b (2 ^ 64) l) refl

abbrev clipped : (ℕ → ℕ) → Asked → Call
clipped number c = resolve (λ k. clip (number k)) c

clipped-same : (p : Pins) (number : ℕ → ℕ) → ((k : ℕ) → p.held k ≡ true → number k < 2 ^ 64) → (c : Asked) → Names p c
    → clipped number c ≡ resolve number c
unfolding resolve
clipped-same p number fits (AskPin h n) u = refl
clipped-same p number fits (AskUnpin h k) u = ap (Unpin h) (clip-same _ (fits k u.held))
clipped-same p number fits (AskRead h k from out) u = ap (λ (b : ℕ). Read h b from out) (clip-same _ (fits k u.held))
clipped-same p number fits (AskWrite h k from bytes at) u = ap (λ (b : ℕ). Write h b from bytes at) (clip-same _ (fits k u.held))
clipped-same p number fits (AskFlush h k) u = ap (Flush h) (clip-same _ (fits k u.held))
clipped-same p number fits (AskGiveBack h) u = refl
clipped-same p number fits AskCheckpoint u = refl
clipped-same p number fits (AskPeek n) u = refl
clipped-same p number fits (AskExtend f) u = refl
clipped-same p number fits (AskDrop f) u = refl
clipped-same p number fits (AskInserted k) u = refl
clipped-same p number fits (AskFlushed k) u = refl

fits-clipped : (number : ℕ → ℕ) (c : Asked) → FitsCall (resolve (λ k. 0) c) → FitsCall (clipped number c)
unfolding resolve
fits-clipped number (AskPin h n) f = f
fits-clipped number (AskUnpin h k) f = (f.0, clip-fits (number k))
fits-clipped number (AskRead h k from out) f = (f.0, clip-fits (number k), f.2, f.3)
fits-clipped number (AskWrite h k from bytes at) f = (f.0, clip-fits (number k), f.2, f.3, f.4)
fits-clipped number (AskFlush h k) f = (f.0, clip-fits (number k))
fits-clipped number (AskGiveBack h) f = f
fits-clipped number AskCheckpoint f = f
fits-clipped number (AskPeek n) f = f
fits-clipped number (AskExtend g) f = f
fits-clipped number (AskDrop g) f = f
fits-clipped number (AskInserted k) f = f
fits-clipped number (AskFlushed k) f = f

-- ---- the list that a pool gets
module _ (pool : Pool) (slices : ℕ → List ℕ) where
  abbrev ended : Lent → Pins → Call → Called
  ended m p d = pool.calls d m (own d) (slices p.made)

  gets : Lent → Pins → List Asked → List Made
  gets m p [] = []
  gets m p (c ∷ cs) =
      let r = ended m p (clipped p.number c) in
      record { call = clipped p.number c; answer = slices p.made } ∷ gets r.lent (pins_then p c r) cs

  fits-gets : ((i : ℕ) → length (slices i) ≡ answer_words) → (m : Lent) (p : Pins) (cs : List Asked) → FitsAsked cs → FitsMade (gets m p cs)
  unfolding gets
  fits-gets long m p [] f = tt
  fits-gets long m p (c ∷ cs) f = (fits-clipped p.number c f.0, long p.made, fits-gets long (ended m p (clipped p.number c)).lent (pins_then p c (ended m p (clipped p.number c))) cs f.1)

  -- what is claimed of it, for a call d that it gets
  abbrev Claimed : Lent → Ledger → Pins → Asked → List Asked → Call → Type 0
  Claimed m l p c cs d =
      let r = ended m p d in
      let o = outcome_of r in
      let l' = ledger_after l d o.answer o.refusal in
      Agrees (opened m) l d o l' × Left m r l' × Published (opened m) l.cap l.shelf.buffers d o
      × ClaimFor pool r.lent l' (gets r.lent (pins_then p c r) cs)

  claimed : (m : Lent) (l : Ledger) (p : Pins) (c : Asked) (cs : List Asked) → ClaimFor pool m l (gets m p (c ∷ cs))
      → Claimed m l p c cs (clipped p.number c)
  unfolding gets
  claimed m l p c cs claim = claim

-- ---- N is what it was
many-after : (l : Ledger) (d : Call) (answer : List ℕ) (z : ℕ) → (ledger_after l d answer z).shelf.buffers ≡ l.shelf.buffers
unfolding ledger_after accepted_by
many-after l d answer zero = (sizes-after l.shelf d _).buffers
many-after l d answer (suc z) = refl

-- ---- two pools in mid-list
module _ (pool : Pool) (slices slices' : ℕ → List ℕ) where
  same-receipts : (cs : List Asked) (m k : Lent) (l l' : Ledger) (p q : Pins) (page : ℕ → ℕ)
      → Twins l.shelf l'.shelf p q page
      → l'.shelf.buffers < 2 ^ 64
      → ClaimFor pool m l (gets pool slices m p cs)
      → ClaimFor pool k l' (gets pool slices' k q cs)
      → Named (turns pool slices m p cs)
      → NeverSix (turns pool slices m p cs)
      → receipts_of (turns pool slices m p cs) ≡ receipts_of (turns pool slices' k q cs)
  unfolding turns receipts_of Named NeverSix
  same-receipts [] m k l l' p q page w few x y names six = refl
  same-receipts (c ∷ cs) m k l l' p q page w few x y names six =
      let d = resolve p.number c in
      let e = resolve q.number c in
      let left = clipped-same p p.number (λ i u. omega (arith, few, w.fewer, w.left.below i u)) c names.0 in
      let a = subst (Claimed pool slices m l p c cs) left (claimed pool slices m l p c cs x) in
      let right =
      clipped-same p q.number (λ i u. omega (arith, few, w.right.below i (sym (held-too w i) ∙ u))) c names.0 in
      let b = subst (Claimed pool slices' k l' q c cs) right (claimed pool slices' k l' q c cs y) in
      let r = called_by pool slices m p c in
      let s = called_by pool slices' k q c in
      let f = ends_of a.0 in
      let g = ends_of b.0 in
      let n = next l l' w c names.0 (outcome_of r) (outcome_of s) f g six.0 in
      more (receipt-same l l' w c names.0 (outcome_of r) (outcome_of s) f g six.0)
      (same-receipts cs r.lent s.lent _ _ _ _ n.0 n.1
      (subst (λ (i : ℕ). i < 2 ^ 64) (sym (many-after l' e s.answer s.result)) few)
      a.3 b.3 names.1 six.1)
    where
      more : {a b : Receipt} {xs ys : List Receipt} → a ≡ b → xs ≡ ys → ◌≡◌ {A = List Receipt} (a ∷ xs) (b ∷ ys)
      more e h = cc

-- ---- the start
first-same : (m k : Memory) (p at : ℕ) → m.rows ≡ k.rows → m.store ≡ k.store
    → first_shelf k p at ≡ twin (first_shelf m p at) (first_shelf k p at).buffers (first_shelf k p at).holds
unfolding first_shelf
first-same m k p at rows store = rw (rows, store) refl

first-few : (m : Memory) (p at : ℕ) → pinned_pages (first_shelf m p at) ≤ (first_shelf m p at).buffers
unfolding first_shelf pinned_pages has_pins count
first-few m p at =
    omega (
      arith,
      sum-zero (λ g. ind (pins_in (λ h g. 0) g)) (store_blocks m.rows) (λ g l. ind-none (pins-none (λ h g. 0) g (λ h i. refl))),
    )

first-booked : (m : Memory) (p at : ℕ) → Booked (first_shelf m p at) no_pins (λ k. 0)
unfolding first_shelf no_pins count sum
first-booked m p at =
    record {
      below = λ k e. absurd (false≢true e);
      holds = λ k e. absurd (false≢true e);
      owed = λ h x. omega arith;
      who = λ k e. absurd (false≢true e);
      made = λ k e. absurd (false≢true e);
    }

first-twins : (m k : Memory) (p at : ℕ) → buffers m ≤ buffers k → m.rows ≡ k.rows → m.store ≡ k.store
    → Twins (first_shelf m p at) (first_shelf k p at) no_pins no_pins (λ k. 0)
unfolding first_shelf
first-twins m k p at fewer rows store =
    record {
      same = first-same m k p at rows store;
      pins = refl;
      fewer = fewer;
      few = first-few m p at;
      left = first-booked m p at;
      right = first-booked k p at;
    }

-- EVERY POOL THAT MEETS DEMAND 3 GIVES THE SAME RECEIPTS AT TWO SIZES
pub two-sizes-of : (pool : Pool) → Demand3For pool → TwoSizesFor pool
unfolding opened first_ledger first_shelf
two-sizes-of pool d p at small large calls fp fat fs fl fc fewer rows store zs zl named six =
    let m = (set_up_in pool p at small).lent in
    let k = (set_up_in pool p at large).lent in
    let x = d small.lent p at small.cap small.answer (gets pool small.slices m no_pins calls) fs.lent fp fat fs.cap
    fs.answer (fits-gets pool small.slices fs.slices m no_pins calls fc) in
    let y = d large.lent p at large.cap large.answer (gets pool large.slices k no_pins calls) fl.lent fp fat fl.cap
    fl.answer (fits-gets pool large.slices fl.slices k no_pins calls fc) in
    let most = (y.0.accepted.0 zl).0.0.most in
    same-receipts pool small.slices large.slices calls m k (first_ledger (opened small.lent) p at small.cap)
    (first_ledger (opened large.lent) p at large.cap) no_pins no_pins (λ k. 0)
    (first-twins (opened small.lent) (opened large.lent) p at fewer rows store) (omega (arith, most)) (x.1 zs) (y.1 zl) named six

-- and so does this one
pub two-sizes : TwoSizes
two-sizes = two-sizes-of (calling step) demand-3
