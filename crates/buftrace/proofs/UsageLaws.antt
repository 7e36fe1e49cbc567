-- A list of uses by the pool's own calls, and without page bytes: the same numbers.
use Prim.Native.Nat.{ℕ, ◌≤◌, ◌<◌}
use native.Mathlib.Omega.{arith}
use mathlib.Core.Path.{◌≡◌, refl, sym, ap, ◌∙◌}
use mathlib.Core.Bool.{Bool, true, false, cond}
use mathlib.Core.List.{List}
use lib.ListN.{length}
use lib.Dec.{ltb}
use borrow.Author.Tests.{eq-eqb, ltb-true, ltb-false}
use Rattle.laws.specs.Times.{times}
use Rattle.laws.specs.First.{Found, found, missing}
use Rattle.laws.proofs.Tests.{and-true}
use Rattle.bufmodel.specs.Memory.{Memory}
use Rattle.bufmodel.specs.Sizes.{block_sizes, max_buffers, max_buckets, max_blocks}
use Rattle.bufmodel.specs.Outcome.{Outcome}
use Rattle.bufmodel.specs.Sweep.{sweep_all}
use Rattle.buftrace.specs.declared.usage.Totals.{Totals}
use Rattle.buftrace.specs.Usage.{cap, unpinned, start, used_from, used_with, served_from}
use Rattle.buftrace.specs.Usage.{Below, no_more, one_more_is}
use Rattle.buftrace.specs.Trace.{Trace, unused, buffer_of, into_free, swept_for, missed, use_at, use1, uses}
use Rattle.buftrace.proofs.Agrees.{Agrees, UsedOnce}
use Rattle.buftrace.proofs.UseLaws.{use-held, use-free}
use Rattle.buftrace.proofs.VictimLaws.{use-victim}
use Rattle.buftrace.proofs.StartLaws.{start_is, start-agrees}

-- ---- one use: of a page that is held, or comes into a free buffer or a victim
module _ (p n blocks : ℕ) (m : Memory) (t : Trace) (a : Agrees p n blocks m t) (b : ℕ) (l : b < blocks) where
  used-missed : buffer_of t b ≡ missing → (r : Bool) → ltb (length t.held) n ≡ r
      → UsedOnce p n blocks m t (cond r (into_free t b) (swept_for t b (sweep_all cap t.states t.hand))) b
  used-missed e true r = use-free p n blocks m t a b l e (ltb-true _ n r)
  used-missed e false r = let f = ltb-false _ n r in use-victim p n blocks m t a b l e (omega (arith, a.most))

  used-at : (f : Found) → buffer_of t b ≡ f → UsedOnce p n blocks m t (use_at n t b f) b
  unfolding use_at missed
  used-at (found i) e = use-held p n blocks m t a b l i e
  used-at missing e = used-missed e (ltb (length t.held) n) refl

  used-once : UsedOnce p n blocks m t (use1 n t b) b
  unfolding use1
  used-once = used-at (buffer_of t b) refl

-- ---- a list of uses
module _ (p n blocks : ℕ) where
  totals-from : {bs : List ℕ} → Below blocks bs → (m : Memory) (t : Trace) → Agrees p n blocks m t
      → used_from m t.totals bs ≡ (uses n t bs).totals
  unfolding used_from uses
  totals-from no_more m t a = refl
  totals-from (one_more_is {b} {bs} l below) m t a =
      let u = used-once p n blocks m t a b l in
      ap (λ (x : Totals). used_from (unpinned m b).after x bs) u.totals
      ∙ totals-from below (unpinned m b).after (use1 n t b) u.agrees

  served-from : {bs : List ℕ} → Below blocks bs → (m : Memory) (t : Trace) → Agrees p n blocks m t → served_from m bs ≡ true
  unfolding served_from
  served-from no_more m t a = refl
  served-from (one_more_is {b} {bs} l below) m t a =
      let u = used-once p n blocks m t a b l in
      and-true (and-true (eq-eqb _ 0 u.pin-done) (eq-eqb _ 0 u.unpin-done))
      (served-from below (unpinned m b).after (use1 n t b) u.agrees)

-- ---- from the start
-- a fresh pool of any permitted sizes
pub record Fresh (p buckets n blocks : ℕ) : Type 0 where
  pub size : 0 < times p block_sizes
  pub least : 1 ≤ n
  pub most : n ≤ max_buffers
  pub wide : n ≤ buckets
  pub heads : buckets ≤ max_buckets
  pub room : blocks ≤ max_blocks

pub set-up-done : (p buckets n blocks : ℕ) → Fresh p buckets n blocks → (start p buckets n blocks).refusal ≡ 0
set-up-done p buckets n blocks f =
    ap (λ (o : Outcome). o.refusal)
    (start_is p buckets n blocks f.size f.least f.most f.wide f.heads f.room)

started : (p buckets n blocks : ℕ) → Fresh p buckets n blocks → Agrees p n blocks (start p buckets n blocks).after unused
started p buckets n blocks f = start-agrees p buckets n blocks f.size f.least f.most f.wide f.heads f.room

pub trace-is : (p buckets n blocks : ℕ) → Fresh p buckets n blocks → (bs : List ℕ) → Below blocks bs
    → used_with p buckets n blocks bs ≡ (uses n unused bs).totals
unfolding used_with
trace-is p buckets n blocks f bs below =
    totals-from p n blocks below (start p buckets n blocks).after unused (started p buckets n blocks f)

pub served : (p buckets n blocks : ℕ) → Fresh p buckets n blocks → (bs : List ℕ) → Below blocks bs
    → served_from (start p buckets n blocks).after bs ≡ true
served p buckets n blocks f bs below =
    served-from p n blocks below (start p buckets n blocks).after unused (started p buckets n blocks f)

-- so they are the same for every block size and number of buckets
pub same_numbers : (p q buckets others n blocks : ℕ) → Fresh p buckets n blocks → Fresh q others n blocks → (bs : List ℕ)
    → Below blocks bs
    → used_with p buckets n blocks bs ≡ used_with q others n blocks bs
same_numbers p q buckets others n blocks f g bs below =
    trace-is p buckets n blocks f bs below ∙ sym (trace-is q others n blocks g bs below)
