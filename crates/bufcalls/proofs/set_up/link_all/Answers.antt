use borrow.Author.Rules.{rules}
use lib.IntN.{pos}
use lib.ListN.{length, length-set, get_or, set}
use mathlib.Core.Path.{◌≡◌, refl, sym, ◌∙◌, ap, subst}
use native.Mathlib.Omega.{arith}
use Prim.Native.Nat.{ℕ, zero, suc, ◌+◌, ◌-◌, ◌<◌}
use mir.Syntax.{w32}
use mir.Val.{to_z}
use Rattle.buftag.specs.Link.{none}
use Rattle.buftag.proofs.SignedLaws.{index_back}
use Rattle.bufmodel.specs.Calls.{free_links}
use Rattle.bufmodel.proofs.FreshLaws.{length-free_links}
use Rattle.laws.proofs.Fill.{Filled, fill_more, fill_done}
use Rattle.bufcalls.proofs.set_up.link_all.Goals as goal

-- a link is the next buffer's number, the last one none
next-at : (i n j t : ℕ) → suc j < n → t ≡ suc (i + j) → get_or (free_links i n) j (pos 0) ≡ pos t
unfolding free_links
next-at i zero j t h e = absurd (omega arith)
next-at i (suc zero) j t h e = absurd (omega arith)
next-at i (suc (suc n)) zero t h e = ap pos (omega arith)
next-at i (suc (suc n)) (suc j) t h e = next-at (suc i) (suc n) j t (omega arith) (omega arith)

pub loop-i-preserved : goal.loop-i-preserved
loop-i-preserved c =
    let l = c.loop-i in
    let n = length c.args.links.now in
    let v = to_z w32 (l.i + 1) in (
      length-set l.links l.i v ∙ l.invariant.0,
      fill_more (pos 0) l.i v l.links (free_links 0 n) (search rules)
          (index_back (l.i + 1) (search rules) ∙ sym (next-at 0 n l.i (l.i + 1) (search rules) (omega arith))) l.invariant.1,
    )

last-at : (i j : ℕ) → get_or (free_links i (suc j)) j (pos 0) ≡ none
unfolding free_links
last-at i zero = refl
last-at i (suc j) = last-at (suc i) j

last-is : (n : ℕ) → 0 < n → get_or (free_links 0 n) (n - 1) (pos 0) ≡ none
last-is zero h = absurd (omega arith)
last-is (suc n) h = let e : suc n - 1 ≡ n = omega arith in rw e (last-at 0 n)

pub returns : goal.returns
returns c =
    let l = c.loop-i in
    let n = length c.args.links.now in
    let full : Filled (pos 0) (n - 1) l.links (free_links 0 n) =
    subst (λ (k : ℕ). Filled (pos 0) k l.links (free_links 0 n)) (omega arith) l.invariant.1 in
    fill_done (pos 0) (n - 1 + 1) (set l.links (n - 1) none) (free_links 0 n)
    (length-set l.links (n - 1) none ∙ l.invariant.0 ∙ sym (length-free_links 0 n))
    (omega (arith, length-set l.links (n - 1) none))
    (fill_more (pos 0) (n - 1) none l.links (free_links 0 n) (search rules) (sym (last-is n (search rules))) full)
