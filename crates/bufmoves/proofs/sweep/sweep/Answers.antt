use borrow.Author.Rules.{rules}
use lib.ListN.{length, length-set}
use native.Mathlib.Omega.{arith}
use mathlib.Core.Path.{◌≡◌, refl, sym, ◌∙◌, ap}
use Rattle.bufmodel.specs.Sweep.{Swept, sweep, sweep_all}
use Rattle.bufmodel.proofs.SweepLaws.{next-lt}
use Rattle.bufmoves.specs.Sweep.{victim_of}
use Rattle.bufmoves.proofs.SweepLaws.{sweep-end, sweep-stop, sweep-pass, sweep-take, sweep-lower}
use Rattle.bufmoves.proofs.sweep.sweep.Goals as goal

pub loop-passed-init : goal.loop-passed-init
unfolding sweep_all
loop-passed-init c =
    let a = c.args in
    let n = length a.states.now in
    record { within = search rules; run = search rules; words = refl; left = ap (λ k. sweep k n 0 0 a.hand a.states.now) (omega arith) }

-- what the sweep leaves, once it is known how it ends
ends : (s t : Swept) → s ≡ t → (victim_of t ≡ victim_of s) × (t.words ≡ s.words)
ends s t e = (ap victim_of (sym e), ap (λ x. x.words) (sym e))

pub returns-then-run-n : goal.returns-then-run-n
unfolding victim_of
returns-then-run-n c =
    let l = c.loop-passed in
    let t = sym c.is_pinned.ensures ∙ c.if-is_pinned.true in
    let t = ends _ _ (sym l.invariant.left ∙ sweep-stop _ _ _ _ _ _ (search rules) _ c.next_of-at.ensures t (search rules)) in
    record { value = t.0; states_after = t.1 }

pub loop-passed-preserved-then-is_pinned : goal.loop-passed-preserved-then-is_pinned
loop-passed-preserved-then-is_pinned c =
    let l = c.loop-passed in
    let a = c.args in
    let h = c.next_of-at.ensures in
    record {
      within = omega (arith, h, next-lt (length a.states.now) l.at (search rules));
      run = search rules;
      words = search rules;
      left =
          sweep-pass _ _ _ _ _ _ (search rules) _ h (sym c.is_pinned.ensures ∙ c.if-is_pinned.true) (search rules) ∙ l.invariant.left;
    }

pub returns-then-usage_of-eq0 : goal.returns-then-usage_of-eq0
unfolding victim_of
returns-then-usage_of-eq0 c =
    let l = c.loop-passed in
    let t = let e =
    sym l.invariant.left
    ∙ sweep-take _ _ _ _ _ _ (search rules) _ c.next_of-at.ensures (sym c.is_pinned.ensures ∙ c.if-is_pinned.false)
    (sym c.usage_of.ensures ∙ c.if-usage_of-eq0.true) in
    ends _ _ e in
    record { value = t.0; states_after = t.1 }

pub loop-passed-preserved : goal.loop-passed-preserved
loop-passed-preserved c =
    let l = c.loop-passed in
    let a = c.args in
    let h = c.next_of-at.ensures in
    let t = sym c.is_pinned.ensures ∙ c.if-is_pinned.false in
    record {
      within = omega (arith, h, next-lt (length a.states.now) l.at (search rules));
      run = search rules;
      words = length-set l.states l.at c.use_less.result ∙ l.invariant.words;
      left = sweep-lower _ _ _ _ _ _ (search rules) _ h _ c.use_less.ensures t (search rules) ∙ l.invariant.left;
    }

pub returns : goal.returns
unfolding victim_of
returns c =
    let l = c.loop-passed in
    let t = ends _ _ (sym l.invariant.left ∙ sweep-end _ _ _ _ _ _ (search rules)) in
    record { value = t.0; states_after = t.1 }
