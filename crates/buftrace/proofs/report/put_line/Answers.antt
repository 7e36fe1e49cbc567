use borrow.Author.Tests.{eq-eqb, ne_eqb}
use mathlib.Core.List.{List, [], ◌∷◌, ◌++◌, append_assoc}
use mathlib.Core.Path.{◌≡◌, ap, ◌∙◌}
use Prim.Native.Nat.{ℕ}
use Rattle.buftrace.specs.Report.{decimal, totals_line, printed_of}
use Rattle.buftrace.proofs.report.put_line.Goals as goal

pub returns-then-s-ne0-clause-out_after : goal.returns-then-s-ne0-clause-out_after
unfolding printed_of
returns-then-s-ne0-clause-out_after c = rw (ne_eqb _ _ c.if-s-ne0.true) c.put_bad.ensures.out_after

-- numbers, each with the byte behind it, one behind the other
joined : (a b d t u v : List ℕ) → (a ++ t ++ (b ++ u)) ++ (d ++ v) ≡ a ++ (t ++ (b ++ (u ++ (d ++ v))))
joined a b d t u v = simp append_assoc

pub returns-clause-out_after : goal.returns-clause-out_after
unfolding printed_of totals_line
returns-clause-out_after c =
    let t = c.args.s.tally.totals in
    let loads = decimal t.loads ++ (32 ∷ []) in
    let probes = decimal t.probes ++ (10 ∷ []) in
    rw (eq-eqb _ _ c.if-s-ne0.false)
    (c.put_number.ensures.out_after
    ∙ ap (λ (x : List ℕ). x ++ probes) (c.put_number-b.ensures.out_after ∙ ap (λ (x : List ℕ). x ++ loads) c.put_number-a.ensures.out_after)
    ∙ joined (decimal t.hits) (decimal t.loads) (decimal t.probes) (32 ∷ []) (32 ∷ []) (10 ∷ []))
