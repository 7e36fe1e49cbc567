use lib.ListN.{take}
use lib.Seq.{take-suc-set}
use mathlib.Core.List.{List, [], ◌∷◌, ◌++◌, append_assoc}
use mathlib.Core.Path.{ap, ◌∙◌}
use native.Mathlib.Numerals.{add-one}
use native.Mathlib.Omega.{arith}
use Prim.Native.Nat.{ℕ}
use Rattle.buftrace.proofs.DigitsLaws.{fewest-decimal}
use Rattle.buftrace.proofs.report.put_number.Goals as goal

pub returns-clause-out_after : goal.returns-clause-out_after
returns-clause-out_after c =
    let p = c.put_bytes-end in
    let d = c.decimal-k in
    let a = c.args in
    let behind = a.after ∷ [] in
    let front = take a.at a.out.now in
    rw (add-one p.result)
    (take-suc-set p.new.out p.result a.after (omega (arith, d.ensures.in_bounds.1))
    ∙ ap (λ (l : List ℕ). l ++ behind) p.ensures.out_after
    ∙ append_assoc front (take d.result d.new.out) behind
    ∙ ap (λ (l : List ℕ). front ++ (l ++ behind)) (d.ensures.digits ∙ fewest-decimal a.n d.result d.ensures.len))
