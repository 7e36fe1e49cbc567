use lib.Dec.{eqb}
use lib.ListN.{length, get_or}
use mathlib.Core.Bool.{Bool, ◌&&◌}
use mathlib.Core.Path.{◌≡◌, sym, ap, ◌∙◌}
use native.Mathlib.Omega.{arith}
use Prim.Native.Nat.{ℕ}
use Rattle.laws.specs.Every.{all}
use Rattle.laws.proofs.Every.{all_none, all-one-more}
use Rattle.bufmodel.proofs.ChecksumLaws.{zero-every}
use Rattle.bufmem.proofs.seal.is_clear.Goals as goal

pub loop-b-init : goal.loop-b-init
loop-b-init c = sym (all_none _)

pub loop-b-preserved : goal.loop-b-preserved
loop-b-preserved c =
    let l = c.loop-b in
    let here : ℕ → Bool = λ k. eqb (get_or c.args.bytes.now k 0) 0 in
    ap (λ (t : Bool). t && here l.b-index) l.invariant ∙ sym (all-one-more here l.b-index)

pub returns : goal.returns
returns c =
    let l = c.loop-b in
    let bytes = c.args.bytes.now in
    let e : l.b-index ≡ length bytes = omega arith in
    l.invariant ∙ ap (λ (n : ℕ). all n (λ k. eqb (get_or bytes k 0) 0)) e ∙ sym (zero-every bytes)
