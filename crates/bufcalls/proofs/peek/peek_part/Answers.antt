use Prim.Native.Nat.{ℕ, ◌+◌, ◌-◌}
use native.Mathlib.Omega.{arith}
use mathlib.Core.Path.{◌≡◌, sym, ◌∙◌}
use Rattle.std.specs.Prelude.{Ok}
use Rattle.bufmodel.specs.declared.answer.Peeked.TheVariants.{InPool, InStore}
use Rattle.bufcalls.proofs.PeekLaws.{told}
use Rattle.bufcalls.proofs.peek.peek_part.Goals as goal

-- a part from a to a + p has p elements
span : (a p : ℕ) → (a + p) - a ≡ p
span a p = omega arith

pub overflow_add-result : goal.overflow_add-result
overflow_add-result c =
    let e : c.peek_at.result ≡ Ok (InPool c.in-Ok-InPool.at) = grind arith in
    let t = told _ c.args.name (sym e ∙ c.peek_at.ensures.value) in
    record { fits = omega (arith, t.0, c.well_formed) }

pub slice_bounds-result-end : goal.slice_bounds-result-end
slice_bounds-result-end c =
    let e : c.peek_at.result ≡ Ok (InPool c.in-Ok-InPool.at) = grind arith in
    (told _ c.args.name (sym e ∙ c.peek_at.ensures.value)).0

pub overflow_add-result-in-Ok-InStore : goal.overflow_add-result-in-Ok-InStore
overflow_add-result-in-Ok-InStore c =
    let e : c.peek_at.result ≡ Ok (InStore c.in-Ok-InStore.at) = grind arith in
    let t = told _ c.args.name (sym e ∙ c.peek_at.ensures.value) in
    record { fits = omega (arith, t.0, c.well_formed) }

pub slice_bounds-result-end-in-Ok-InStore : goal.slice_bounds-result-end-in-Ok-InStore
slice_bounds-result-end-in-Ok-InStore c =
    let e : c.peek_at.result ≡ Ok (InStore c.in-Ok-InStore.at) = grind arith in
    (told _ c.args.name (sym e ∙ c.peek_at.ensures.value)).0

pub returns-in-Ok-InPool : goal.returns-in-Ok-InPool
returns-in-Ok-InPool c =
    let e : c.peek_at.result ≡ Ok (InPool c.in-Ok-InPool.at) = grind arith in
    rw (span c.in-Ok-InPool.at _) (told _ c.args.name (sym e ∙ c.peek_at.ensures.value)).1

pub returns-in-Ok-InStore : goal.returns-in-Ok-InStore
returns-in-Ok-InStore c =
    let e : c.peek_at.result ≡ Ok (InStore c.in-Ok-InStore.at) = grind arith in
    rw (span c.in-Ok-InStore.at _) (told _ c.args.name (sym e ∙ c.peek_at.ensures.value)).1

pub returns-in-Err : goal.returns-in-Err
returns-in-Err c = told _ c.args.name (sym c.in-Err.is ∙ c.peek_at.ensures.value)
