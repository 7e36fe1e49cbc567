use native.Mathlib.Omega.{arith}
use mathlib.Core.Path.{refl, sym, ap, ◌∙◌}
use Prim.Native.Nat.{◌*◌}
use Rattle.std.proofs.lemmas.Result.{err_from_is_err_and}
use Rattle.bufmodel.specs.View.{memory_of}
use Rattle.bufmodel.proofs.SizesLaws.{rows-say}
use Rattle.bufmodel.proofs.GoodLaws.{passed-good}
use Rattle.bufcalls.proofs.PeekLaws.{peek-early, peek-refused, peek-pool, peek-differs, peek-store, place-small, store_in, buffer-in}
use Rattle.bufcalls.proofs.peek.peek_at.Goals as goal

pub returns-in_err-refusal : goal.returns-in_err-refusal
returns-in_err-refusal c =
    let p = err_from_is_err_and c.from_residual.result c.from_residual.ensures.1 in
    rw (p.1, p.2) (let t = peek-early (memory_of c.args.lent.now) c.args.name _ c.in_err-refusal.ensures in
    record { value = t.0; number = t.1; words = t.2 })

pub seek-requires : goal.seek-requires
seek-requires c =
    let g = passed-good (memory_of c.args.lent.now) c.in_ok-refusal.ensures refl in
    (rows-say c.args.lent.now.rows.now).shown g.sizes.rows

pub returns-in_err-g : goal.returns-in_err-g
returns-in_err-g c =
    let g = passed-good (memory_of c.args.lent.now) c.in_ok-refusal.ensures refl in
    let p = err_from_is_err_and c.from_residual-in_err-g.result c.from_residual-in_err-g.ensures.1 in
    rw (p.1, p.2) (let t = peek-refused (memory_of c.args.lent.now) c.args.name g _ (sym c.in_err-g.ensures) in
    record { value = t.0; number = t.1; words = t.2 })

pub look_up-requires : goal.look_up-requires
look_up-requires c =
    let g = passed-good (memory_of c.args.lent.now) c.in_ok-refusal.ensures refl in
    let s = g.sizes in
    (omega (arith, s.least, s.wide), s.names ∙ ap (λ n. 5 * n) (sym s.chain))

pub passes_block-requires : goal.passes_block-requires
passes_block-requires c =
    let g = passed-good (memory_of c.args.lent.now) c.in_ok-refusal.ensures refl in
    store_in (memory_of c.args.lent.now) c.args.name g (sym c.in_ok-g.ensures)

pub returns-then-not-passes_block : goal.returns-then-not-passes_block
returns-then-not-passes_block c =
    let g = passed-good (memory_of c.args.lent.now) c.in_ok-refusal.ensures refl in
    let t = peek-differs (memory_of c.args.lent.now) c.args.name g (sym c.in_ok-g.ensures) (grind arith)
    (sym c.passes_block.ensures ∙ c.if-not-passes_block.true) in
    record { value = t.0; number = t.1; words = t.2 }

pub overflow_mul-result : goal.overflow_mul-result
overflow_mul-result c =
    let g = passed-good (memory_of c.args.lent.now) c.in_ok-refusal.ensures refl in
    record { fits = place-small (memory_of c.args.lent.now) c.args.name g (sym c.in_ok-g.ensures) }

pub returns-in_default : goal.returns-in_default
returns-in_default c =
    let g = passed-good (memory_of c.args.lent.now) c.in_ok-refusal.ensures refl in
    let t = peek-store (memory_of c.args.lent.now) c.args.name g (sym c.in_ok-g.ensures) (grind arith)
    (sym c.passes_block.ensures ∙ c.if-not-passes_block.false) in
    record { value = t.0; number = t.1; words = t.2 }

pub page_offset-requires : goal.page_offset-requires
page_offset-requires c =
    let g = passed-good (memory_of c.args.lent.now) c.in_ok-refusal.ensures refl in
    buffer-in (memory_of c.args.lent.now) c.args.name g (sym c.look_up.ensures ∙ c.in-Some.is)

pub returns : goal.returns
returns c =
    let g = passed-good (memory_of c.args.lent.now) c.in_ok-refusal.ensures refl in
    let t = rw (← c.page_offset.ensures) at
    (peek-pool (memory_of c.args.lent.now) c.args.name g (sym c.in_ok-g.ensures) (sym c.look_up.ensures ∙ c.in-Some.is)) in
    record { value = t.0; number = t.1; words = t.2 }
