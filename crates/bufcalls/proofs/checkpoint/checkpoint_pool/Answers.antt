use mathlib.Core.List.{[]}
use mathlib.Core.Path.{refl, sym, ap, ◌∙◌}
use Rattle.std.proofs.lemmas.Result.{err_from_is_err_and}
use Rattle.bufmodel.specs.Outcome.{one}
use Rattle.bufmodel.specs.Memory.{buffers, memory, with_counts}
use Rattle.bufmodel.specs.Answer.{written_at}
use Rattle.bufmodel.specs.Calls.{checkpoint}
use Rattle.bufmodel.proofs.OutcomeLaws.{refusal-none}
use Rattle.bufmodel.proofs.GoodLaws.{passed-good}
use Rattle.bufmodel.proofs.AnswerLaws.{refused-first, refused-all, end-done, done-all}
use Rattle.bufcalls.proofs.CheckpointLaws.{good-stored, linked, up-linked}
use Rattle.bufcalls.proofs.checkpoint.checkpoint_pool.Goals as goal

pub returns-in_err-refusal : goal.returns-in_err-refusal
unfolding checkpoint
returns-in_err-refusal c =
    let p = err_from_is_err_and c.from_residual.result c.from_residual.ensures.1 in
    rw (p.1, p.2) (let t = refused-all one written_at _ (refused-first _ _ _ _ _ c.in_err-refusal.ensures) in
    record { value = t.0; number = t.1; words = t.2; store_after = t.3 })

pub write_all-control-requires : goal.write_all-control-requires
write_all-control-requires c = good-stored _ (passed-good _ c.in_ok-refusal.ensures refl)

pub returns : goal.returns
unfolding checkpoint
returns c =
    let a = c.args in
    let m =
    with_counts a.counts.now
    (memory a.control a.states.now a.names.now a.pool.now a.free.now a.heads.now a.chain.now a.rows.now a.store.now) in
    let t = done-all one written_at {x = c.count_dirty-answer.result}
    (end-done m [] [] _ (passed-good m c.in_ok-refusal.ensures refl) refusal-none)
    (sym c.count_dirty-answer.ensures) (ap one c.count_dirty-answer.ensures) in
    record {
      value = t.0;
      number = t.1;
      words = t.2;
      store_after = ap (linked m) c.write_all-control.ensures ∙ sym (up-linked m (buffers m)) ∙ t.3;
    }
