use native.Mathlib.Omega.{arith}
use mathlib.Core.Path.{sym, ◌∙◌}
use Rattle.buftrace.proofs.FeedLaws.{feds-next, feds-late, feds-all}
use Rattle.buftrace.proofs.scan.feed.Goals as goal

pub loop-b-preserved : goal.loop-b-preserved
loop-b-preserved c = record {
  fed =
      feds-next _ _ c.args.bytes.now c.loop-b.b-index c.loop-b-test.true c.if-t-ne0.false c.step-t.ensures.held_after
      ∙ c.loop-b.invariant.fed;
  ready = c.step-t.ensures.ready;
}

pub returns-then-t-ne0 : goal.returns-then-t-ne0
returns-then-t-ne0 c = record {
  held_after = sym (feds-late _ _ c.if-t-ne0.true) ∙ c.loop-b.invariant.fed;
  ready = c.loop-b.invariant.ready;
}

pub returns : goal.returns
returns c = record {
  held_after = sym (feds-all _ c.args.bytes.now c.loop-b.b-index (omega arith)) ∙ c.loop-b.invariant.fed;
  ready = c.loop-b.invariant.ready;
}
