use mathlib.Core.Path.{◌≡◌, sym, ap, ◌∙◌}
use Rattle.buftrace.specs.Scan.{Ready, scan_of, last_line, closed}
use Rattle.buftrace.proofs.FeedLaws.{finished-is, last-late, last-whole, last-open}
use Rattle.buftrace.proofs.scan.finish.Goals as goal
use Rattle.buftrace.proofs.scan.finish.Goals.{
  then-s-eq0+then-s,
  else-s-eq0,
  else-s-eq0-via-then-s-eq0+else-s,
  else-s-eq0-via-else-s-eq0,
}

pub returns : goal.returns
returns c =
    let j = c.if-s-eq0 in
    let s = c.args.s in
    let k : (scan_of j.t j.states j.held ≡ last_line (scan_of s c.args.states.now c.args.held.now)) × Ready j.t j.states j.held j.place =
    elim j.branch [
      | then-s-eq0+then-s w ↦
          rw (w.t-is, w.states-is, w.held-is, w.place-is) (
            w.end_line-t.ensures.held_after ∙ sym (last-open _ w.if-s-eq0.true w.if-s.true),
            w.end_line-t.ensures.ready_2,
          )
      | else-s-eq0 w ↦
          rw (w.t-is, w.states-is, w.held-is, w.place-is)
          (elim w.else-s-eq0.branch [
            | else-s-eq0-via-then-s-eq0+else-s v ↦ (sym (last-whole _ v.if-s-eq0.true v.if-s.false), c.requires)
            | else-s-eq0-via-else-s-eq0 v ↦ (sym (last-late _ v.if-s-eq0.false), c.requires)
          ])
    ] in
    let b = c.close.ensures.each _ _ _ k.1 in
    record { held_after = b.0 ∙ ap closed k.0 ∙ sym (finished-is _); ready = b.1 }
