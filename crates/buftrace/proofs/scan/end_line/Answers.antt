use borrow.Author.Tests.{not-true, not-false}
use Rattle.buftrace.proofs.ReaderLaws.{none-becomes, outside-becomes, used-ready}
use Rattle.buftrace.proofs.scan.end_line.Goals as goal

pub returns-then-not-s : goal.returns-then-not-s
returns-then-not-s c =
    let t = (none-becomes _ (not-true _ c.if-not-s.true) c.spoil.ensures.becomes).each _ _ _ c.requires.ready in
    record { held_after = t.0; ready_2 = t.1 }

pub returns-then-s-lt2 : goal.returns-then-s-lt2
returns-then-s-lt2 c =
    let t = c.end_head.ensures.each _ _ _ c.requires.ready in
    record { held_after = t.0; ready_2 = t.1 }

pub returns-then-s : goal.returns-then-s
returns-then-s c =
    let b = outside-becomes _ c.if-s-lt2.false (not-false _ c.if-not-s.false) c.if-s.true c.spoil-then-s.ensures.becomes in
    let t = b.each _ _ _ c.requires.ready in
    record { held_after = t.0; ready_2 = t.1 }

pub returns : goal.returns
returns c =
    let u = c.use_block-tally in
    let t = used-ready _ u.result _ _ _ u.new.states u.new.held u.new.place _ c.requires.ready c.requires.line_lt_max_lines
    c.if-s-lt2.false (not-false _ c.if-not-s.false) c.if-s.false u.ensures.held_after u.ensures.fit_2 u.ensures.totals_value c.go_on.ensures in
    record { held_after = t.0; ready_2 = t.1 }
