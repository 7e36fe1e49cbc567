use native.Mathlib.Omega.{arith}
use mathlib.Core.Path.{sym, ◌∙◌}
use Rattle.buftrace.proofs.FeedLaws.{stepped-past, stepped-end, stepped-digit, stepped-other, digit-test}
use Rattle.buftrace.proofs.scan.step.Goals as goal

pub returns-then-s-eq-MAX_LINES : goal.returns-then-s-eq-MAX_LINES
returns-then-s-eq-MAX_LINES c =
    let b = c.spoil.ensures.becomes.each _ _ _ c.requires in record {
      held_after = b.0 ∙ sym (stepped-past _ _ c.if-s-eq-MAX_LINES.true);
      ready = b.1;
    }

pub returns-then-b-eq10 : goal.returns-then-b-eq10
returns-then-b-eq10 c = record {
  held_after = c.end_line.ensures.held_after ∙ sym (stepped-end _ _ c.if-s-eq-MAX_LINES.false c.if-b-eq10.true);
  ready = c.end_line.ensures.ready_2;
}

pub returns-then-not-is_ascii_digit : goal.returns-then-not-is_ascii_digit
returns-then-not-is_ascii_digit c =
    let b = c.spoil-then-not-is_ascii_digit.ensures.becomes.each _ _ _ c.requires in
    let d = digit-test c.args.b ∙ sym c.if-not-is_ascii_digit.ensures.value in record {
      held_after = b.0 ∙ sym (stepped-other _ _ c.if-s-eq-MAX_LINES.false c.if-b-eq10.false d);
      ready = b.1;
    }

pub add_digit-requires : goal.add_digit-requires
add_digit-requires c = (
  omega (arith, c.requires.line, c.if-s-eq-MAX_LINES.false),
  c.requires.value,
  digit-test _ ∙ sym c.if-not-is_ascii_digit.ensures.value,
)

pub returns : goal.returns
returns c =
    let b = c.add_digit.ensures.each _ _ _ c.requires in
    let d = digit-test c.args.b ∙ sym c.if-not-is_ascii_digit.ensures.value in record {
      held_after = b.0 ∙ sym (stepped-digit _ _ c.if-s-eq-MAX_LINES.false c.if-b-eq10.false d);
      ready = b.1;
    }
