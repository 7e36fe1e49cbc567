use Rattle.std.proofs.Common.{◌≡◌, ◌+◌, pos, Bool, true, false, not, get_or, refl, sym, ap, ◌∙◌, arith}
use mir.Val.{bool_byte}
use Rattle.laws.specs.Sum.{ind, count}
use Rattle.laws.proofs.Sum.{count_none, count-le, sum-one-more}
use Rattle.buftag.specs.Check.{leading}
use Rattle.buftag.proofs.SignedLaws.{end_test}
use Rattle.buftag.proofs.lead.leading.Invariants.{on}
use Rattle.buftag.proofs.lead.leading.Goals as goal

byte-ind : (b : Bool) → bool_byte (not b) ≡ ind (not b)
byte-ind true = refl
byte-ind false = refl

-- one link more is counted
more : (c : goal.After-from-many) → c.loop-link.many + c.from-many.result ≡ count (c.loop-link.link-index + 1) (on c.args.links.now)
unfolding count
more c =
    let links = c.args.links.now in
    let i = c.loop-link.link-index in
    let told = end_test (get_or links i (pos 0)) (record { sfits = omega arith }) in
    omega (
      arith,
      c.loop-link.invariant,
      c.from-many.ensures ∙ byte-ind _ ∙ ap (λ b. ind (not b)) told,
      sum-one-more (λ k. ind (on links k)) i,
    )

pub loop-link-init : goal.loop-link-init
loop-link-init c = sym (count_none _)

pub overflow_add-many : goal.overflow_add-many
overflow_add-many c = omega (arith, more c, count-le (on c.args.links.now) (c.loop-link.link-index + 1))

pub loop-link-preserved : goal.loop-link-preserved
loop-link-preserved c = more c

pub returns : goal.returns
unfolding leading
returns c = c.loop-link.invariant ∙ ap (λ k. count k (on c.args.links.now)) (omega arith)
