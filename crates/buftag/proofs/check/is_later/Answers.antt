use Rattle.std.proofs.Common.{◌≡◌, ◌-◌, pos, nat_abs, sym, ◌∙◌, get_or, to_z, w32, arith}
use mir.Val.{SFits}
use Rattle.buftag.proofs.FirstLaws.{later-start, later-negative, later_last, later-place, later-past, later_same, later-found, later-on}
use Rattle.buftag.proofs.SignedLaws.{bits_back}
use Rattle.buftag.proofs.check.is_later.Goals as goal

pub loop-left-init : goal.loop-left-init
loop-left-init c = let f = c.ranges.first in rw (bits_back _ f) (later-start _ _ _ c.args.first f c.requires.3 (omega arith))

pub returns-then-at-lt0 : goal.returns-then-at-lt0
returns-then-at-lt0 c = rw (bits_back _ c.ranges.first) at (later-negative _ _ _ c.loop-left.invariant c.if-at-lt0.true)

pub returns-then-i-chain : goal.returns-then-i-chain
returns-then-i-chain c =
    rw (bits_back _ c.ranges.first) at
    (later-past _ _ _ (later-place _ _ _ c.loop-left.invariant c.if-at-lt0.false) c.if-i-chain.true)

pub returns-then-same_names : goal.returns-then-same_names
returns-then-same_names c =
    rw (bits_back _ c.ranges.first) at
    (later_same _ _ _ (later-place _ _ _ c.loop-left.invariant c.if-at-lt0.false) c.if-i-chain.false
    (sym c.same_names.ensures ∙ c.if-same_names.true))

pub returns-then-at-own : goal.returns-then-at-own
returns-then-at-own c =
    rw (bits_back _ c.ranges.first) at
    (later-found _ _ _ (later-place _ _ _ c.loop-left.invariant c.if-at-lt0.false) c.if-i-chain.false
    (sym c.same_names.ensures ∙ c.if-same_names.false) (omega arith) (record { sfits = omega arith }) c.requires.1 c.requires.2
    c.if-at-own.true)

pub loop-left-preserved : goal.loop-left-preserved
loop-left-preserved c =
    let f : SFits w32 (get_or c.args.chain.now (nat_abs (to_z w32 c.loop-left.at-bits)) (pos 0)) = record { sfits = omega arith } in
    rw (bits_back _ f)
    (later-on _ _ _ (later-place _ _ _ c.loop-left.invariant c.if-at-lt0.false) c.if-i-chain.false
    (sym c.same_names.ensures ∙ c.if-same_names.false) (omega arith) f (omega arith) c.if-at-own.false)

pub returns : goal.returns
returns c =
    let none_left : c.loop-left.left - 1 ≡ 0 = omega arith in
    rw (bits_back _ c.ranges.first) at (later_last _ _ _ (rw none_left at c.loop-left.invariant))
