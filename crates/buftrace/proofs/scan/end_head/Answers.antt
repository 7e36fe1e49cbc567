use Prim.Native.Nat.{◌≤◌}
use native.Mathlib.Omega.{arith}
use mathlib.Core.Path.{refl}
use borrow.Author.Tests.{le-ltb}
use Rattle.bufmodel.specs.Sizes.{max_buffers}
use Rattle.buftrace.proofs.ReaderLaws.{becomes-is, under-becomes, over-becomes, buffers-becomes, blocks-becomes}
use Rattle.buftrace.proofs.scan.end_head.Goals as goal
use Rattle.buftrace.proofs.scan.end_head.Goals.{
  then-s-lt1-via-then-s-lt1,
  then-s-lt1-via-else-s-lt1+then-s-gt-MAX_BUFFERS,
}

pub returns-then-s-eq1 : goal.returns-then-s-eq1
returns-then-s-eq1 c = becomes-is _ c.go_on.ensures (blocks-becomes _ c.if-s-eq1.true c.requires.1)

pub returns-then-s-lt1 : goal.returns-then-s-lt1
returns-then-s-lt1 c =
    elim c.then-s-lt1.branch [
      | then-s-lt1-via-then-s-lt1 w ↦
          under-becomes _ (omega (arith, c.if-s-eq1.false, c.requires.0)) c.requires.1 (omega arith) c.spoil.ensures.becomes
      | then-s-lt1-via-else-s-lt1+then-s-gt-MAX_BUFFERS w ↦
          over-becomes _ (omega (arith, c.if-s-eq1.false, c.requires.0)) c.requires.1 (omega arith) c.spoil.ensures.becomes
    ]

pub returns : goal.returns
returns c =
    let few : 1 ≤ c.args.s.value = omega arith in
    let many : c.args.s.value ≤ max_buffers = omega arith in
    becomes-is _ c.go_on-2.ensures
    (buffers-becomes _ (omega (arith, c.if-s-eq1.false, c.requires.0)) c.requires.1 (rw (le-ltb _ _ few, le-ltb _ _ many) refl))
