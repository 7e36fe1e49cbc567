use mathlib.Core.Path.{refl}
use borrow.Author.Tests.{eq-eqb, ne_eqb, lt-ltb, le-ltb}
use Rattle.laws.proofs.Tests.{and-true}
use Rattle.buftrace.proofs.ReaderLaws.{closed-spoils, closed-stays}
use Rattle.buftrace.proofs.scan.close.Goals as goal
use Rattle.buftrace.proofs.scan.close.Goals.{else-s-eq0-via-then-s-eq0+else-s-lt2, else-s-eq0-via-else-s-eq0}

pub returns-then-s-lt2 : goal.returns-then-s-lt2
returns-then-s-lt2 c =
    closed-spoils _ (and-true (eq-eqb _ _ c.if-s-eq0.true) (lt-ltb _ _ c.if-s-lt2.true)) c.spoil.ensures.becomes

pub returns : goal.returns
returns c =
    elim c.else-s-eq0.branch [
      | else-s-eq0-via-then-s-eq0+else-s-lt2 w ↦ closed-stays _ (rw (eq-eqb _ _ w.if-s-eq0.true, le-ltb _ _ w.if-s-lt2.false) refl)
      | else-s-eq0-via-else-s-eq0 w ↦ closed-stays _ (rw (ne_eqb _ _ w.if-s-eq0.false) refl)
    ]
