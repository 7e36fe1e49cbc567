use Rattle.buftrace.proofs.ReaderLaws.{spoilt-becomes}
use Rattle.buftrace.proofs.scan.spoil.Goals as goal

pub returns-clause-becomes : goal.returns-clause-becomes
returns-clause-becomes c = spoilt-becomes _ c.requires
