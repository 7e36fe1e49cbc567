use Rattle.bufmodel.proofs.FixedLaws.{checkpoint-fixed}
use Rattle.bufcontrol.proofs.StoredLaws.{stored-fixed}
use Rattle.bufcontrol.proofs.back.checkpoint.Goals as goal

pub store_back-requires : goal.store_back-requires
store_back-requires c = stored-fixed c.in_ok-written.ensures.store_after (checkpoint-fixed _)
