use Rattle.bufmodel.proofs.FixedLaws.{flushed-fixed}
use Rattle.bufcontrol.proofs.StoredLaws.{stored-fixed}
use Rattle.bufcontrol.proofs.log.log_flushed_to.Goals as goal

pub store_back-requires : goal.store_back-requires
store_back-requires c = stored-fixed c.in_ok-after.ensures.after (flushed-fixed _ c.args.position)
