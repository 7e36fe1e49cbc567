use Rattle.bufmodel.proofs.FixedLaws.{inserted-fixed}
use Rattle.bufcontrol.proofs.StoredLaws.{stored-fixed}
use Rattle.bufcontrol.proofs.log.log_inserted_to.Goals as goal

pub store_back-requires : goal.store_back-requires
store_back-requires c = stored-fixed c.in_ok-after.ensures.after (inserted-fixed _ c.args.position)
