use Rattle.bufmodel.proofs.FixedLaws.{pin-fixed}
use Rattle.bufcontrol.proofs.StoredLaws.{stored-fixed}
use Rattle.bufcontrol.proofs.pin.pin.Goals as goal

pub store_back-requires : goal.store_back-requires
store_back-requires c = stored-fixed c.in_ok-end.ensures.store_after (pin-fixed _ c.args.holder.0 c.args.name)
