use Rattle.store.proofs.Laws.Tested.{said_unaltered}
use Rattle.store.proofs.Laws.Calls.{closed}
use Rattle.store.proofs.state.Store.close.Goals as goal

pub close-told-requires : goal.close-told-requires
close-told-requires c = (said_unaltered _ _ _ _ c.of.ensures c.altered.ensures c.if-altered.false).close

pub returns : goal.returns
returns c = closed _ _ _ _ _ _ _ c.of.ensures _ _ c.altered.ensures c.if-altered.false _ _ _ _ _ _ _ c.close-told.ensures
