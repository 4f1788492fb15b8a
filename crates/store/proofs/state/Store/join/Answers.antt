use Rattle.store.proofs.Laws.Tested.{said_unaltered}
use Rattle.store.proofs.Laws.Calls.{joined}
use Rattle.store.proofs.state.Store.join.Goals as goal

pub join-told-requires : goal.join-told-requires
join-told-requires c = (said_unaltered _ _ _ _ c.of.ensures c.altered.ensures c.if-altered.false).join

pub returns : goal.returns
returns c = joined _ _ _ _ _ _ _ c.of.ensures _ _ c.altered.ensures c.if-altered.false _ _ _ _ _ _ _ _ c.join-told.ensures
