use Rattle.store.proofs.Laws.Tested.{said_unaltered}
use Rattle.store.proofs.Laws.Calls.{added}
use Rattle.store.proofs.state.Store.add.Goals as goal

pub add-told-requires : goal.add-told-requires
add-told-requires c = (said_unaltered _ _ _ _ c.of.ensures c.altered.ensures c.if-altered.false).add

pub returns : goal.returns
returns c = added _ _ _ _ _ _ _ c.of.ensures _ _ c.altered.ensures c.if-altered.false _ _ _ _ _ _ c.add-told.ensures
