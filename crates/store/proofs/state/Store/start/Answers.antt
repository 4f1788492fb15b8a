use Rattle.store.proofs.Laws.Calls.{start_fresh}
use Rattle.store.proofs.Laws.Tested.{some_entry, starts}
use Rattle.store.proofs.state.Store.start.Goals as goal

pub returns-then-bad_limits : goal.returns-then-bad_limits
returns-then-bad_limits c = search starts

pub returns-then-is_bad : goal.returns-then-is_bad
returns-then-is_bad c = search starts

pub bounds-index-0 : goal.bounds-index-0
bounds-index-0 c = some_entry _ _ _ c.of-lengths.ensures c.is_bad.ensures c.if-is_bad.false

pub returns : goal.returns
returns c = start_fresh _ _ _ _ _ _ _ c.of-lengths.ensures _ _ _ _ _ c.bad_limits.ensures c.if-bad_limits.false c.is_bad.ensures c.if-is_bad.false c.fresh.ensures
