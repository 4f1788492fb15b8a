use Rattle.store.proofs.Laws.Showing.{show_altered, shown_whole}
use Rattle.store.proofs.Laws.Tested.{said_unaltered}
use Rattle.store.proofs.state.Store.show.Goals as goal

pub returns-then-altered : goal.returns-then-altered
returns-then-altered c = show_altered _ _ _ _ _ _ _ c.of.ensures c.altered.ensures c.if-altered.true

pub of-filed-requires : goal.of-filed-requires
of-filed-requires c = (said_unaltered _ _ _ _ c.of.ensures c.altered.ensures c.if-altered.false).add

pub of-closed-requires : goal.of-closed-requires
of-closed-requires c = let a = (said_unaltered _ _ _ _ c.of.ensures c.altered.ensures c.if-altered.false).close in record { runs = a.runs; table = a.table }

pub returns : goal.returns
returns c =
    let f = c.of-filed.ensures in
    let k = c.of-closed.ensures in
    shown_whole _ _ _ _ _ _ _ c.of.ensures c.altered.ensures c.if-altered.false _ _ (rw (f.0, f.1, f.2, f.3, k.0, k.1, k.2) at c.show.ensures)
