-- Demand 3, and that each number is accepted once, of every list of calls after an accepted start; nothing is assumed.
use Rattle.store.specs.Demand.{DemandStatement}
use Rattle.store.specs.Once.{ExactlyOnceStatement}
use Rattle.store.proofs.Laws.Demand.{began, demand_fresh, once_fresh}

pub demand_3 : DemandStatement
demand_3 N W b b' s e calls =
    let k = began N W b b' s e in
    rw (k.state, k.bufs) (demand_fresh N W b k.limits k.lengths calls)

pub once_each : ExactlyOnceStatement
once_each N W b b' s e updates items =
    let k = began N W b b' s e in
    rw (k.state, k.bufs) (once_fresh N W b k.limits k.lengths updates items)
