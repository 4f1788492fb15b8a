-- `records::read_by_room` meets its contract.
use Rattle.codec.proofs.Laws.Reading.{set_damaged, set_space, set_done}
use Rattle.codec.proofs.records.read_by_room.Goals as goal

pub returns-in_default : goal.returns-in_default
returns-in_default c = set_damaged _ _ _ (rw c.new-source.ensures at c.in_default.ensures).0

pub returns-then-ids-body : goal.returns-then-ids-body
returns-then-ids-body c =
    let found = (rw c.new-source.ensures at c.in-Some.ensures).0 in
    rw (← found.0, ← found.1) (set_space _ _ c.args.ids.now _ found.2.are _ found.2.count c.if-ids-body.true)

pub fill-requires-clause-checked : goal.fill-requires-clause-checked
fill-requires-clause-checked c = (c.in-Some.ensures.0.2, c.in-Some.ensures.1)

pub returns : goal.returns
returns c =
    let found = (rw c.new-source.ensures at c.in-Some.ensures).0 in
    rw (← found.0, ← found.1) (set_done _ _ c.args.ids.now _ found.2.are _ found.2.count _ c.if-ids-body.false c.fill.ensures)
