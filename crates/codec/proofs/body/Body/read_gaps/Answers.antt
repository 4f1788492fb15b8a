-- `body::Body::read_gaps` meets its contract.
use Rattle.codec.proofs.Laws.GapReader.{read_start, read_all, read_none}
use Rattle.codec.proofs.body.Body.read_gaps.Goals as goal

pub returns-in_err-r : goal.returns-in_err-r
returns-in_err-r c =
    let a = c.args in
    let room = a.room.now in
    rw c.from_residual.ensures (read_none a.self room c.read_words.new.room (c.in_err-r.ensures room (read_start a.self room)))

pub returns-in_err-r-2 : goal.returns-in_err-r-2
returns-in_err-r-2 c =
    let a = c.args in
    let room = a.room.now in
    rw c.from_residual-in_err-r-2.ensures (read_none a.self room c.read_one.new.room (c.in_err-r-2.ensures room (c.loop-r.invariant.2 room (read_start a.self room))))

pub returns : goal.returns
returns c =
    let a = c.args in
    let room = a.room.now in
    let so = c.loop-r.invariant in
    read_all a.self c.loop-r.r room c.loop-r.room c.loop-r-test.false so.0.place (so.2 room (read_start a.self room))
