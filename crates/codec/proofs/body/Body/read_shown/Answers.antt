-- `body::Body::read_shown` meets its contract.
use Rattle.codec.proofs.Laws.GapReader.{read_on}
use Rattle.codec.proofs.body.Body.read_shown.Goals as goal

pub returns-then-s-eq15 : goal.returns-then-s-eq15
returns-then-s-eq15 c = let a = c.args in read_on a.self a.s.reached a.room.now c.read_run.new.room c.read_run.result c.read_run.ensures
