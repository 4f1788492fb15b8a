-- `runs::oriented::put_front` meets its contract.
use Rattle.runs.proofs.Laws.Fill.{front_is}
use Rattle.runs.proofs.oriented.put_front.Goals as goal

pub returns : goal.returns
returns c = front_is _ _ c.requires
