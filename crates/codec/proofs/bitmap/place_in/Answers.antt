-- `bitmap::place_in` meets its contract, by the table's rule.
use native.Mathlib.Omega.{arith}
use Rattle.codec.proofs.Laws.Tables.{place_is}
use Rattle.codec.proofs.bitmap.place_in.Goals as goal

pub returns : goal.returns
returns c = place_is c.args.four c.args.j (omega arith) (omega arith)
