-- `gap_reader::put_id` meets its contract.
use mathlib.Core.Path.{sym}
use lib.Seq.{set_out}
use Rattle.codec.proofs.gap_reader.put_id.Goals as goal

pub returns-else-i-room : goal.returns-else-i-room
returns-else-i-room c = sym (set_out c.args.room.now c.args.i c.args.id c.if-i-room.false)
