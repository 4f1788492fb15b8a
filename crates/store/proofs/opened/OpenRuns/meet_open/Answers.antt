-- `store::opened::OpenRuns::meet_open` meets its contract.
use native.Mathlib.Omega.{arith}
use Rattle.runs.proofs.Laws.Merge.{merge_some}
use Rattle.store.proofs.opened.OpenRuns.meet_open.Goals as goal

pub overflow_sub-piece : goal.overflow_sub-piece
overflow_sub-piece c = omega (arith, c.args.piece.count, merge_some c.args.piece.sent.runs.now c.args.piece.some)
