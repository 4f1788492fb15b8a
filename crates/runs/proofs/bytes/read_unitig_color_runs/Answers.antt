-- `runs::bytes::read_unitig_color_runs` meets its contract.
use Rattle.std.proofs.Common.{length, length-drop, drop, sym, ap, arith, ◌*◌}
use Rattle.codec.proofs.Laws.Refusals.{passed_on}
use Rattle.runs.specs.Inside.Blocks.{runs_of}
use Rattle.runs.proofs.Laws.Bytes.{length_words, read_none, read_3, read_done}
use Rattle.runs.proofs.bytes.read_unitig_color_runs.Goals as goal

pub returns-in_err-list : goal.returns-in_err-list
returns-in_err-list c =
    rw (passed_on c.from_residual.ensures.1) (read_none c.args.bytes.now _ c.in_err-list.ensures c.args.out.now)

pub returns-then-out-list : goal.returns-then-out-list
returns-then-out-list c =
    let list = c.in_ok-list.list in
    let long = length_words list.count (drop list.at list.bytes.now) in
    read_3 c.args.bytes.now (runs_of list) _ c.args.out.now c.in_ok-list.ensures.1 (omega arith)

pub returns : goal.returns
returns c =
    let list = c.in_ok-list.list in
    let bytes = c.args.bytes.now in
    let long = length_words list.count (drop list.at list.bytes.now) in
    let rest = length-drop (8 * list.count) (drop list.at bytes) in
    let behind = length-drop list.at bytes in
    let same = ap length c.in_ok-list.ensures.0 in
    read_done bytes (runs_of list) _ c.args.out.now c.in_ok-list.ensures.1 _ _ _ (omega arith) (sym long) (omega (arith, list.whole)) c.fill.ensures
