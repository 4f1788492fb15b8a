-- `runs::blocks::Blocks::run_at` meets its contract.
use Rattle.std.proofs.Common.{◌≤◌, ◌<◌, ◌+◌, ◌*◌, length, sym, ap, ◌∙◌, drop, arith}
use Rattle.std.specs.Int.{w64, from_le_bytes}
use Rattle.runs.proofs.Laws.Bytes.{length_words, take_8, word_from, word_there}
use Rattle.runs.proofs.blocks.BlocksRuns.run_at.Goals as goal

pub returns : goal.returns
returns c =
    let list = c.args.self.now in
    let bytes = list.bytes.now in
    let place = list.at + 8 * c.args.i in
    let inside : c.args.i < list.count = omega (arith, length_words list.count (drop list.at bytes)) in
    let room : place + 8 ≤ length bytes = omega (arith, list.whole) in
    word_there bytes list.at list.count c.args.i _ inside (c.from_le_bytes.ensures ∙ ap (from_le_bytes w64) (sym (take_8 bytes place room)) ∙ word_from bytes place room)
