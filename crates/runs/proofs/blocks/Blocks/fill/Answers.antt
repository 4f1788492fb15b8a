-- `runs::blocks::Blocks::fill` meets its contract.
use Rattle.std.proofs.Common.{drop, arith}
use Rattle.runs.proofs.Laws.Lists.{fill_more}
use Rattle.runs.proofs.Laws.Bytes.{length_words}
use Rattle.runs.proofs.blocks.Blocks.fill.Goals as goal

pub loop-i-preserved : goal.loop-i-preserved
loop-i-preserved c =
    let list = c.args.self.now in
    fill_more _ _ c.loop-i.out c.loop-i.i _ 0 (omega (arith, length_words list.count (drop list.at list.bytes.now))) (omega (arith, c.loop-i.invariant.long)) c.run_at.ensures c.loop-i.invariant
