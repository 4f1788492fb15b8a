-- `runs::oriented::Shifted::fill_backward` meets its contract.
use native.Mathlib.Omega.{arith}
use Rattle.runs.specs.Reverse.{reverse_runs}
use Rattle.runs.proofs.Laws.Reverse.{length_reversed}
use Rattle.runs.proofs.Laws.Fill.{below_top, backward_more, rest_end}
use Rattle.runs.proofs.oriented.Shifted.fill_backward.Goals as goal

pub backed-requires : goal.backed-requires
backed-requires c =
    let list = c.args.self.now.list in
    (below_top list.n c.args.self.now.shift list.runs.now list.taken _ _ (omega arith) c.from-top.ensures, omega (arith, c.from-top.ensures, c.args.self.now.few))

pub loop-i-preserved : goal.loop-i-preserved
loop-i-preserved c =
    let list = c.args.self.now.list in
    (omega arith, backward_more list.n c.args.self.now.shift list.runs.now list.taken _ _ _ c.loop-i.invariant.1 _ _ (omega arith) (omega (arith, c.loop-i.invariant.1.long)) c.from-top.ensures c.backed.ensures)

pub returns : goal.returns
returns c =
    let list = c.args.self.now.list in
    rest_end c.args.self.now.shift (reverse_runs list.n list.runs.now) _ _ c.loop-i.i c.loop-i.invariant.1 (omega (arith, length_reversed list.n list.runs.now))
