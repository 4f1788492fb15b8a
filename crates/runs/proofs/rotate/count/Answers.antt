-- `runs::rotate::count` meets its contract.
use Rattle.std.proofs.Common.{inl, arith}
use Rattle.runs.proofs.Laws.Turned.{few_ahead}
use Rattle.runs.proofs.rotate.count.Goals as goal

pub count-requires-clause-fits : goal.count-requires-clause-fits
count-requires-clause-fits c = inl (omega (arith, few_ahead c.args.cycle, c.args.cycle.turn.list.taken.small))
