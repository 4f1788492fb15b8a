-- `runs::blocks::Blocks::fill` meets its contract.
use Rattle.runs.specs.Inside.Blocks.{runs_of}
use Rattle.runs.proofs.Laws.Lists.{Filled}
use Rattle.runs.proofs.blocks.Blocks.fill.Given as goal

abbrev pub invariant-loop-i : goal.invariant-loop-i
invariant-loop-i l = Filled (runs_of l.self) l.initial.out l.out l.i
