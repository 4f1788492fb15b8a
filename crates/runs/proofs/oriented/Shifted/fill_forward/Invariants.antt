-- `runs::oriented::Shifted::fill_forward` meets its contract.
use lib.ListN.{drop}
use Rattle.runs.specs.Append.{shifted}
use Rattle.runs.proofs.Laws.Lists.{Filled}
use Rattle.runs.proofs.oriented.Shifted.fill_forward.Given as goal

abbrev pub invariant-loop-i : goal.invariant-loop-i
invariant-loop-i l = Filled (shifted l.self.shift (drop 1 l.self.list.runs.now)) l.initial.out l.out l.i
