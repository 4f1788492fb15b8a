-- `runs::oriented::Shifted::fill_backward` meets its contract.
use Prim.Native.Nat.{◌-◌, ◌≤◌}
use lib.ListN.{length, drop}
use Rattle.runs.specs.Reverse.{reverse_runs}
use Rattle.runs.specs.Append.{shifted}
use Rattle.runs.proofs.Laws.Lists.{Filled}
use Rattle.runs.proofs.oriented.Shifted.fill_backward.Given as goal

abbrev pub invariant-loop-i : goal.invariant-loop-i
invariant-loop-i l = (l.i ≤ length l.runs - 1) × Filled (shifted l.self.shift (drop 1 (reverse_runs l.self.list.n l.runs))) l.initial.out l.out l.i
