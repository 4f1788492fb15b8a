-- `runs::rotate::fill` meets its contract.
use Rattle.std.proofs.Common.{ℕ, List, length}
use Rattle.runs.specs.Inside.Yields.{YieldsAll}
use Rattle.runs.proofs.Laws.Lists.{Filled}
use Rattle.runs.proofs.rotate.fill.Given as goal

abbrev pub invariant-loop-i : goal.invariant-loop-i
invariant-loop-i g l = (all : List ℕ) → YieldsAll g.I.Iterator.next_gives l.fn.runs all → Filled all l.initial.out l.out (length l.yielded)
