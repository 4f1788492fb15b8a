-- `runs::oriented::Shifted::fill_merged_rest` meets its contract.
use Rattle.std.proofs.Common.{◌-◌, ◌<◌, drop, length}
use Rattle.runs.specs.Append.{shifted}
use Rattle.runs.specs.Words.{coordinate}
use Rattle.runs.specs.Inside.Merging.{merged_behind}
use Rattle.runs.specs.Inside.Oriented.{list_of}
use Rattle.runs.proofs.Laws.Merging.{Merging}
use Rattle.runs.proofs.oriented.Shifted.fill_merged_rest.Given as goal

abbrev pub invariant-loop-end : goal.invariant-loop-end
invariant-loop-end l = (0 < l.i) × Merging (merged_behind l.self l.used l.fn.out) l.fn.out l.out l.end (coordinate l.previous) (shifted l.self.shift (drop l.i (list_of l.self.list)))

abbrev pub decreases-loop-end : goal.decreases-loop-end
decreases-loop-end l = length l.self.list.runs.now - l.i
