-- `runs::blocks::Blocks::color_at` meets its contract.
use Rattle.std.proofs.Common.{◌-◌}
use Rattle.runs.specs.Inside.Blocks.{runs_of}
use Rattle.runs.specs.Inside.Lists.{Between}
use Rattle.runs.proofs.blocks.Blocks.color_at.Given as goal

abbrev pub invariant-loop-low : goal.invariant-loop-low
invariant-loop-low l = Between l.vertex (runs_of l.self) l.low l.high

abbrev pub decreases-loop-low : goal.decreases-loop-low
decreases-loop-low l = l.high - l.low
