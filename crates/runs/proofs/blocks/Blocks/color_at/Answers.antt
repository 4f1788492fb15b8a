-- `runs::blocks::Blocks::color_at` meets its contract.
use Rattle.std.proofs.Common.{ap, ◌∙◌, arith}
use Rattle.runs.specs.Words.{coordinate}
use Rattle.runs.proofs.Laws.Colours.{colour_between}
use Rattle.runs.proofs.blocks.Blocks.color_at.Goals as goal

pub returns : goal.returns
returns c = c.coordinate.ensures.0 ∙ ap coordinate c.run_at-2.ensures ∙ colour_between _ _ _ _ c.requires c.loop-low.invariant (omega arith)
