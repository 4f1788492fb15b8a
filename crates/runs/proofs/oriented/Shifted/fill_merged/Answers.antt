-- `runs::oriented::Shifted::fill_merged` meets its contract.
use mathlib.Core.Path.{◌∙◌}
use Rattle.runs.proofs.Laws.Merging.{rest_fills, rest_put, room_first}
use Rattle.runs.proofs.oriented.Shifted.fill_merged.Goals as goal

pub bounds-out-used : goal.bounds-out-used
bounds-out-used c = room_first c.args.self.now c.args.out.now c.args.used c.args.total _ (rw c.if-drops.false at c.requires) c.first.ensures

pub fill_merged_rest-requires-else-drops : goal.fill_merged_rest-requires-else-drops
fill_merged_rest-requires-else-drops c = rest_fills c.args.self.now c.args.out.now c.args.used c.args.total _ (rw c.if-drops.false at c.requires) c.first.ensures

pub returns-else-drops : goal.returns-else-drops
returns-else-drops c = c.fill_merged_rest-else-drops.ensures ∙ rest_put c.args.self.now c.args.out.now c.args.used c.args.total _ (rw c.if-drops.false at c.requires) c.first.ensures
