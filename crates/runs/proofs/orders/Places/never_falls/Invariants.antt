-- `runs::orders::Places::never_falls` meets its contract.
use Rattle.std.proofs.Common.{◌≡◌, ◌-◌, ◌<◌, length}
use Rattle.runs.specs.Inside.Falls.{fall, total}
use Rattle.runs.proofs.orders.Places.never_falls.Given as goal

abbrev pub invariant-loop-from : goal.invariant-loop-from
invariant-loop-from g l = (l.from < length (g.R.Runs.list l.self.runs)) × (total (fall l.self.step (g.R.Runs.list l.self.runs)) 0 l.from ≡ 0)

abbrev pub decreases-loop-from : goal.decreases-loop-from
decreases-loop-from g l = l.places - l.from
