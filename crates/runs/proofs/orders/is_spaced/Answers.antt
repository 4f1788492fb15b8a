-- `runs::orders::is_spaced` meets its contract.
use mathlib.Core.Path.{◌∙◌}
use Rattle.base.proofs.Bools.{via}
use Rattle.runs.proofs.Laws.Falls.{spaced_framed, spaced_unframed}
use Rattle.runs.proofs.orders.is_spaced.Goals as goal

pub invariant_of-places : goal.invariant_of-places
invariant_of-places g c = record { testable = record { small = c.requires.2; few = c.requires.1 } }

pub returns-then-is_framed : goal.returns-then-is_framed
returns-then-is_framed g c = c.never_falls.ensures ∙ spaced_framed c.args.step c.args.n (g.R.Runs.list c.args.runs) (via c.is_framed.ensures c.if-is_framed.true)

pub returns-else-is_framed : goal.returns-else-is_framed
returns-else-is_framed g c = c.if-is_framed.false ∙ spaced_unframed c.args.step c.args.n (g.R.Runs.list c.args.runs) (via c.is_framed.ensures c.if-is_framed.false)
