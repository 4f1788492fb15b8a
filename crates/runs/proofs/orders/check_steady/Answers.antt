-- `runs::orders::check_steady` meets its contract.
use Rattle.std.proofs.Common.{sym, ◌∙◌}
use Rattle.runs.proofs.Laws.Orders.{taken}
use Rattle.runs.proofs.orders.check_steady.Goals as goal

pub returns : goal.returns
returns c = taken _ _ c.if-n-gt16777215.false (sym c.is_steady.ensures ∙ c.if-not-is_steady.false)
