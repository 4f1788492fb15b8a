-- `colors::ColorSet::new` meets its contract.
use mathlib.Core.Path.{sym, ◌∙◌}
use Rattle.codec.proofs.Laws.Records.{within_ids}
use Rattle.codec.proofs.colors.ColorSet.new.Goals as goal

pub invariant_of-result : goal.invariant_of-result
invariant_of-result c = record { within = within_ids 0 c.in_ok-colors.colors.n c.args.ids.now (sym c.is_ascending.ensures ∙ c.if-not-is_ascending.false) }
