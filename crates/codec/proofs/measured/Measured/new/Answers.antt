-- `codec::measured::Measured::new` meets its contract.
use mathlib.Core.Path.{sym, ap, ◌∙◌}
use Rattle.std.proofs.Common.{Ok}
use Rattle.codec.proofs.Laws.Refusals.{passed_on}
use Rattle.codec.proofs.Laws.Colors.{turned_measured, taken_measured}
use Rattle.codec.proofs.measured.Measured.new.Goals as goal

pub returns-in_err-set : goal.returns-in_err-set
returns-in_err-set c = rw (passed_on c.from_residual.ensures.1) (sym (turned_measured c.args.n c.args.ids.now _ c.in_err-set.ensures.refused))

pub returns : goal.returns
returns c =
    let s = c.in_ok-set.set in
    rw (← c.in_ok-set.ensures.taken.0, ← c.in_ok-set.ensures.taken.1) (ap Ok c.of.ensures ∙ sym (taken_measured s.colors.n s.ids.now s.colors.some s.colors.few s.within))
