-- `runs::orders::Places::is_framed` meets its contract.
use mathlib.Core.Path.{sym, ap, ◌∙◌}
use Rattle.runs.specs.Words.{offset}
use Rattle.runs.proofs.Laws.Falls.{framed_yes, framed_no}
use Rattle.runs.proofs.orders.Places.is_framed.Goals as goal

pub returns-then-offset-eq0 : goal.returns-then-offset-eq0
returns-then-offset-eq0 g c =
    let ws = g.R.Runs.list c.args.self.now.runs in
    rw (c.from.ensures, c.from-then-offset-eq0.ensures, c.offset-then-offset-eq0.ensures, c.run_at-then-offset-eq0.ensures, c.count.ensures.0) (framed_yes c.args.self.now.step c.args.n ws (ap offset (sym c.run_at.ensures) ∙ sym c.offset.ensures ∙ c.if-offset-eq0.true))

pub returns-else-offset-eq0 : goal.returns-else-offset-eq0
returns-else-offset-eq0 g c =
    let ws = g.R.Runs.list c.args.self.now.runs in
    rw (c.offset.ensures, c.run_at.ensures) (framed_no c.args.self.now.step c.args.n ws (λ e. c.if-offset-eq0.false (c.offset.ensures ∙ ap offset c.run_at.ensures ∙ e)))
