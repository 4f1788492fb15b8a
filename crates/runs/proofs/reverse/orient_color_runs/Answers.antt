-- `runs::reverse::orient_color_runs` meets its contract.
use Rattle.std.proofs.Common.{ℕ, List, sym, ap, ◌∙◌, arith}
use Rattle.base.specs.Parts.{over}
use Rattle.codec.proofs.Laws.Refusals.{passed_on}
use Rattle.runs.specs.Reverse.{oriented}
use Rattle.runs.proofs.Laws.Reverse.{oriented_long}
use Rattle.runs.proofs.Laws.Fill.{shifted_none}
use Rattle.runs.proofs.Laws.Answers.{list_refused, list_3, list_done}
use Rattle.runs.proofs.reverse.orient_color_runs.Goals as goal

pub returns-in_err-check_steady : goal.returns-in_err-check_steady
returns-in_err-check_steady c =
    rw (passed_on c.from_residual.ensures.1) (list_refused _ _ _ _ _ c.in_err-check_steady.ensures)

pub returns-then-out-runs : goal.returns-then-out-runs
returns-then-out-runs c =
    list_3 _ _ (oriented c.args.reversed c.args.n c.args.runs.now) _ c.in_ok-check_steady.ensures (omega (arith, oriented_long c.args.reversed c.args.n c.args.runs.now))

pub returns : goal.returns
returns c =
    let os = oriented c.args.reversed c.args.n c.args.runs.now in
    list_done _ _ os c.args.out.now c.in_ok-check_steady.ensures _ _ (sym (oriented_long c.args.reversed c.args.n c.args.runs.now)) c.if-out-runs.false (c.fill.ensures ∙ ap (λ (l : List ℕ). over l c.args.out.now) (shifted_none os))
