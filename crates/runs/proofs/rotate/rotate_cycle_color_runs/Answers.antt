-- `runs::rotate::rotate_cycle_color_runs` meets its contract.
use Rattle.std.proofs.Common.{ℕ, ◌<◌, List, length, ap, subst, ◌∙◌, arith}
use Rattle.base.specs.Parts.{over}
use Rattle.codec.proofs.Laws.Refusals.{passed_on}
use Rattle.runs.proofs.Laws.Turned.{gives_counted, yields_counted}
use Rattle.runs.proofs.Laws.Answers.{list_refused, list_3, list_done}
use Rattle.runs.proofs.rotate.rotate_cycle_color_runs.Goals as goal

pub returns-in_err-check_steady : goal.returns-in_err-check_steady
returns-in_err-check_steady c =
    rw (passed_on c.from_residual.ensures.1) (list_refused _ _ _ _ _ c.in_err-check_steady.ensures)

pub returns-then-out-count : goal.returns-then-out-count
returns-then-out-count c =
    list_3 _ _ _ _ c.in_ok-check_steady.ensures (subst (λ (x : ℕ). length c.args.out.now < x) (c.count-count.ensures ∙ ap length c.turned-cycle.ensures) c.if-out-count.true)

pub fill-requires : goal.fill-requires
fill-requires c = yields_counted c.take.result c.turned-cycle.result c.count-count.result c.take.ensures.source c.take.ensures.count c.count-count.ensures _ tt (omega (arith, c.if-out-count.false))

pub returns : goal.returns
returns c =
    list_done _ _ _ c.args.out.now c.in_ok-check_steady.ensures _ _ (c.count-count.ensures ∙ ap length c.turned-cycle.ensures) c.if-out-count.false
    (c.fill.ensures _ (gives_counted c.take.result c.turned-cycle.result c.count-count.result c.take.ensures.source c.take.ensures.count c.count-count.ensures) ∙ ap (λ (x : List ℕ). over x c.args.out.now) c.turned-cycle.ensures)
