-- `runs::merge::merge_color_runs` meets its contract.
use mathlib.Core.Path.{sym, ◌∙◌}
use native.Mathlib.Omega.{arith}
use Rattle.runs.proofs.Laws.Answers.{merged_3, merged_6, merged_7, merged_done}
use Rattle.runs.proofs.Laws.Merge.{merge_oriented_long, none_count, some_count}
use Rattle.runs.proofs.Laws.Orders.{sharp_yes, steady_sharp, taken}
use Rattle.runs.proofs.merge.merge_color_runs.Goals as goal

pub returns-then-n-gt16777215 : goal.returns-then-n-gt16777215
returns-then-n-gt16777215 c = merged_7 c.args.runs.now c.args.n c.args.reversed c.args.out.now c.if-n-gt16777215.true

pub returns-in_default : goal.returns-in_default
returns-in_default c = merged_6 c.args.runs.now c.args.n c.args.reversed c.args.out.now (omega (arith, c.if-n-gt16777215.false)) (none_count _ _ c.in_default.ensures)

pub returns-then-out-count : goal.returns-then-out-count
returns-then-out-count c =
    let a = some_count _ _ _ c.in-Some.ensures in
    merged_3 c.args.runs.now c.args.n c.args.reversed c.args.out.now c.if-n-gt16777215.false a.0 _ a.1 c.if-out-count.true

pub invariant_of-fill_merged : goal.invariant_of-fill_merged
invariant_of-fill_merged c =
    let a = some_count _ _ _ c.in-Some.ensures in
    record { taken = taken c.args.n c.args.runs.now c.if-n-gt16777215.false (steady_sharp c.args.n c.args.runs.now a.0) }

pub fill_merged-requires : goal.fill_merged-requires
fill_merged-requires c =
    let a = some_count _ _ _ c.in-Some.ensures in
    ((sharp_yes c.args.n c.args.runs.now a.0).some, a.1 ∙ sym (merge_oriented_long c.args.reversed c.args.n c.args.runs.now (omega (arith, c.if-n-gt16777215.false))), c.if-out-count.false)

pub returns : goal.returns
returns c =
    let a = some_count _ _ _ c.in-Some.ensures in
    merged_done c.args.runs.now c.args.n c.args.reversed c.args.out.now c.if-n-gt16777215.false a.0 _ a.1 _ c.if-out-count.false c.fill_merged.ensures
