-- `runs::orders::merged_count` meets its contract.
use native.Mathlib.Omega.{arith}
use Rattle.std.proofs.lemmas.Bool.Decides.{nat_tests}
use Rattle.base.proofs.Bools.{via}
use Rattle.runs.proofs.Laws.Merge.{alike_inside, count_none, falling_count, sharp_count, too_many, unframed_count}
use Rattle.runs.proofs.Laws.Orders.{sharp_none}
use Rattle.runs.proofs.orders.merged_count.Goals as goal
use Rattle.runs.proofs.orders.merged_count.Goals.{then-is_empty-via-then-is_empty, then-is_empty-via-else-is_empty+then-runs-gt16777216}

pub returns-then-is_empty : goal.returns-then-is_empty
returns-then-is_empty c =
    count_none c.args.n c.args.runs.now
    (elim c.then-is_empty.branch [
      | then-is_empty-via-then-is_empty w ↦ sharp_none c.args.n c.args.runs.now (grind (arith, nat_tests))
      | then-is_empty-via-else-is_empty+then-runs-gt16777216 w ↦ too_many c.args.n c.args.runs.now w.if-runs-gt16777216.true
    ])

pub returns-then-not-is_framed : goal.returns-then-not-is_framed
returns-then-not-is_framed c = unframed_count c.args.n c.args.runs.now (grind (arith, nat_tests)) (via c.is_framed.ensures c.if-not-is_framed.true)

pub returns-then-marks-ge16777216 : goal.returns-then-marks-ge16777216
returns-then-marks-ge16777216 c = falling_count c.args.n c.args.runs.now (grind (arith, nat_tests)) (via c.is_framed.ensures c.if-not-is_framed.false) (omega (arith, c.if-runs-gt16777216.false)) _ c.marks-marks.ensures c.if-marks-ge16777216.true

pub overflow_sub-result : goal.overflow_sub-result
overflow_sub-result c = alike_inside c.args.n c.args.runs.now (grind (arith, nat_tests)) (via c.is_framed.ensures c.if-not-is_framed.false) (omega (arith, c.if-runs-gt16777216.false)) _ c.marks-marks.ensures (omega (arith, c.if-marks-ge16777216.false))

pub returns : goal.returns
returns c = sharp_count c.args.n c.args.runs.now (grind (arith, nat_tests)) (via c.is_framed.ensures c.if-not-is_framed.false) (omega (arith, c.if-runs-gt16777216.false)) _ c.marks-marks.ensures (omega (arith, c.if-marks-ge16777216.false))
