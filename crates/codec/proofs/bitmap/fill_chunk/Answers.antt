use Prim.Native.Nat.{◌+◌, ◌≤◌}
use native.Mathlib.Omega.{arith}
use lib.ListN.{length}
use Rattle.codec.proofs.Laws.Fronts.{front_wider}
use Rattle.codec.proofs.Laws.Rows.{next_ids, next_few, fours_start, fours_fit, fours_next}
use Rattle.codec.proofs.bitmap.fill_chunk.Goals as goal
use Rattle.codec.proofs.bitmap.fill_chunk.Goals.{In-loop-j, then-at-count, else-at-count}

pub loop-j-init : goal.loop-j-init
loop-j-init c = fours_start c.args.word c.args.base c.args.count c.args.k c.args.out.now (omega arith)

-- the next ids have place
fit : (c : In-loop-j) → c.loop-j.at + length (next_ids c.args.word c.args.base c.loop-j.j) ≤ c.args.count
fit c =
    omega (arith, fours_fit c.args.word c.args.base c.args.count c.args.k c.args.out.now (omega arith) c.loop-j.j c.loop-j.at c.loop-j.out c.loop-j.invariant (omega arith), c.requires.space)

pub overflow_sub-count : goal.overflow_sub-count
overflow_sub-count c = omega (arith, fit (goal.at.overflow_sub-count c).In-loop-j)

pub fill_row-at-requires-clause-space : goal.fill_row-at-requires-clause-space
fill_row-at-requires-clause-space c = next_few c.args.word c.args.base c.loop-j.j

pub fill_row-at-requires-else-at-count-clause-space : goal.fill_row-at-requires-else-at-count-clause-space
fill_row-at-requires-else-at-count-clause-space c = omega (arith, fit (goal.at.fill_row-at-requires-else-at-count-clause-space c).In-loop-j)

pub loop-j-preserved : goal.loop-j-preserved
loop-j-preserved c =
    let a = c.args in
    let next = fours_next a.word a.base a.count a.k a.out.now (omega arith) c.loop-j.j c.loop-j.at c.loop-j.out c.loop-j.invariant in
    elim c.if-at-count.branch [
      | then-at-count w ↦ rw (w.at-is, w.out-is) (next w.fill_row-at.result w.fill_row-at.new.out w.fill_row-at.ensures.told (front_wider _ _ _ _ a.count w.if-at-count.true w.fill_row-at.ensures.filled))
      | else-at-count w ↦
          let most = fit (goal.at.loop-j-preserved c).In-loop-j in
          rw (w.at-is, w.out-is)
          (next w.fill_row-at-else-at-count.result w.fill_row-at-else-at-count.new.out w.fill_row-at-else-at-count.ensures.told (front_wider _ _ _ _ a.count (omega (arith, most)) w.fill_row-at-else-at-count.ensures.filled))
    ]

pub returns-then-k-count-clause-filled : goal.returns-then-k-count-clause-filled
returns-then-k-count-clause-filled c = front_wider _ _ _ _ c.args.count (omega arith) c.fill_rows.ensures.filled
