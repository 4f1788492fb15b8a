use Prim.Native.Nat.{◌+◌, ◌≤◌}
use native.Mathlib.Omega.{arith}
use lib.ListN.{length}
use Rattle.codec.proofs.Laws.Fronts.{front_wider}
use Rattle.codec.proofs.Laws.Rows.{next_few, fours_start, fours_most, fours_next}
use Rattle.codec.proofs.bitmap.fill_rows.Goals as goal

pub loop-j-init : goal.loop-j-init
loop-j-init c = fours_start c.args.word c.args.base (c.args.k + 32) c.args.k c.args.out.now (omega arith)

pub fill_row-at-requires : goal.fill_row-at-requires
fill_row-at-requires c =
    let a = c.args in
    let most = fours_most a.word a.base (a.k + 32) a.k a.out.now (omega arith) c.loop-j.j c.loop-j.at c.loop-j.out c.loop-j.invariant in
    record { bounds = (omega arith, omega arith, omega arith, omega (arith, most)); space = next_few a.word a.base c.loop-j.j }

pub loop-j-preserved : goal.loop-j-preserved
loop-j-preserved c =
    let a = c.args in
    let v = c.loop-j.invariant in
    let inside : a.k ≤ length a.out.now = omega arith in
    let most = fours_most a.word a.base (a.k + 32) a.k a.out.now inside c.loop-j.j c.loop-j.at c.loop-j.out v in
    fours_next a.word a.base (a.k + 32) a.k a.out.now inside c.loop-j.j c.loop-j.at c.loop-j.out v c.fill_row-at.result c.fill_row-at.new.out c.fill_row-at.ensures.told
    (front_wider _ _ _ _ (a.k + 32) (omega (arith, most)) c.fill_row-at.ensures.filled)
