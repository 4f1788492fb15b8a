-- `runs::orders::Places::never_falls` meets its contract.
use Prim.Native.Nat.{◌+◌, ◌-◌, ◌<◌}
use mathlib.Core.Path.{refl}
use native.Mathlib.Omega.{arith}
use lib.ListN.{length}
use Rattle.runs.specs.Inside.Falls.{total}
use Rattle.runs.proofs.Laws.Falls.{more_none, none_falls, some_fall}
use Rattle.runs.proofs.orders.Places.never_falls.Goals as goal

pub loop-from-init : goal.loop-from-init
unfolding total
loop-from-init g c = (c.requires, refl)

pub returns-then-marks-ne0 : goal.returns-then-marks-ne0
returns-then-marks-ne0 g c =
    let ws = g.R.Runs.list c.args.self.now.runs in
    some_fall c.args.self.now.step ws (length ws - 1) c.loop-from.from 8000 (omega (arith, c.count-places.ensures.0, c.loop-from-test.true)) c.marks.result c.marks.ensures c.loop-from.invariant.1 c.if-marks-ne0.true refl

pub loop-from-preserved : goal.loop-from-preserved
loop-from-preserved g c =
    let ws = g.R.Runs.list c.args.self.now.runs in
    let inside : c.loop-from.from + 8000 < length ws = omega (arith, c.count-places.ensures.0, c.loop-from-test.true) in
    (inside, more_none c.args.self.now.step ws (length ws - 1) c.loop-from.from 8000 (omega arith) c.marks.result c.marks.ensures c.loop-from.invariant.1 c.if-marks-ne0.false)

pub returns : goal.returns
returns g c =
    let ws = g.R.Runs.list c.args.self.now.runs in
    none_falls c.args.self.now.step ws (length ws - 1) c.loop-from.from _ (omega (arith, c.count-places.ensures.0, c.loop-from.invariant.0)) c.marks-2.result c.marks-2.ensures c.loop-from.invariant.1 (omega (arith, c.count-places.ensures.0, c.loop-from.invariant.0)) refl
