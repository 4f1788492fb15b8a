use Prim.Native.Nat.{◌+◌, ◌-◌, ◌*◌, ◌/◌}
use mathlib.Core.Path.{◌≡◌, subst}
use lib.ListN.{length}
use Rattle.codec.specs.Inside.Gaps.{Skipped}
use native.Mathlib.Omega.{arith}
use Rattle.codec.proofs.Laws.Coded.{skipped_none, skipped_eight, counted_all}
use Rattle.codec.proofs.gaps.skip_present.Goals as goal

pub loop-eight-init : goal.loop-eight-init
loop-eight-init c =
    let a = c.args in
    skipped_none a.set.colors.n a.set.ids.now a.c.i a.c.from c.requires

pub returns-then-set-c : goal.returns-then-set-c
returns-then-set-c c =
    let a = c.args in
    counted_all a.set.colors.n a.set.ids.now a.c.i a.c.from (8 * c.loop-eight.eight) c.loop-eight.invariant (omega arith) c.if-set-c.true c.count_up.result c.count_up.ensures.0

pub loop-eight-preserved : goal.loop-eight-preserved
loop-eight-preserved c =
    let a = c.args in
    let e : 8 * c.loop-eight.eight + 8 ≡ 8 * (c.loop-eight.eight + 1) = omega arith in
    subst (Skipped a.set.colors.n a.set.ids.now a.c.i a.c.from) e (skipped_eight a.set.colors.n a.set.ids.now a.c.i a.c.from (8 * c.loop-eight.eight) c.loop-eight.invariant (omega arith) c.if-set-c.false)

pub skip_last-requires : goal.skip_last-requires
skip_last-requires c =
    let a = c.args in
    let e : 8 * c.loop-eight.eight ≡ (length a.set.ids.now - a.c.i) / 8 * 8 = omega arith in
    subst (Skipped a.set.colors.n a.set.ids.now a.c.i a.c.from) e c.loop-eight.invariant
