-- `gaps::gaps_len` meets its contract.
use mathlib.Core.Path.{refl}
use mathlib.Core.List.{[], ◌++◌}
use native.Mathlib.Omega.{arith}
use lib.ListN.{length-append}
use Rattle.codec.proofs.Laws.Coded.{coding_start, coding_on}
use Rattle.codec.proofs.gaps.gaps_len.Goals as goal

pub loop-count-init : goal.loop-count-init
loop-count-init g c = let s = c.args.set in ([], coding_start g.C.CodedIds.dense s.colors.n s.ids.now s.within, refl, omega arith)

pub loop-count-preserved : goal.loop-count-preserved
loop-count-preserved g c =
    let s = c.args.set in
    let inv = c.loop-count.invariant in
    let more = c.in-Some.ensures in (
      inv.0 ++ more.0,
      coding_on g.C.CodedIds.dense s.colors.n s.ids.now c.loop-count.c inv.0 inv.1 c.in-Some.field-0.next more.0 more.2 more.5,
      omega (arith, length-append inv.0 more.0, inv.2, more.1),
      omega (arith, inv.3, more.4),
    )
