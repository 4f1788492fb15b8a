-- `gaps::write_gaps` meets its contract. The loop's invariant: the bits of the ids passed are written.
use Prim.Native.Nat.{◌-◌}
use mathlib.Core.Path.{◌≡◌}
use mathlib.Core.Bool.{Bool}
use mathlib.Core.List.{List}
use Rattle.codec.specs.Inside.Writers.{Wrote}
use Rattle.codec.proofs.Laws.Coded.{Coding}
use Rattle.codec.proofs.gaps.write_gaps.Given as goal

abbrev pub invariant-loop-next : goal.invariant-loop-next
invariant-loop-next g l = (done : List Bool) × Coding g.C.CodedIds.dense l.set.colors.n l.set.ids.now l.c done × Wrote l.initial.w l.w done × (l.w.out.ghost_name ≡ l.initial.w.out.ghost_name)

abbrev pub decreases-loop-next : goal.decreases-loop-next
decreases-loop-next g l = l.set.colors.n - l.c.from
