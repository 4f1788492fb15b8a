-- `gaps::same_gaps` meets its contract. The loop's invariant: the bits of the ids given stand there.
use Prim.Native.Nat.{◌-◌, ◌*◌, ◌≤◌}
use mathlib.Core.Path.{◌≡◌}
use mathlib.Core.Bool.{Bool}
use mathlib.Core.List.{List, ◌++◌}
use lib.ListN.{length, drop}
use Rattle.codec.specs.Bits.{bits_of}
use Rattle.codec.proofs.Laws.Coded.{Coding}
use Rattle.codec.proofs.gaps.same_gaps.Given as goal

abbrev pub invariant-loop-id : goal.invariant-loop-id
invariant-loop-id g l = (done : List Bool) × Coding g.C.CodedIds.dense l.set.colors.n l.set.ids.now l.c done × (drop l.at (bits_of l.source.bytes.now) ≡ done ++ drop l.place (bits_of l.source.bytes.now)) × (l.place ≤ 8 * length l.source.bytes.now)

abbrev pub decreases-loop-id : goal.decreases-loop-id
decreases-loop-id g l = l.set.colors.n - l.c.from
