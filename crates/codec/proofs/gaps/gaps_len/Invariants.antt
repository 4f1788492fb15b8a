-- `gaps::gaps_len` meets its contract. The loop's invariant: the bits counted are those of the ids passed, at most 29 for each number passed.
use Prim.Native.Nat.{◌-◌, ◌*◌, ◌≤◌}
use mathlib.Core.Path.{◌≡◌}
use mathlib.Core.Bool.{Bool}
use mathlib.Core.List.{List}
use lib.ListN.{length}
use Rattle.codec.proofs.Laws.Coded.{Coding}
use Rattle.codec.proofs.gaps.gaps_len.Given as goal

abbrev pub invariant-loop-count : goal.invariant-loop-count
invariant-loop-count g l = (done : List Bool) × Coding g.C.CodedIds.dense l.set.colors.n l.set.ids.now l.c done × (length done ≡ l.bits) × (l.bits ≤ 29 * l.c.from)

abbrev pub decreases-loop-count : goal.decreases-loop-count
decreases-loop-count g l = l.set.colors.n - l.c.from
