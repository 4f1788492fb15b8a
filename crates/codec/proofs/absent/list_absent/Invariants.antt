-- `absent::list_absent` meets its contract. The loop's invariant: the absent ids below `from` are listed, and eight ids passed for each turn.
use Prim.Native.Nat.{◌*◌}
use Rattle.codec.specs.Inside.Gaps.{Listed}
use Rattle.codec.proofs.absent.list_absent.Given as goal

abbrev pub invariant-loop-eight : goal.invariant-loop-eight
invariant-loop-eight l = Listed l.set.colors.n l.set.ids.now (record { i = 8 * l.eight; from = l.from }) l.room
