-- `absent::list_up_to` meets its contract. The loop's invariant: the absent ids below `from` are listed.
use Rattle.codec.specs.Inside.Gaps.{Listed}
use Rattle.codec.proofs.absent.list_up_to.Given as goal

abbrev pub invariant-loop-i : goal.invariant-loop-i
invariant-loop-i l = Listed l.set.colors.n l.set.ids.now (record { i = l.i; from = l.from }) l.room
