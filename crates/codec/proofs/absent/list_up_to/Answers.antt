-- `absent::list_up_to` meets its contract.
use native.Mathlib.Omega.{arith}
use Rattle.codec.proofs.Laws.Absent.{listed_space, listed_room, listed_next}
use Rattle.codec.proofs.absent.list_up_to.Goals as goal

pub list_numbers-requires-clause-places : goal.list_numbers-requires-clause-places
list_numbers-requires-clause-places c =
    let s = c.args.set in
    let l = c.loop-i in (
      listed_space s.colors.n s.ids.now l.room l.i l.from l.invariant (omega arith),
      listed_room s.colors.n s.ids.now l.room l.i l.from l.invariant (omega arith) (omega arith),
    )

pub loop-i-preserved : goal.loop-i-preserved
loop-i-preserved c =
    let s = c.args.set in
    let l = c.loop-i in
    listed_next s.colors.n s.ids.now l.room l.i l.from l.invariant (omega arith) c.list_numbers.new.room c.list_numbers.ensures
