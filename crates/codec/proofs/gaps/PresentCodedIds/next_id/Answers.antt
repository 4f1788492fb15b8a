-- The ids of a sparse set, one after another.
use native.Mathlib.Omega.{arith}
use Rattle.codec.proofs.Laws.Coded.{head_within, gave_id, gave_no_id}
use Rattle.codec.proofs.gaps.PresentCodedIds.next_id.Goals as goal

pub returns-then-set-c : goal.returns-then-set-c
returns-then-set-c c = gave_no_id c.args.set.colors.n c.args.set.ids.now c.args.c c.if-set-c.true

pub overflow_add-result-2 : goal.overflow_add-result-2
overflow_add-result-2 c =
    let a = c.args in
    omega (arith, (head_within a.set.ids.now a.set.colors.n a.c.i a.c.from c.if-set-c.false c.requires.left).1)

pub returns : goal.returns
returns c = gave_id c.args.set.colors.n c.args.set.ids.now c.args.c c.requires c.if-set-c.false
