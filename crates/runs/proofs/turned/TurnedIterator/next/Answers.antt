-- `runs::turned::Turned::next` meets its contract.
use Rattle.std.proofs.Common.{◌≡◌, ◌+◌, ◌<◌, length, ap, ◌∙◌, arith}
use Rattle.base.proofs.Bools.{via}
use Rattle.runs.specs.Inside.Oriented.{list_of}
use Rattle.runs.proofs.Laws.Reverse.{oriented_long, oriented_steady}
use Rattle.runs.proofs.Laws.Cursor.{gave, passed_none, passed_same, none_ahead}
use Rattle.runs.proofs.turned.TurnedIterator.next.Goals as goal
use Rattle.runs.proofs.turned.TurnedIterator.next.Goals.{else-part-via-then-part+else-begins_at, else-part-via-else-part}

pub returns-then-begins_at-clause-steps : goal.returns-then-begins_at-clause-steps
returns-then-begins_at-clause-steps c =
    let turn = c.args.self.now.turn in
    let list = turn.list in
    let s = oriented_steady list.reversed list.n list.runs.now list.taken.small list.taken.list in
    let long : length (list_of list) ≡ length list.runs.now = oriented_long list.reversed list.n list.runs.now in
    let g = gave list.n turn.pivot (list_of list) s turn.within c.loop-step.step c.args.self.now.colour c.part_at-part.result (omega arith) c.part_at-part.ensures c.if-part.true (via c.begins_at.ensures c.if-begins_at.true) in
    cc

pub returns-then-begins_at-clause-goes : goal.returns-then-begins_at-clause-goes
returns-then-begins_at-clause-goes c =
    let e = returns-then-begins_at-clause-steps c in
    record { on = λ f. (tt, tt, omega (arith, ap length e)); keeps = tt; rests = λ f. tt }

pub loop-step-preserved : goal.loop-step-preserved
loop-step-preserved c =
    let turn = c.args.self.now.turn in
    let list = turn.list in
    let s = oriented_steady list.reversed list.n list.runs.now list.taken.small list.taken.list in
    let long : length (list_of list) ≡ length list.runs.now = oriented_long list.reversed list.n list.runs.now in
    let more : c.loop-step.step < length (list_of list) + length (list_of list) = omega arith in
    c.loop-step.invariant
    ∙ elim c.else-part.branch [
      | else-part-via-then-part+else-begins_at w ↦ passed_same list.n turn.pivot (list_of list) s turn.within c.loop-step.step c.args.self.now.colour c.part_at-part.result more c.part_at-part.ensures (via w.begins_at.ensures w.if-begins_at.false)
      | else-part-via-else-part w ↦ passed_none list.n turn.pivot (list_of list) s turn.within c.loop-step.step c.args.self.now.colour c.part_at-part.result more c.part_at-part.ensures w.if-part.false
    ]

pub returns-clause-steps : goal.returns-clause-steps
returns-clause-steps c =
    let turn = c.args.self.now.turn in
    let list = turn.list in
    let s = oriented_steady list.reversed list.n list.runs.now list.taken.small list.taken.list in
    let long : length (list_of list) ≡ length list.runs.now = oriented_long list.reversed list.n list.runs.now in (
      c.loop-step.invariant ∙ none_ahead list.n turn.pivot (list_of list) c.loop-step.step c.args.self.now.colour s turn.within (omega arith),
      none_ahead list.n turn.pivot (list_of list) _ c.args.self.now.colour s turn.within (omega arith),
    )
