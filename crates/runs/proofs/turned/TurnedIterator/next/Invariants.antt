-- `runs::turned::Turned::next` meets its contract.
use Rattle.std.proofs.Common.{◌≡◌}
use Rattle.runs.specs.Inside.Oriented.{list_of}
use Rattle.runs.specs.Inside.Cursor.{runs_from_step}
use Rattle.runs.specs.Inside.Turned.{ahead}
use Rattle.runs.proofs.turned.TurnedIterator.next.Given as goal

abbrev pub invariant-loop-step : goal.invariant-loop-step
invariant-loop-step l = ahead l.fn.self ≡ runs_from_step l.turn.list.n l.turn.pivot (list_of l.turn.list) l.step l.colour
