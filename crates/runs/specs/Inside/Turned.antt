-- The runs that a turned cycle has yet to give.
use Rattle.std.specs.Prelude.{ℕ, List}
use Rattle.runs.specs.Inside.Oriented.{list_of}
use Rattle.runs.specs.Inside.Cursor.{runs_from_step}
use Rattle.runs.specs.declared.turned.Turned.{Turned}

abbrev pub ahead : Turned → List ℕ
ahead t = runs_from_step t.turn.list.n t.turn.pivot (list_of t.turn.list) t.step t.colour
