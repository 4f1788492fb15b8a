-- A list in either direction, as the struct holds it.
use Rattle.std.specs.Prelude.{ℕ, List}
use Rattle.runs.specs.Reverse.{oriented}
use Rattle.runs.specs.declared.oriented.Oriented.{Oriented}

abbrev pub list_of : Oriented → List ℕ
list_of o = oriented o.reversed o.n o.runs.now
