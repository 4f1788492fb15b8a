-- A line, and how far its words were taken.
use Rattle.std.specs.Prelude.{ℕ, ◌-◌, List, take, drop, Option, Some, None, Result, Ok, Err}
use Rattle.shell.specs.declared.fields.Field.{Field}
use Rattle.shell.specs.declared.reasons.Fault.{Fault}
use Rattle.shell.specs.declared.lists.Item.{Item}

-- a word and where it ends; where there is none the place stays
abbrev pub taken : List ℕ → ℕ → Option Field → Option (List ℕ) × ℕ
taken line at None = (None, at)
taken line at (Some f) = (Some (take (f.end - f.start) (drop f.start line)), f.end)

-- a value and where its word ends; where there is none the place stays
abbrev pub told : {T : Type 0} → ℕ → Result (Option (Item T)) Fault → Result (Option T) Fault × ℕ
told at (Ok None) = (Ok None, at)
told at (Ok (Some i)) = (Ok (Some i.value), i.next)
told at (Err f) = (Err f, at)
