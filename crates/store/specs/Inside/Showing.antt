-- A show as the code goes: the tests, then the record.
use Rattle.std.specs.Prelude.{ℕ, List, eqb, Result, Ok, Err}
use Rattle.std.proofs.Math.Option.{Option, none, some}
use Rattle.base.specs.Answers.{Answer, number_of, refused}
use Rattle.base.specs.Tests.{◌when◌else◌}
use Rattle.base.specs.declared.Given.{Given}
use Rattle.base.specs.declared.Refusal.{Refusal}
use Rattle.base.specs.declared.Refusal.TheVariants.{Damaged, Place, Space}
use Rattle.store.specs.Filed.{record_start, set_from}
use Rattle.store.specs.Show.{no_place, shown_by, vertex_coord}
use Rattle.store.specs.declared.state.Cell.{Cell}
use Rattle.store.specs.declared.state.Shared.{Shared}

-- where the record begins that a coordinate names, or nowhere
unfoldable pub place_by : Cell → (index : List ℕ) → Option ℕ → Option ℕ
place_by c index none = none
place_by c index (some coord) = record_start c index coord

unfoldable pub seek_by : Option ℕ → Result ℕ Refusal
seek_by none = Err Damaged
seek_by (some at) = Ok at

unfoldable pub seek_of : Cell → Shared → (index runs table : List ℕ) → ℕ → ℕ → Result ℕ Refusal
seek_of c s index runs table unitig vertex =
    Err Place when no_place s table unitig vertex else
    seek_by (place_by c index (vertex_coord s runs table unitig vertex))

unfoldable pub by_seek : ℕ → Cell → (file : List ℕ) → Result ℕ Refusal → List ℕ → Answer × List ℕ
by_seek N c file (Err r) out = (refused (number_of r), out)
by_seek N c file (Ok at) out = shown_by (set_from N c file (some at)) out

-- reading a record is refused for want of space (3), or because it is damaged in some way (5)
unfoldable pub damage_or : Refusal → Refusal
damage_or r = Space when eqb (number_of r) 3 else Damaged

abbrev pub of_read : Result Given Refusal → Result ℕ Refusal
of_read (Ok given) = Ok given.items
of_read (Err r) = Err (damage_or r)
