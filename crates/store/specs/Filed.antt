-- Sections 5 and 7 of 01: what a cell has filed, read back. The record that a coordinate names, for show and for repeats of add.
use Rattle.std.specs.Prelude.{ℕ, Bool, false, not, ◌||◌, List, get_or, take, drop, ltb, leb, eqb}
use Rattle.std.proofs.Math.Option.{Option, none, some}
use Rattle.base.specs.Tests.{◌when◌else◌}
use Rattle.codec.specs.Records.{ReadRecord, read_record, same}
use Rattle.codec.specs.Records as records
use Rattle.runs.specs.Words.{place_of, worker_of}
use Rattle.store.specs.declared.state.Cell.{Cell}

-- a coordinate that names no record: another worker's, or an index not below the number of sets
unfoldable pub unnamed : (worker sets : ℕ) → ℕ → Bool
unnamed worker sets coord = not (eqb (worker_of coord) worker) || leb sets (place_of coord)

-- where the record begins: its index entry, unless that lies beyond the used end of the file
unfoldable pub record_start : Cell → (index : List ℕ) → ℕ → Option ℕ
record_start c index coord =
    none when unnamed c.worker c.sets coord else
    none when ltb c.records.used (get_or index (place_of coord) 0) else
    some (get_or index (place_of coord) 0)

unfoldable pub set_in : ReadRecord → Option (List ℕ)
set_in (records.found ids rest) = some ids
set_in records.short = none
set_in records.damaged = none

-- the bytes from a place up to the used end of the record file
abbrev pub record_part : Cell → (file : List ℕ) → ℕ → List ℕ
record_part c file at = drop at (take c.records.used file)

unfoldable pub set_from : ℕ → Cell → (file : List ℕ) → Option ℕ → Option (List ℕ)
set_from N c file none = none
set_from N c file (some at) = set_in (read_record N (record_part c file at))

-- the set that a coordinate names
unfoldable pub set_at : ℕ → Cell → (file index : List ℕ) → ℕ → Option (List ℕ)
set_at N c file index coord = set_from N c file (record_start c index coord)

-- it is there, and is this one
unfoldable pub reads_as : Option (List ℕ) → List ℕ → Bool
reads_as none ids = false
reads_as (some js) ids = same js ids
