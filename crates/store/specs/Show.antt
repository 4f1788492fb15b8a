-- "What each operation turns down" of 01: show. 15, 14, 5, 3; the ids go to the front of the output.
use Rattle.std.specs.Prelude.{ℕ, ◌+◌, ◌*◌, Bool, ◌||◌, List, [], ◌∷◌, length, get_or, take, drop, ltb, leb}
use Rattle.std.proofs.Math.Option.{Option, none, some}
use Rattle.base.specs.Answers.{Answer, done, refused}
use Rattle.base.specs.Parts.{over}
use Rattle.base.specs.Tests.{◌when◌else◌}
use Rattle.runs.specs.Bytes.{sharp_colour}
use Rattle.runs.specs.Orders.{most_vertices}
use Rattle.store.specs.Altered.{altered}
use Rattle.store.specs.Filed.{set_at}
use Rattle.store.specs.State.{Bufs, lengths_of}
use Rattle.store.specs.declared.state.Cell.{Cell}
use Rattle.store.specs.declared.state.Shared.{Shared}
use Rattle.store.specs.declared.state.Store.{Store}

-- no such closed unitig, or no such vertex of it, by the table's count as found
unfoldable pub no_place : Shared → (table : List ℕ) → ℕ → ℕ → Bool
no_place s table unitig vertex = leb s.unitigs unitig || leb (get_or table (2 * unitig + 1) 0) vertex

-- the coordinate that an answer tells, or none
abbrev pub told_coord : Answer → Option ℕ
told_coord (refused n) = none
told_coord (done values) = some (get_or values 0 0)

-- by a list that is sharp for n, at the front of the run bytes from a place up to the used end of the run file; none where n is above 16,777,215 or the place beyond that end
unfoldable pub coord_from : Shared → (runs : List ℕ) → (at n vertex : ℕ) → Option ℕ
coord_from s runs at n vertex =
    none when ltb most_vertices n || ltb s.runs.used at else
    told_coord (sharp_colour n vertex (drop at (take s.runs.used runs)))

-- by the table's two numbers of a closed unitig
abbrev pub vertex_coord : Shared → (runs table : List ℕ) → ℕ → ℕ → Option ℕ
vertex_coord s runs table unitig vertex = coord_from s runs (get_or table (2 * unitig) 0) (get_or table (2 * unitig + 1) 0) vertex

-- the set that a vertex's coordinate names
unfoldable pub set_by : ℕ → Cell → (file index : List ℕ) → Option ℕ → Option (List ℕ)
set_by N c file index none = none
set_by N c file index (some coord) = set_at N c file index coord

unfoldable pub vertex_set : Store → Bufs → ℕ → ℕ → Option (List ℕ)
vertex_set s b unitig vertex =
    set_by s.colors s.cell b.cell.records b.cell.index (vertex_coord s.shared b.shared.runs b.shared.table unitig vertex)

unfoldable pub shown_by : Option (List ℕ) → List ℕ → Answer × List ℕ
-- 5, its bytes aren't a sharp list for a vertex count of at most 16,777,215, the vertex's coordinate names no record or the record is refused
shown_by none out = (refused 5, out)
shown_by (some ids) out =
    -- 3, the output is too short
    (refused 3, out) when ltb (length out) (length ids) else
    (done (length ids ∷ []), over ids out)

-- the answer and the output; neither the state nor a buffer changes
unfoldable pub show_step : Store → Bufs → ℕ → ℕ → List ℕ → Answer × List ℕ
show_step s b unitig vertex out =
    (refused 15, out) when altered s (lengths_of b) else
    -- 14, no such closed unitig or vertex
    (refused 14, out) when no_place s.shared b.shared.table unitig vertex else
    shown_by (vertex_set s b unitig vertex) out

abbrev pub with_state : Store → Answer × List ℕ → Answer × Store × List ℕ
with_state s r = (r.0, s, r.1)
