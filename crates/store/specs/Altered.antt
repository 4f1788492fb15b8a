-- "What each operation turns down" of 01: every call after start first. 15.
use Rattle.std.specs.Prelude.{ℕ, ◌+◌, ◌*◌, Bool, false, not, ◌||◌, [], ◌∷◌, ltb, eqb}
use Rattle.base.specs.Tests.{any_of}
use Rattle.codec.specs.Records.{bad_colors}
use Rattle.runs.specs.Orders.{most_vertices}
use Rattle.store.specs.Plain.{CellLengths, SharedLengths, Lengths}
use Rattle.store.specs.Start.{too_long}
use Rattle.store.specs.declared.state.Current.{Current}
use Rattle.store.specs.declared.state.Current.TheVariants.{Nothing, Open}
use Rattle.store.specs.declared.state.Cell.{Cell}
use Rattle.store.specs.declared.state.Shared.{Shared}
use Rattle.store.specs.declared.state.Store.{Store}

-- a buffer's length differs from that at start, a used count exceeds its length, or a length is outside start's limits
unfoldable pub altered_buffer : (length used now : ℕ) → Bool
altered_buffer length used now = any_of (not (eqb now length) ∷ ltb length used ∷ too_long length ∷ [])

-- a vertex count outside 1 to 16,777,215
unfoldable pub bad_vertices : ℕ → Bool
bad_vertices n = eqb n 0 || ltb most_vertices n

unfoldable pub bad_current : Current → Bool
bad_current Nothing = false
bad_current (Open n) = bad_vertices n

-- of a cell: its buffers (the index has an entry more than there are sets, so at least one), W above 255, an open unitig of a bad count
unfoldable pub altered_cell : Cell → CellLengths → Bool
altered_cell c now =
    any_of (
    altered_buffer c.records.length c.records.used now.records
    ∷ altered_buffer c.index (c.sets + 1) now.index
    ∷ altered_buffer c.opened.length c.opened.used now.opened
    ∷ altered_buffer c.held.length c.held.used now.held
    ∷ ltb 255 c.worker
    ∷ bad_current c.current
    ∷ []
    )

-- of the shared part: its buffers (the table has two numbers for each unitig)
unfoldable pub altered_shared : Shared → SharedLengths → Bool
altered_shared s now =
    any_of (
    altered_buffer s.runs.length s.runs.used now.runs
    ∷ altered_buffer s.table (2 * s.unitigs) now.table
    ∷ []
    )

-- of the store: N outside its limits, its cell, its shared part
unfoldable pub altered : Store → Lengths → Bool
altered s now = any_of (bad_colors s.colors ∷ altered_cell s.cell now.cell ∷ altered_shared s.shared now.shared ∷ [])
