-- "What each operation turns down" of 01: start. 1, 3, or the state of a fresh store.
use Rattle.std.specs.Prelude.{ℕ, Bool, ◌||◌, [], ◌∷◌, set, ltb, eqb, Err}
use Rattle.base.specs.Tests.{◌when◌else◌, any_of}
use Rattle.base.specs.Answers.{refused, done}
use Rattle.base.specs.declared.Refusal.{Refusal}
use Rattle.codec.specs.Records.{bad_colors}
use Rattle.store.specs.Plain.{CellLengths, SharedLengths, Lengths}
use Rattle.store.specs.State.{Bufs, Outcome, extent, lengths, lengths_of, with_records}
use Rattle.store.specs.declared.state.Cell.{Cell}
use Rattle.store.specs.declared.state.Shared.{Shared}
use Rattle.store.specs.declared.state.Store.{Store}
use Rattle.store.specs.declared.state.Told.{Told}
use Rattle.store.specs.declared.state.Current.TheVariants.{Nothing}
use Rattle.store.specs.declared.state.Last.TheVariants.{Fresh}

-- N outside 1 to 1,048,576, or W above 255
unfoldable pub bad_limits : ℕ → ℕ → Bool
bad_limits N W = bad_colors N || ltb 255 W

-- a buffer longer than 4,294,967,295
unfoldable pub too_long : ℕ → Bool
too_long length = ltb 4294967295 length

-- no index entry, or a buffer that is too long: of a cell, of the shared ones, of all
unfoldable pub bad_cell_lengths : CellLengths → Bool
bad_cell_lengths l = any_of (eqb l.index 0 ∷ too_long l.records ∷ too_long l.index ∷ too_long l.opened ∷ too_long l.held ∷ [])

unfoldable pub bad_shared_lengths : SharedLengths → Bool
bad_shared_lengths l = any_of (too_long l.runs ∷ too_long l.table ∷ [])

unfoldable pub bad_lengths : Lengths → Bool
bad_lengths l = bad_cell_lengths l.cell || bad_shared_lengths l.shared

unfoldable pub fresh_cell : ℕ → CellLengths → Cell
fresh_cell W l =
    record {
      worker = W;
      records = extent l.records 0;
      index = l.index;
      sets = 0;
      opened = extent l.opened 0;
      held = extent l.held 0;
      current = Nothing;
      number = 0;
      last = Fresh;
      answer = 0;
    }

unfoldable pub fresh_shared : SharedLengths → Shared
fresh_shared l = record { runs = extent l.runs 0; table = l.table; unitigs = 0 }

unfoldable pub fresh : ℕ → ℕ → Lengths → Store
fresh N W l = record { colors = N; cell = fresh_cell W l.cell; shared = fresh_shared l.shared }

-- the state beside a refusal: of no colours, so that every call on it is 15
abbrev pub no_store : Store
no_store = fresh 0 0 (lengths 0 0 0 0 0 0)

abbrev pub unstarted : Refusal → Told Store (Unit {0})
unstarted r = record { state = no_store; answer = Err r }

-- index entry 0 becomes 0
abbrev pub zeroed : Bufs → Bufs
zeroed b = record { cell = with_records b.cell b.cell.records (set b.cell.index 0 0); shared = b.shared }

unfoldable pub start_step : ℕ → ℕ → Bufs → Outcome
start_step N W b =
    -- 1, N or W outside its limits
    (refused 1, no_store, b) when bad_limits N W else
    -- 3, no index entry, or a buffer longer than 4,294,967,295
    (refused 3, no_store, b) when bad_lengths (lengths_of b) else
    (done [], fresh N W (lengths_of b), zeroed b)
