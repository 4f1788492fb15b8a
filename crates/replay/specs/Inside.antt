-- What serves the functions inside the crate and their proofs: a call as the code goes, with what it is lent.
use Rattle.std.specs.Prelude.{ℕ, min, List, ◌≡◌}
use Rattle.store.specs.State.{Bufs, bufs}
use Rattle.store.specs.Plain.{add, join, close, line, cycle}
use Rattle.store.specs.Demand.{LentCall, updating, showing}
use Rattle.store.specs.declared.state.Way.TheVariants.{Line, Cycle}
use Rattle.replay.specs.Tape.{part}
use Rattle.replay.specs.declared.Buffers.{Buffers}
use Rattle.replay.specs.declared.Call.{Call}
use Rattle.replay.specs.declared.Call.TheVariants as call

-- with its output if it is a show
unfoldable pub lent_by : Call → (ids pieces out : List ℕ) → LentCall
lent_by (call.Add i from count) ids pieces out = updating i (add (part ids from count))
lent_by (call.Join i n reversed from count) ids pieces out = updating i (join n reversed (part pieces from count))
lent_by (call.Close i Line) ids pieces out = updating i (close line)
lent_by (call.Close i (Cycle pivot)) ids pieces out = updating i (close (cycle pivot))
lent_by (call.Show unitig vertex count) ids pieces out = showing unitig vertex out

-- how many of the places that are left it is lent
unfoldable pub room_by : Call → ℕ → ℕ
room_by (call.Add i from count) left = 0
room_by (call.Join i n reversed from count) left = 0
room_by (call.Close i way) left = 0
room_by (call.Show unitig vertex count) left = min count left

-- what the store's buffers hold
abbrev pub bufs_in : Buffers → Bufs
bufs_in b = bufs b.records.now b.index.now b.opened.now b.held.now b.runs.now b.table.now

-- they are the same buffers
abbrev pub same_references : Buffers → Buffers → Type 0
same_references b c = (b.records.ghost_name ≡ c.records.ghost_name) × (b.index.ghost_name ≡ c.index.ghost_name) × (b.opened.ghost_name ≡ c.opened.ghost_name)
    × (b.held.ghost_name ≡ c.held.ghost_name) × (b.runs.ghost_name ≡ c.runs.ghost_name) × (b.table.ghost_name ≡ c.table.ghost_name)
