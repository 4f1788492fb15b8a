-- Section 7 of 01, with request F-9: lists of calls on the store over its buffers, and demand 3 of such a list.
use Rattle.std.specs.Prelude.{ℕ, ◌+◌, ◌*◌, ◌<◌, ◌≡◌, List, [], ◌∷◌, ◌++◌, map, length, get_or, take, drop, eqb}
use Rattle.std.proofs.Math.Option.{Option, none, some}
use Rattle.base.specs.Tests.{◌when◌else◌}
use Rattle.base.specs.Answers.{Answer, refused, done}
use Rattle.base.specs.Parts.{over}
use Rattle.codec.specs.Records.{file_of}
use Rattle.codec.specs.Index.{index_of, entries}
use Rattle.runs.specs.Bytes.{ReadRuns, read_runs}
use Rattle.runs.specs.Bytes as bytes
use Rattle.runs.specs.Rotate.{merged}
use Rattle.store.specs.Plain.{Way, line, cycle, Update, add, join, close, Call, update, show, Unitig, Lengths, plain_fresh, Reply, refusal, answer, shown, plain_run, no_unitig, coord_at, bytes_of, closed_bytes}
use Rattle.store.specs.State.{CellBufs, SharedBufs, Bufs, lengths_of, Outcome}
use Rattle.store.specs.Start.{start_step}
use Rattle.store.specs.Add.{add_step}
use Rattle.store.specs.Join.{join_step}
use Rattle.store.specs.Close.{close_step}
use Rattle.store.specs.Show.{show_step}
use Rattle.store.specs.declared.state.Way as code
use Rattle.store.specs.declared.state.Way.TheVariants.{Line, Cycle}
use Rattle.store.specs.declared.state.Cell.{Cell}
use Rattle.store.specs.declared.state.Shared.{Shared}
use Rattle.store.specs.declared.state.Store.{Store}

-- ---- a call, and what it leaves for its caller

-- a call as the store gets it: show with its output, which may hold anything
pub data LentCall : Type 0 where
  updating : ℕ → Update → LentCall
  showing : ℕ → ℕ → List ℕ → LentCall

-- what the plain store is fed: the arguments and the length of show's output
unfoldable pub sent : LentCall → Call
sent (updating i u) = update i u
sent (showing unitig vertex out) = show unitig vertex (length out)

-- its answer and show's output
pub record Seen : Type 0 where
  pub answer : Answer
  pub out : List ℕ

abbrev pub seen : Answer → List ℕ → Seen
seen a o = record { answer = a; out = o }

-- the output that a call was lent
unfoldable pub out_of : LentCall → List ℕ
out_of (updating i u) = []
out_of (showing unitig vertex out) = out

-- the plain store's reply, as the store has to give it
unfoldable pub as_seen : Reply → List ℕ → Seen
as_seen (refusal n) out = seen (refused n) out
as_seen (answer a) out = seen (done (a ∷ [])) out
as_seen (shown ids) out = seen (done (length ids ∷ [])) (over ids out)

unfoldable pub all_seen : List LentCall → List Reply → List Seen
all_seen [] rs = []
all_seen (c ∷ cs) [] = []
all_seen (c ∷ cs) (r ∷ rs) = as_seen r (out_of c) ∷ all_seen cs rs

-- ---- the store's own run: each call gets the state and the buffers that the one before left

unfoldable pub way_of : Way → code.Way
way_of line = Line
way_of (cycle pivot) = Cycle pivot

unfoldable pub store_update : Store → Bufs → ℕ → Update → Outcome
store_update s b i (add ids) = add_step s b i ids
store_update s b i (join n reversed piece) = join_step s b i n reversed piece
store_update s b i (close way) = close_step s b i (way_of way)

abbrev pub updated : Outcome → Seen × Store × Bufs
updated r = (seen r.0 [], r.1, r.2)

abbrev pub unchanged : Store → Bufs → Answer × List ℕ → Seen × Store × Bufs
unchanged s b r = (seen r.0 r.1, s, b)

unfoldable pub store_step : Store → Bufs → LentCall → Seen × Store × Bufs
store_step s b (updating i u) = updated (store_update s b i u)
store_step s b (showing unitig vertex out) = unchanged s b (show_step s b unitig vertex out)

abbrev pub with_seen : Seen → List Seen × Store × Bufs → List Seen × Store × Bufs
with_seen x r = (x ∷ r.0, r.1, r.2)

unfoldable pub store_run : Store → Bufs → List LentCall → List Seen × Store × Bufs
store_run s b [] = ([], s, b)
store_run s b (c ∷ cs) = with_seen (store_step s b c).0 (store_run (store_step s b c).1 (store_step s b c).2 cs)

-- ---- what a caller knows of a list: the accepted calls with their answers, in order

-- neither refused nor a repeat of the last accepted number
unfoldable pub if_accepted : Answer → ℕ → ℕ → Update → (ℕ → List (ℕ × Update)) → List (ℕ × Update)
if_accepted (refused n) last i u go = go last
if_accepted (done values) last i u go = go last when eqb i last else ((get_or values 0 0, u) ∷ go i)

unfoldable pub accepted_from : ℕ → List LentCall → List Seen → List (ℕ × Update)
accepted_from last [] xs = []
accepted_from last (c ∷ cs) [] = []
accepted_from last (updating i u ∷ cs) (x ∷ xs) = if_accepted x.answer last i u (λ l. accepted_from l cs xs)
accepted_from last (showing unitig vertex out ∷ cs) (x ∷ xs) = accepted_from last cs xs

-- the accepted sets
unfoldable pub sets_in : List (ℕ × Update) → List (List ℕ)
sets_in [] = []
sets_in ((a, add ids) ∷ us) = ids ∷ sets_in us
sets_in ((a, join n r piece) ∷ us) = sets_in us
sets_in ((a, close w) ∷ us) = sets_in us

-- the set of the first accepted add that answered this coordinate
unfoldable pub set_for : ℕ → List (ℕ × Update) → Option (List ℕ)
set_for coord [] = none
set_for coord ((a, add ids) ∷ us) = some ids when eqb a coord else set_for coord us
set_for coord ((a, join n r piece) ∷ us) = set_for coord us
set_for coord ((a, close w) ∷ us) = set_for coord us

-- how often the coordinate changes from one vertex to the next; first, counted from a vertex of coordinate c on
unfoldable pub changes_behind : ℕ → List ℕ → ℕ
changes_behind c [] = 0
changes_behind c (d ∷ ds) = (0 when eqb c d else 1) + changes_behind d ds

unfoldable pub changes_in : List ℕ → ℕ
changes_in [] = 0
changes_in (c ∷ cs) = changes_behind c cs

-- ---- demand 3 of one list of calls and its run r by the store

-- show number k of the list, if it is one that is not refused, gives the set sent for its vertex
abbrev pub ShowsSent : (N W : ℕ) → Lengths → List LentCall → List Seen → Type 0
ShowsSent N W lengths calls seens =
    (early : List LentCall) (unitig vertex : ℕ) (out : List ℕ) (late : List LentCall) (values : List ℕ)
    → calls ≡ early ++ (showing unitig vertex out ∷ late)
    → (get_or seens (length early) (seen (refused 0) [])).answer ≡ done values
    → (ids : List ℕ)
    × (set_for (coord_at (plain_run (plain_fresh N W lengths) (map sent early)).1 unitig vertex) (accepted_from 0 calls seens) ≡ some ids)
    × (values ≡ length ids ∷ [])
    × ((get_or seens (length early) (seen (refused 0) [])).out ≡ over ids out)

-- the record file means its used bytes
abbrev pub record_file : Cell → CellBufs → List ℕ
record_file c b = take c.records.used b.records

-- what a cell owes of its accepted sets
pub record RecordsKept (N : ℕ) (sets : List (List ℕ)) (c : Cell) (b : CellBufs) : Type 0 where
  -- the sets' records, each once and in order
  pub file : record_file c b ≡ file_of N sets
  pub count : c.sets ≡ length sets
  -- the index is the one made afresh from those bytes
  pub index : index_of c.sets (record_file c b) ≡ entries (take (c.sets + 1) b.index)

-- byte start and vertex count of each unitig
unfoldable pub table_of : ℕ → List Unitig → List ℕ
table_of at [] = []
table_of at (u ∷ us) = at ∷ length u.coords ∷ table_of (at + length (bytes_of u)) us

-- closed unitigs lie in order as run bytes, with byte start and vertex count as two numbers in a table
pub record UnitigsKept (us : List Unitig) (s : Shared) (b : SharedBufs) : Type 0 where
  pub file : take s.runs.used b.runs ≡ closed_bytes us
  pub count : s.unitigs ≡ length us
  pub table : take (2 * s.unitigs) b.table ≡ table_of 0 us

-- the runs that are filed for a unitig
abbrev pub runs_of : Shared → SharedBufs → ℕ → ReadRuns
runs_of s b unitig = read_runs (drop (get_or b.table (2 * unitig) 0) (take s.runs.used b.runs))

-- a closed line, as a cycle, has its coordinates' runs, equal neighbours merged: their total is 1 plus its changes of coordinate (request F-9)
abbrev pub RunsMerged : List Unitig → Shared → SharedBufs → Type 0
RunsMerged us s b =
    (unitig : ℕ) → unitig < length us
    → let coords = (get_or us unitig no_unitig).coords in
    (rest : List ℕ) × (runs_of s b unitig ≡ bytes.found (merged coords) rest) × (length (merged coords) ≡ 1 + changes_in coords)

-- and so have the open runs
abbrev pub OpenMerged : Option Unitig → Cell → CellBufs → Type 0
OpenMerged current c b = (u : Unitig) → current ≡ some u → (take c.opened.used b.opened ≡ merged u.coords) × (c.opened.used ≡ 1 + changes_in u.coords)

pub record Demand3 (N W : ℕ) (lengths : Lengths) (calls : List LentCall) (r : List Seen × Store × Bufs) : Type 0 where
  -- every answer, and every output of show, is the plain store's
  pub answers : r.0 ≡ all_seen calls (plain_run (plain_fresh N W lengths) (map sent calls)).0
  -- a show gives the set of the first accepted add that answered its vertex's coordinate
  pub shows : ShowsSent N W lengths calls r.0
  -- the record file is the accepted sets' records, and its index one made afresh
  pub records : RecordsKept N (sets_in (accepted_from 0 calls r.0)) r.1.cell r.2.cell
  -- the run file and the table are the closed unitigs'
  pub unitigs : UnitigsKept (plain_run (plain_fresh N W lengths) (map sent calls)).1.closed r.1.shared r.2.shared
  -- their runs, and the open ones, are merged
  pub merged : RunsMerged (plain_run (plain_fresh N W lengths) (map sent calls)).1.closed r.1.shared r.2.shared
  pub opened : OpenMerged (plain_run (plain_fresh N W lengths) (map sent calls)).1.cell.current r.1.cell r.2.cell

-- the claim: after an accepted start, of every list of calls
abbrev pub DemandStatement : Type 0
DemandStatement =
    (N W : ℕ) (b b' : Bufs) (s : Store) → start_step N W b ≡ (done [], s, b') → (calls : List LentCall)
    → Demand3 N W (lengths_of b) calls (store_run s b' calls)
