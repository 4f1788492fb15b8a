-- What is known of a state and its buffers where 15 is not found, and where a call may go.
use Rattle.std.specs.Prelude.{ℕ, ◌+◌, ◌*◌, ◌≤◌, ◌<◌, ◌≡◌, Bool, true, false, List, length, take, Ok}
use Rattle.codec.specs.Records.{bad_colors, record_of}
use Rattle.codec.specs.Sets.{within}
use Rattle.runs.specs.Orders.{most_vertices, sharp}
use Rattle.runs.specs.Reverse.{oriented}
use Rattle.store.specs.Altered.{bad_current}
use Rattle.store.specs.Close.{acyclic_runs, count_of}
use Rattle.store.specs.Join.{open_at, open_count, open_new, open_test}
use Rattle.store.specs.Plain.{Lengths}
use Rattle.store.specs.State.{put}
use Rattle.store.specs.declared.state.Current.TheVariants.{Open}
use Rattle.store.specs.declared.state.Cell.{Cell}
use Rattle.store.specs.declared.state.Shared.{Shared}
use Rattle.store.specs.declared.state.Store.{Store}
use Rattle.store.specs.declared.state.Way.{Way}

-- a buffer as it was at start, of which no more is used than there is
pub record Fits (length used now : ℕ) : Type 0 where
  pub same : length ≡ now
  pub inside : used ≤ now
  pub small : now ≤ 4294967295

pub record AddFits (N : ℕ) (c : Cell) (f i : ℕ) : Type 0 where
  pub colors : bad_colors N ≡ false
  pub records : Fits c.records.length c.records.used f
  pub index : Fits c.index (c.sets + 1) i

pub record JoinFits (c : Cell) (o h : ℕ) : Type 0 where
  pub opened : Fits c.opened.length c.opened.used o
  pub held : Fits c.held.length c.held.used h
  pub current : bad_current c.current ≡ false

pub record CloseFits (c : Cell) (s : Shared) (o r t : ℕ) : Type 0 where
  pub opened : Fits c.opened.length c.opened.used o
  pub current : bad_current c.current ≡ false
  pub runs : Fits s.runs.length s.runs.used r
  pub table : Fits s.table (2 * s.unitigs) t

-- 15 is not found
pub record Unaltered (s : Store) (now : Lengths) : Type 0 where
  pub add : AddFits s.colors s.cell now.cell.records now.cell.index
  pub join : JoinFits s.cell now.cell.opened now.cell.held
  pub close : CloseFits s.cell s.shared now.cell.opened now.shared.runs now.shared.table

-- where add may go
pub record AddReady (N : ℕ) (c : Cell) (ids : List ℕ) (records index : ℕ) : Type 0 where
  pub fits : AddFits N c records index
  pub is_set : within 0 N ids ≡ true
  pub room : c.records.used + length (record_of N ids) ≤ records
  pub entry : c.sets + 1 < index

-- the new number of open runs, and the open runs
abbrev pub open_after : Cell → ℕ → Bool → (piece opened : List ℕ) → ℕ × List ℕ
open_after c n reversed piece opened = (
  open_at c.current c.opened.used + length (open_new c.current (take c.opened.used opened) (oriented reversed n piece)),
  put (open_at c.current c.opened.used) (open_new c.current (take c.opened.used opened) (oriented reversed n piece)) opened,
)

-- where join may go: of the open runs, and of the held piece
pub record OpenReady (c : Cell) (n : ℕ) (reversed : Bool) (piece opened : List ℕ) : Type 0 where
  pub some : 0 < n
  pub few : open_count c.current n ≤ most_vertices
  pub is_sharp : sharp n piece ≡ true
  pub current : bad_current c.current ≡ false
  pub used : c.opened.used ≤ length opened
  pub meets : open_test c.current (take c.opened.used opened) (oriented reversed n piece) (Ok tt) ≡ Ok tt
  pub room : open_at c.current c.opened.used + length (open_new c.current (take c.opened.used opened) (oriented reversed n piece)) ≤ length opened

pub record JoinReady (c : Cell) (n : ℕ) (reversed : Bool) (piece opened : List ℕ) (held : ℕ) : Type 0 where
  pub ready : OpenReady c n reversed piece opened
  pub room : length piece ≤ held

-- where close may go, with these open runs, but for the space of its run bytes
pub record CloseReady (c : Cell) (s : Shared) (way : Way) (old : List ℕ) (runs table : ℕ) : Type 0 where
  pub is_sharp : sharp (count_of c.current) old ≡ true
  pub not_acyclic : acyclic_runs way (count_of c.current) old ≡ false
  pub few : count_of c.current ≤ 16777215
  pub is_open : c.current ≡ Open (count_of c.current)
  pub used_runs : s.runs.used ≤ runs
  pub pair : 2 * s.unitigs + 2 ≤ table
  pub small_runs : runs ≤ 4294967295
  pub small_table : table ≤ 4294967295
