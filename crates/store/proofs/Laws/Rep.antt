-- What ties the plain store to the state and the buffers: of a cell, of the shared part, of both.
use Prim.Native.Nat.{ℕ, ◌+◌, ◌*◌, ◌≤◌, ◌<◌}
use mathlib.Core.Path.{◌≡◌, refl}
use mathlib.Core.Bool.{Bool, false}
use mathlib.Core.List.{List, []}
use mathlib.Core.Option.{Option, none, some}
use native.Mathlib.Omega.{arith}
use lib.ListN.{length, get_or, take}
use borrow.Author.Tests.{le-ltb, ne_eqb, eq-eqb}
use Rattle.base.proofs.All.{All}
use Rattle.base.proofs.Bools.{or_false, not_no}
use Rattle.base.proofs.Tests.{of_none}
use Rattle.codec.specs.Flat.{bounds}
use Rattle.codec.specs.Records.{bad_colors, file_of, record_of}
use Rattle.codec.proofs.Promise.{IsSet}
use Rattle.runs.specs.Rotate.{firsts, runs_at}
use Rattle.runs.specs.Words.{coordinate_of, place_of, worker_of}
use Rattle.store.specs.Altered.{altered, altered_buffer, altered_cell, altered_shared, bad_current, bad_vertices}
use Rattle.store.specs.Demand.{table_of, way_of}
use Rattle.store.specs.Plain.{Plain, PlainCell, SharedLengths, Unitig, Update, Way, add, close, closed_bytes, join}
use Rattle.store.specs.Start.{too_long}
use Rattle.store.specs.State.{Bufs, CellBufs, SharedBufs, cell_lengths_of, lengths_of, shared_lengths_of}
use Rattle.store.specs.declared.state.Cell.{Cell}
use Rattle.store.specs.declared.state.Current.{Current}
use Rattle.store.specs.declared.state.Current.TheVariants.{Nothing, Open}
use Rattle.store.specs.declared.state.Last.{Last}
use Rattle.store.specs.declared.state.Last.TheVariants as last
use Rattle.store.specs.declared.state.Shared.{Shared}
use Rattle.store.specs.declared.state.Store.{Store}

-- ---- unitigs

-- the runs of a unitig
abbrev pub unitig_runs : Unitig → List ℕ
unitig_runs u = runs_at u.coords u.starts

-- which coordinates name a record: those of this worker with a place below the number of sets
pub record Named (W sets coord : ℕ) : Type 0 where
  pub own : worker_of coord ≡ W
  pub low : place_of coord < sets

-- a unitig whose runs start at vertex 0 and at each vertex unlike the one before, each vertex naming a record
pub record Good (names : ℕ → Type 0) (u : Unitig) : Type 0 where
  pub vertices : 0 < length u.coords
  pub few : length u.coords ≤ 16777215
  pub begin : u.starts ≡ firsts u.coords
  pub named : All names u.coords

-- ---- buffers

-- a buffer's length: in the state, as given at start, and now
pub record Size (state given now : ℕ) : Type 0 where
  pub told : state ≡ given
  pub long : now ≡ given
  pub small : given ≤ 4294967295

-- the record file and its index
pub record Filed (N : ℕ) (S : List (List ℕ)) (used sets : ℕ) (file index : List ℕ) : Type 0 where
  pub far : used ≡ length (file_of N S)
  pub many : sets ≡ length S
  pub room : length (file_of N S) ≤ length file
  pub entries : length S + 1 ≤ length index
  pub bytes : take (length (file_of N S)) file ≡ file_of N S
  pub places : take (length S + 1) index ≡ bounds (record_of N) 0 S
  pub each : All (IsSet N) S

-- the run file and its table
pub record Closed (names : ℕ → Type 0) (us : List Unitig) (used unitigs : ℕ) (file table : List ℕ) : Type 0 where
  pub far : used ≡ length (closed_bytes us)
  pub many : unitigs ≡ length us
  pub room : length (closed_bytes us) ≤ length file
  pub pairs : 2 * length us ≤ length table
  pub bytes : take (length (closed_bytes us)) file ≡ closed_bytes us
  pub places : take (2 * length us) table ≡ table_of 0 us
  pub each : All (Good names) us

-- the open unitig and its runs
pub data OpenRep (names : ℕ → Type 0) : Option Unitig → Current → ℕ → List ℕ → Type 0 where
  closed : {used : ℕ} {runs : List ℕ} → OpenRep names none Nothing used runs
  opened : {u : Unitig} {n used : ℕ} {runs : List ℕ} → n ≡ length u.coords → Good names u → take used runs ≡ unitig_runs u → OpenRep names (some u) (Open n) used runs

-- the last call and its arguments: the set that an add's answer names, the held piece of a join
pub data CallRep (W : ℕ) (S : List (List ℕ)) : Option (Update × ℕ) → Last → ℕ → ℕ → List ℕ → Type 0 where
  nothing : {a used : ℕ} {held : List ℕ} → CallRep W S none last.Fresh a used held
  added : {ids : List ℕ} {a used : ℕ} {held : List ℕ} (k : ℕ) → k < length S → get_or S k [] ≡ ids → a ≡ coordinate_of W k → CallRep W S (some (add ids, a)) last.Add a used held
  joined : {n : ℕ} {r : Bool} {runs : List ℕ} {a used : ℕ} {held : List ℕ} → take used held ≡ runs → CallRep W S (some (join n r runs, a)) (last.Join n r) a used held
  filed : {way : Way} {a used : ℕ} {held : List ℕ} → CallRep W S (some (close way, a)) (last.Close (way_of way)) a used held

-- ---- a cell, the shared part, the store

pub record CellRep (N : ℕ) (p : PlainCell) (c : Cell) (b : CellBufs) : Type 0 where
  pub worker : c.worker ≡ p.W
  pub narrow : p.W ≤ 255
  pub record_size : Size c.records.length p.lengths.records (length b.records)
  pub index_size : Size c.index p.lengths.index (length b.index)
  pub open_size : Size c.opened.length p.lengths.opened (length b.opened)
  pub held_size : Size c.held.length p.lengths.held (length b.held)
  pub filed : Filed N p.S c.records.used c.sets b.records b.index
  pub open_room : c.opened.used ≤ length b.opened
  pub opened : OpenRep (Named p.W (length p.S)) p.current c.current c.opened.used b.opened
  pub held_room : c.held.used ≤ length b.held
  pub last : c.number ≡ p.last
  pub call : CallRep p.W p.S p.call c.last c.answer c.held.used b.held

-- over which coordinates name a record
pub record SharedRep (names : ℕ → Type 0) (us : List Unitig) (l : SharedLengths) (s : Shared) (b : SharedBufs) : Type 0 where
  pub run_size : Size s.runs.length l.runs (length b.runs)
  pub table_size : Size s.table l.table (length b.table)
  pub closed : Closed names us s.runs.used s.unitigs b.runs b.table

-- the coordinates that name a record of a cell
abbrev pub NamedIn : PlainCell → ℕ → Type 0
NamedIn p = Named p.W (length p.S)

pub record Rep (p : Plain) (s : Store) (b : Bufs) : Type 0 where
  pub colors : s.colors ≡ p.N
  pub limits : bad_colors p.N ≡ false
  pub cell : CellRep p.N p.cell s.cell b.cell
  pub shared : SharedRep (NamedIn p.cell) p.closed p.shared s.shared b.shared

-- ---- 15 is never found

buffer_fine : {state given now : ℕ} (used : ℕ) → Size state given now → used ≤ now → altered_buffer state used now ≡ false
unfolding altered_buffer too_long
buffer_fine {state} {given} {now} used z h =
    let e : now ≡ state = omega (arith, z.told, z.long) in
    let u : used ≤ state = omega (arith, z.told, z.long) in
    let l : state ≤ 4294967295 = omega (arith, z.told, z.small) in
    of_none _ (not_no _ (eq-eqb now state e), (le-ltb state used u, (le-ltb 4294967295 state l, tt)))

open_fine : {names : ℕ → Type 0} {c : Option Unitig} {o : Current} {used : ℕ} {runs : List ℕ} → OpenRep names c o used runs → bad_current o ≡ false
unfolding bad_current bad_vertices
open_fine closed = refl
open_fine (opened {u} {n} e g t) =
    let h = g.vertices in
    let k = g.few in
    let x : n ≡ 0 → ⊥ = λ z. omega arith in
    let y : n ≤ 16777215 = omega arith in
    or_false _ _ (ne_eqb n 0 x) (le-ltb 16777215 n y)

pub cell_unaltered : {N : ℕ} {p : PlainCell} {c : Cell} {b : CellBufs} → CellRep N p c b → altered_cell c (cell_lengths_of b) ≡ false
unfolding altered_cell
cell_unaltered {N} {p} {c} {b} r =
    let f = r.filed in
    let u : c.records.used ≤ length b.records = omega (arith, f.far, f.room) in
    let i : c.sets + 1 ≤ length b.index = omega (arith, f.many, f.entries) in
    let w : c.worker ≤ 255 = omega (arith, r.worker, r.narrow) in
    of_none _ (
      buffer_fine _ r.record_size u,
      (
        buffer_fine _ r.index_size i,
        (
          buffer_fine _ r.open_size r.open_room,
          (
            buffer_fine _ r.held_size r.held_room,
            (
              le-ltb _ _ w,
              (
                open_fine r.opened,
                tt,
              ),
            ),
          ),
        ),
      ),
    )

pub shared_unaltered : {names : ℕ → Type 0} {us : List Unitig} {l : SharedLengths} {s : Shared} {b : SharedBufs} → SharedRep names us l s b → altered_shared s (shared_lengths_of b) ≡ false
unfolding altered_shared
shared_unaltered {names} {us} {l} {s} {b} r =
    let c = r.closed in
    let u : s.runs.used ≤ length b.runs = omega (arith, c.far, c.room) in
    let t : 2 * s.unitigs ≤ length b.table = omega (arith, c.many, c.pairs) in
    of_none _ (buffer_fine _ r.run_size u, (buffer_fine _ r.table_size t, tt))

pub unaltered : {p : Plain} {s : Store} {b : Bufs} → Rep p s b → altered s (lengths_of b) ≡ false
unfolding altered
unaltered r = rw r.colors (of_none _ (r.limits, (cell_unaltered r.cell, (shared_unaltered r.shared, tt))))
