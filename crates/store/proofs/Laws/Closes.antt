-- A close: its tests, and what ties the two stores after an accepted one.
use Prim.Native.Nat.{ℕ, ◌+◌, ◌*◌, ◌%◌, ◌≤◌}
use mathlib.Core.Path.{◌≡◌, refl, sym, ap, ◌∙◌, ap₂}
use mathlib.Core.Bool.{true, false, ◌||◌}
use mathlib.Core.List.{List, [], ◌∷◌, ◌++◌}
use mathlib.Core.Option.{Option, none, some}
use native.Mathlib.Omega.{arith}
use lib.ListN.{length, take, set, length-set}
use lib.Dec.{ltb}
use borrow.Author.Tests.{ltb-false}
use Rattle.std.proofs.Common.{Ok, Err}
use Rattle.base.specs.Answers.{done}
use Rattle.base.specs.Tests.{◌when◌else◌}
use Rattle.base.specs.declared.Refusal.TheVariants.{Acyclic, Space}
use Rattle.base.proofs.Bools.{or_none}
use Rattle.runs.specs.Bytes.{run_bytes}
use Rattle.runs.specs.Orders.{sharp}
use Rattle.runs.specs.Rotate.{merged, rotate_runs, turn_left}
use Rattle.store.specs.Close.{acyclic_runs, after_close, close_filed, close_filed_of, close_open, close_test, count_of, filed_bytes, filed_count, filed_runs, no_close_space}
use Rattle.store.specs.Demand.{way_of}
use Rattle.store.specs.Plain.{Plain, PlainCell, SharedLengths, Unitig, Way, accept, accepted, acyclic, bytes_of, close, close_effect, close_tests, closed_bytes, cycle, effect, filed, line, tests, turned_by, without_last}
use Rattle.store.specs.State.{Bufs, CellBufs, Outcome, SharedBufs, after, shared_bufs, with_unitig}
use Rattle.store.specs.declared.state.Cell.{Cell}
use Rattle.store.specs.declared.state.Current.{Current}
use Rattle.store.specs.declared.state.Shared.{Shared}
use Rattle.store.specs.declared.state.Store.{Store}
use Rattle.store.proofs.Laws.After.{cell_after, size_kept}
use Rattle.store.proofs.Laws.Gates.{as_verdict, refuse_accept, refuse_both}
use Rattle.store.proofs.Laws.Puts.{put_length}
use Rattle.store.proofs.Laws.Rep.{CellRep, Good, OpenRep, Rep, SharedRep, unitig_runs}
use Rattle.store.proofs.Laws.Rep as rep
use Rattle.store.proofs.Laws.Table.{closed_one}
use Rattle.store.proofs.Laws.Unitigs.{but_last, first_of, last_of, runs_sharp, shorter_good, shorter_long, turn_good}

-- ---- the unitig filed

-- what is filed of a unitig that may be closed so: as many vertices and these runs
pub record Files (names : ℕ → Type 0) (way : Way) (u : Unitig) : Type 0 where
  pub good : Good names (filed way u)
  pub count : filed_count (way_of way) (length u.coords) ≡ length (filed way u).coords
  pub runs : filed_runs (way_of way) (filed_count (way_of way) (length u.coords)) (unitig_runs u) ≡ unitig_runs (filed way u)

pub files : {names : ℕ → Type 0} (way : Way) (u : Unitig) → Good names u → acyclic way u ≡ false → Files names way u
unfolding acyclic filed filed_count filed_runs merged rotate_runs turned_by way_of
files line u g e = record { good = g; count = refl; runs = refl }
files (cycle pivot) u g e =
    let two : 2 ≤ length u.coords = ltb-false _ _ (or_none _ _ e).0 in
    let k = shorter_long u g in
    let t = turn_good pivot (without_last u) (shorter_good u g two) in
    record {
      good = t.0;
      count = sym (t.1 ∙ k);
      runs = ap₂ (λ (m : ℕ) (cs : List ℕ). merged (turn_left (pivot % m) cs)) (sym k) (but_last u g);
    }

-- ---- tests: of the open unitig, and of the shared part's space

module _ {names : ℕ → Type 0} {us : List Unitig} {l : SharedLengths} {s : Shared} {b : SharedBufs} (r : SharedRep names us l s b) (way : Way) (used : ℕ) (opened : List ℕ) where
  abbrev old : List ℕ
  old = take used opened

  acyclic_agrees : {named : ℕ → Type 0} (u : Unitig) → Good named u → acyclic_runs (way_of way) (length u.coords) (unitig_runs u) ≡ acyclic way u
  unfolding acyclic_runs acyclic way_of
  acyclic_agrees u g = go way
    where
      go : (way : Way) → acyclic_runs (way_of way) (length u.coords) (unitig_runs u) ≡ acyclic way u
      go line = refl
      go (cycle pivot) = rw (first_of u g, last_of u g) refl

  space_agrees : (len : ℕ) → no_close_space s len ≡ (ltb l.runs (length (closed_bytes us) + len) || ltb l.table (2 * length us + 2))
  unfolding no_close_space
  space_agrees len = rw (r.run_size.told, r.table_size.told, r.closed.far, r.closed.many)

  open_tests : {named : ℕ → Type 0} {c : Option Unitig} {o : Current} → OpenRep named c o used opened
      → as_verdict (close_open (way_of way) o old (◌when◌else◌ (Err Space) (no_close_space s (length (filed_bytes (way_of way) o old))) (Ok tt))) ≡ close_tests us l way c
  unfolding as_verdict close_tests close_open filed_bytes ◌when◌else◌ bytes_of
  open_tests rep.closed = refl
  open_tests (rep.opened {u} {n = m} q g t) =
      let a : sharp m old ≡ true = rw (t, q) (runs_sharp u g) in
      let k : acyclic_runs (way_of way) m old ≡ acyclic way u = rw (t, q) (acyclic_agrees u g) in
      rw a
      (refuse_both Acyclic _ _ k
      (λ z.
      let f : filed_runs (way_of way) (filed_count (way_of way) m) old ≡ unitig_runs (filed way u) = rw (t, q) (files way u g z).runs in
      rw f (refuse_both Space (Ok tt) accept (space_agrees (length (run_bytes (unitig_runs (filed way u))))) (λ z. refl))))

  -- what the close of this open unitig files
  record Filing (named : ℕ → Type 0) (c : Option Unitig) (o : Current) : Type 0 where
    pub v : Unitig
    pub good : Good named v
    pub bytes : filed_bytes (way_of way) o old ≡ bytes_of v
    pub count : filed_count (way_of way) (count_of o) ≡ length v.coords
    pub does : (p : Plain) → close_effect p way c ≡ (length p.closed, p.cell.S, none, p.closed ++ (v ∷ []))
    pub room : length (closed_bytes us) + length (bytes_of v) ≤ length b.runs
    pub pair : 2 * length us + 2 ≤ length b.table

  filing_of : {named : ℕ → Type 0} {c : Option Unitig} {o : Current} → OpenRep named c o used opened → close_tests us l way c ≡ accept → Filing named c o
  unfolding close_tests close_effect filed_bytes count_of bytes_of
  filing_of rep.closed e = let z : ◌≡◌ {A = ℕ} 0 1 = cc in absurd (omega arith)
  filing_of (rep.opened {u} {n = m} q g t) e =
      let c = refuse_accept _ _ _ e in
      let a = or_none _ _ (refuse_accept _ _ _ c.1).0 in
      let f = files way u g c.0 in
      let x : length (closed_bytes us) + length (bytes_of (filed way u)) ≤ l.runs = ltb-false _ _ a.0 in
      let y : 2 * length us + 2 ≤ l.table = ltb-false _ _ a.1 in
      record {
        v = filed way u;
        good = f.good;
        bytes = rw (t, q) (ap run_bytes f.runs);
        count = rw q f.count;
        does = λ p. refl;
        room = omega (arith, r.run_size.long);
        pair = omega (arith, r.table_size.long);
      }

-- ---- the shared part: one unitig more

shared_one : {names : ℕ → Type 0} {us : List Unitig} {l : SharedLengths} {s : Shared} {b : SharedBufs} → SharedRep names us l s b → (v : Unitig) → Good names v → length (closed_bytes us) + length (bytes_of v) ≤ length b.runs → 2 * length us + 2 ≤ length b.table
    → (c : Cell) (i : ℕ) (way : Way) (bytes : List ℕ) → bytes ≡ bytes_of v → filed_count (way_of way) (count_of c.current) ≡ length v.coords
    → SharedRep names (us ++ (v ∷ [])) l (close_filed_of c s i (way_of way) b.runs b.table bytes).2 (shared_bufs (close_filed_of c s i (way_of way) b.runs b.table bytes).3 (close_filed_of c s i (way_of way) b.runs b.table bytes).4)
unfolding close_filed_of with_unitig
shared_one {us} {s} {b} r v g room pair c i way bytes e n =
    let fits : s.runs.used + length (bytes_of v) ≤ length b.runs = omega (arith, r.closed.far) in
    let lt = length-set (set b.table (2 * s.unitigs) s.runs.used) (2 * s.unitigs + 1) (length v.coords) ∙ length-set b.table (2 * s.unitigs) s.runs.used in
    rw (e, n)
    (record {
      run_size = size_kept r.run_size (put_length s.runs.used (bytes_of v) b.runs fits);
      table_size = size_kept r.table_size lt;
      closed = closed_one r.closed v g room pair;
    })

-- ---- a cell: none open

close_cell_lem : {N : ℕ} {p : PlainCell} {c : Cell} {b : CellBufs} → CellRep N p c b → (s : Shared) (unitigs i : ℕ) (way : Way) (runs table bytes : List ℕ) → s.unitigs ≡ unitigs
    → CellRep N (cell_after p i (close way) unitigs p.S none) (close_filed_of c s i (way_of way) runs table bytes).1 b
unfolding close_filed_of after
close_cell_lem r s unitigs i way runs table bytes e =
    record {
      worker = r.worker;
      narrow = r.narrow;
      record_size = r.record_size;
      index_size = r.index_size;
      open_size = r.open_size;
      held_size = r.held_size;
      filed = r.filed;
      open_room = omega arith;
      opened = rep.closed;
      held_room = r.held_room;
      last = refl;
      call = rw e rep.filed;
    }

-- ---- the store

-- it answers the unitig's place
pub close_place : (p : Plain) (way : Way) (c : Option Unitig) → (close_effect p way c).0 ≡ length p.closed
unfolding close_effect
close_place p way none = refl
close_place p way (some u) = refl

abbrev pub close_done : Store → Bufs → ℕ → Way → Outcome
close_done s b i way = after_close s b (close_filed s.cell s.shared i (way_of way) b.cell.opened b.shared.runs b.shared.table)

module _ {p : Plain} {s : Store} {b : Bufs} (r : Rep p s b) where
  pub close_tests_lem : (way : Way) → as_verdict (close_test s.cell s.shared b.cell.opened (way_of way)) ≡ tests p (close way)
  unfolding close_test tests
  close_tests_lem way = open_tests r.shared way s.cell.opened.used b.cell.opened r.cell.opened

  pub close_kept : (i : ℕ) (way : Way) → tests p (close way) ≡ accept → Rep (accepted p i (close way) (effect p (close way))) (close_done s b i way).1 (close_done s b i way).2
  unfolding tests accepted effect
  close_kept i way e =
      let f = filing_of r.shared way s.cell.opened.used b.cell.opened r.cell.opened e in
      rw (f.does p)
      (record {
        colors = r.colors;
        limits = r.limits;
        cell = close_cell_lem r.cell s.shared (length p.closed) i way b.shared.runs b.shared.table _ r.shared.closed.many;
        shared = shared_one r.shared f.v f.good f.room f.pair s.cell i way _ f.bytes f.count;
      })

  pub close_answer : (i : ℕ) (way : Way) → (close_done s b i way).0 ≡ done ((effect p (close way)).0 ∷ [])
  unfolding effect close_filed_of
  close_answer i way = rw (r.shared.closed.many, close_place p way p.cell.current) refl
