-- Request F-5, cycles that walk back to their first vertex: what a close as a cycle is told and leaves, after any list of calls; and that 16 is told of it alone.
use Rattle.std.specs.Prelude.{ℕ, ◌+◌, ◌-◌, ◌*◌, ◌%◌, ◌<◌, ◌≤◌, ◌≡◌, Bool, true, false, List, [], ◌∷◌, map, length, get_or, take}
use Rattle.std.proofs.Math.Option.{none, some}
use Rattle.base.specs.Answers.{done, refused}
use Rattle.base.specs.Parts.{over}
use Rattle.base.specs.Tests.{◌when◌else◌}
use Rattle.runs.specs.Bytes.{found}
use Rattle.runs.specs.Colours.{colours}
use Rattle.runs.specs.Orders.{sharp}
use Rattle.runs.specs.Rotate.{merged, runs_at}
use Rattle.store.specs.Demand.{LentCall, Seen, as_seen, runs_of, seen, sent, showing, store_run, store_step, updating}
use Rattle.store.specs.Plain.{Plain, Reply, Unitig, Way, acyclic, answer, are_sharp, close, coord_at, coords_of, cycle, filed, line, no_space_for_unitig, plain_fresh, plain_run, plain_step, refusal, without_last}
use Rattle.store.specs.Start.{start_step}
use Rattle.store.specs.State.{Bufs, lengths_of}
use Rattle.store.specs.WhileOpen.{next_call, set_named}
use Rattle.store.specs.declared.state.Current.TheVariants.{Nothing}
use Rattle.store.specs.declared.state.Store.{Store}

-- ---- "for a cycle only"

unfoldable pub closes_cycle : LentCall → Bool
closes_cycle (updating i (close (cycle pivot))) = true
closes_cycle call = false

-- no other call is told 16, in whatever state and over whatever buffers
abbrev pub OnlyCyclesStatement : Type 0
OnlyCyclesStatement = (s : Store) (b : Bufs) (call : LentCall) → (store_step s b call).0.answer ≡ refused 16 → closes_cycle call ≡ true

-- ---- a close as a cycle after a list of calls

-- what a close of the open unitig u as a cycle with the next number is told
unfoldable pub cycle_reply : Plain → ℕ → Unitig → Reply
cycle_reply p pivot u =
    -- 16, it doesn't walk back to its first vertex
    refusal 16 when acyclic (cycle pivot) u else
    -- 3, what is filed doesn't fit
    refusal 3 when no_space_for_unitig p.closed p.shared (filed (cycle pivot) u) else
    answer (length p.closed)

-- of such a close that is not refused: what was open, and what it leaves; the unitig's place is the number of those closed before
pub record CycleFiled (u : Unitig) (pivot : ℕ) (p : Plain) (s : Store) (b : Bufs) (p' : Plain) (s' : Store) (b' : Bufs) : Type 0 where
  -- none is open then
  pub closed : s'.cell.current ≡ Nothing
  -- "drops the last vertex": the table has one vertex less than was open, and there is no other
  pub count : get_or b'.shared.table (2 * length p.closed + 1) 0 ≡ length u.coords - 1
  pub no_more : (vertex : ℕ) (out : List ℕ) → length u.coords - 1 ≤ vertex → (store_step s' b' (showing (length p.closed) vertex out)).0 ≡ seen (refused 14) out
  -- "turning by pivot modulo the smaller count": a vertex has the coordinate of that vertex of the walk
  pub turned : (v : ℕ) → v < length u.coords - 1 → coord_at p' (length p.closed) v ≡ get_or u.coords ((v + pivot) % (length u.coords - 1)) 0
  -- and shows the set that it names, where the output is long enough
  pub shown :
      (v : ℕ) (out : List ℕ) → v < length u.coords - 1
      → let ids = set_named p.cell (get_or u.coords ((v + pivot) % (length u.coords - 1)) 0) in
      length ids ≤ length out → (store_step s' b' (showing (length p.closed) v out)).0 ≡ seen (done (length ids ∷ [])) (over ids out)
  -- so that each vertex of the walk but the last has one of the cycle's
  pub each : (w : ℕ) → w < length u.coords - 1 → (v : ℕ) × (v < length u.coords - 1) × ((v + pivot) % (length u.coords - 1) ≡ w)
  -- what is in the file are these coordinates as runs, equal neighbours merged, each with a vertex
  pub runs : runs_of s'.shared b'.shared (length p.closed) ≡ found (merged (coords_of p' (length p.closed))) []
  pub each_run : sharp (length u.coords - 1) (merged (coords_of p' (length p.closed))) ≡ true
  -- "the pivot is compared as sent": sent again it has the same answer; with another pivot, whatever it is modulo a count, or as a line, it is 11
  pub again : (store_step s' b' (next_call p (close (cycle pivot)))).0 ≡ (store_step s b (next_call p (close (cycle pivot)))).0
  pub other_pivot : (q : ℕ) → (pivot ≡ q → ⊥) → (store_step s' b' (next_call p (close (cycle q)))).0 ≡ seen (refused 11) []
  pub as_line : (store_step s' b' (next_call p (close line))).0 ≡ seen (refused 11) []

-- "and a run that this leaves without a vertex": of a walk without its last vertex, the starts are those of a sharp list for the smaller count, and its runs colour the other vertices as before
pub record Dropped (u : Unitig) : Type 0 where
  pub starts : are_sharp (length u.coords - 1) (without_last u).starts ≡ true
  pub runs : colours (length u.coords - 1) (runs_at (without_last u).coords (without_last u).starts) ≡ take (length u.coords - 1) u.coords

-- of the store, its buffers and the plain store after a list of calls
pub record Cycles (p : Plain) (s : Store) (b : Bufs) : Type 0 where
  -- 13 before all that follows, also of a cycle
  pub none_open : (way : Way) → p.cell.current ≡ none → (store_step s b (next_call p (close way))).0 ≡ seen (refused 13) []
  pub told : (u : Unitig) (pivot : ℕ) → p.cell.current ≡ some u → (store_step s b (next_call p (close (cycle pivot)))).0 ≡ as_seen (cycle_reply p pivot u) []
  pub dropped : (u : Unitig) → p.cell.current ≡ some u → 2 ≤ length u.coords → Dropped u
  pub filed :
      (u : Unitig) (pivot : ℕ) → p.cell.current ≡ some u → cycle_reply p pivot u ≡ answer (length p.closed)
      → CycleFiled u pivot p s b (plain_step p (sent (next_call p (close (cycle pivot))))).1 (store_step s b (next_call p (close (cycle pivot)))).1 (store_step s b (next_call p (close (cycle pivot)))).2

-- by what a list of calls leaves: the plain store after it, the store and its buffers
abbrev pub CyclesAfter : (N W : ℕ) → Bufs → List LentCall → List Seen × Store × Bufs → Type 0
CyclesAfter N W b calls r = Cycles (plain_run (plain_fresh N W (lengths_of b)) (map sent calls)).1 r.1 r.2

-- the claim: after an accepted start and every list of calls
abbrev pub CyclesStatement : Type 0
CyclesStatement =
    (N W : ℕ) (b b' : Bufs) (s : Store) → start_step N W b ≡ (done [], s, b') → (calls : List LentCall)
    → CyclesAfter N W b calls (store_run s b' calls)
