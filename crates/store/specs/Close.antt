-- "What each operation turns down" of 01, with request F-5: close. 13, 5, for a cycle 16, then 3; the run bytes go behind the used ones, with two numbers in the table.
use Rattle.std.specs.Prelude.{ℕ, ◌+◌, ◌-◌, ◌*◌, Bool, true, false, not, ◌||◌, List, [], ◌∷◌, length, set, take, ltb, eqb, Ok, Err}
use Rattle.base.specs.Answers.{Answer, done, refused}
use Rattle.base.specs.Tests.{◌when◌else◌}
use Rattle.base.specs.declared.Refusal.TheVariants.{Acyclic, Damaged, Space, Unopened}
use Rattle.runs.specs.Bytes.{run_bytes}
use Rattle.runs.specs.Colours.{first_coord, last_coord}
use Rattle.runs.specs.Orders.{sharp}
use Rattle.runs.specs.Rotate.{rotate_runs}
use Rattle.store.specs.Altered.{altered}
use Rattle.store.specs.Numbered.{Test, by_gate, numbered}
use Rattle.store.specs.State.{Bufs, Outcome, after, lengths_of, put, shared_bufs, with_parts, with_unitig}
use Rattle.store.specs.declared.state.Current.{Current}
use Rattle.store.specs.declared.state.Current.TheVariants.{Nothing, Open}
use Rattle.store.specs.declared.state.Cell.{Cell}
use Rattle.store.specs.declared.state.Last.{Last}
use Rattle.store.specs.declared.state.Last.TheVariants as last
use Rattle.store.specs.declared.state.Shared.{Shared}
use Rattle.store.specs.declared.state.Store.{Store}
use Rattle.store.specs.declared.state.Way.{Way}
use Rattle.store.specs.declared.state.Way.TheVariants.{Cycle, Line}

-- ---- a repeat

-- line or cycle, and the pivot as sent
unfoldable pub same_way : Way → Way → Bool
same_way Line Line = true
same_way Line (Cycle q) = false
same_way (Cycle p) Line = false
same_way (Cycle p) (Cycle q) = eqb p q

unfoldable pub same_close : Last → Way → Bool
same_close last.Fresh w = false
same_close last.Add w = false
same_close (last.Join n r) w = false
same_close (last.Close v) w = same_way v w

-- ---- what is filed

-- the vertices of so many: all, or of a cycle all but the last, which is its first again
unfoldable pub filed_count : Way → ℕ → ℕ
filed_count Line n = n
filed_count (Cycle pivot) n = n - 1

-- the runs over so many vertices: as they are, or turned by the pivot with equal neighbours merged, which leaves no run without a vertex
unfoldable pub filed_runs : Way → ℕ → List ℕ → List ℕ
filed_runs Line n old = old
filed_runs (Cycle pivot) n old = rotate_runs n pivot false old

-- as run bytes, by the open unitig; none where none is open
unfoldable pub filed_bytes : Way → Current → List ℕ → List ℕ
filed_bytes way Nothing old = []
filed_bytes way (Open n) old = run_bytes (filed_runs way (filed_count way n) old)

unfoldable pub count_of : Current → ℕ
count_of Nothing = 0
count_of (Open n) = n

-- ---- tests

-- of a cycle only: fewer than two vertices, or first and last coordinates differ
unfoldable pub acyclic_runs : Way → ℕ → List ℕ → Bool
acyclic_runs Line n old = false
acyclic_runs (Cycle pivot) n old = ltb n 2 || not (eqb (first_coord old) (last_coord old))

unfoldable pub close_open : Way → Current → List ℕ → Test → Test
-- 13, none open
close_open way Nothing old rest = Err Unopened
close_open way (Open n) old rest =
    -- 5, open runs not sharp for the open count (altered buffers only)
    Err Damaged when not (sharp n old) else
    -- 16, a cycle that doesn't walk back to its first vertex
    Err Acyclic when acyclic_runs way n old else
    rest

-- its run bytes, so many, or its two table numbers don't fit
unfoldable pub no_close_space : Shared → ℕ → Bool
no_close_space s len = ltb s.runs.length (s.runs.used + len) || ltb s.table (2 * s.unitigs + 2)

unfoldable pub close_test : Cell → Shared → (opened : List ℕ) → Way → Test
close_test c s opened way =
    close_open way c.current (take c.opened.used opened)
    -- 3, its run bytes or its two table numbers don't fit
    (Err Space when no_close_space s (length (filed_bytes way c.current (take c.opened.used opened))) else Ok tt)

-- ---- what it leaves

-- the answer, the cell, the shared part, the run file and the table, with these run bytes
unfoldable pub close_filed_of : Cell → Shared → ℕ → Way → (runs table : List ℕ) → List ℕ → Answer × Cell × Shared × List ℕ × List ℕ
close_filed_of c s i way runs table bytes = (
  done (s.unitigs ∷ []),
  after c c.records.used c.sets 0 c.held.used Nothing i (last.Close way) s.unitigs,
  with_unitig s (s.runs.used + length bytes) (s.unitigs + 1),
  put s.runs.used bytes runs,
  set (set table (2 * s.unitigs) s.runs.used) (2 * s.unitigs + 1) (filed_count way (count_of c.current)),
)

abbrev pub close_filed : Cell → Shared → ℕ → Way → (opened runs table : List ℕ) → Answer × Cell × Shared × List ℕ × List ℕ
close_filed c s i way opened runs table = close_filed_of c s i way runs table (filed_bytes way c.current (take c.opened.used opened))

unfoldable pub close_cell : Cell → Shared → ℕ → Way → (opened runs table : List ℕ) → Answer × Cell × Shared × List ℕ × List ℕ
close_cell c s i way opened runs table =
    by_gate (numbered c i (same_close c.last way) (close_test c s opened way)) (λ a. (a, c, s, runs, table)) (close_filed c s i way opened runs table)

abbrev pub after_close : Store → Bufs → Answer × Cell × Shared × List ℕ × List ℕ → Outcome
after_close s b r = (r.0, with_parts s r.1 r.2, record { cell = b.cell; shared = shared_bufs r.3 r.4 })

unfoldable pub close_step : Store → Bufs → ℕ → Way → Outcome
close_step s b i way =
    (refused 15, s, b) when altered s (lengths_of b) else
    after_close s b (close_cell s.cell s.shared i way b.cell.opened b.shared.runs b.shared.table)
