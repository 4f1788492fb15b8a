-- "What each operation turns down" of 01, with request F-9: join. 7, 6, 9, 5, 8, 3; the held piece as sent and the new open runs, of which equal neighbours are merged.
use Rattle.std.specs.Prelude.{ℕ, ◌+◌, ◌-◌, Bool, true, false, not, ◌||◌, ◌&&◌, List, [], ◌∷◌, length, take, ltb, eqb, Ok, Err}
use Rattle.base.specs.Answers.{Answer, done, refused}
use Rattle.base.specs.Parts.{over}
use Rattle.base.specs.Tests.{◌when◌else◌}
use Rattle.base.specs.declared.Refusal.TheVariants.{Coordinate, Damaged, Junction, Runs, Space, Vertices}
use Rattle.codec.specs.Records.{same}
use Rattle.runs.specs.Append.{appendix}
use Rattle.runs.specs.Merge.{merge}
use Rattle.runs.specs.Colours.{first_coord, last_coord}
use Rattle.runs.specs.Orders.{most_vertices, sharp}
use Rattle.runs.specs.Reverse.{oriented}
use Rattle.runs.specs.Words.{coordinate, place_of, worker_of}
use Rattle.store.specs.Altered.{altered}
use Rattle.store.specs.Numbered.{Test, by_gate, numbered}
use Rattle.store.specs.State.{Bufs, Outcome, after, lengths_of, put, with_opened, with_parts}
use Rattle.store.specs.declared.state.Current.{Current}
use Rattle.store.specs.declared.state.Current.TheVariants.{Nothing, Open}
use Rattle.store.specs.declared.state.Cell.{Cell}
use Rattle.store.specs.declared.state.Last.{Last}
use Rattle.store.specs.declared.state.Last.TheVariants as last
use Rattle.store.specs.declared.state.Store.{Store}

-- ---- a repeat

unfoldable pub alike : Bool → Bool → Bool
alike true b = b
alike false b = not b

-- the last call was a join of these: the runs are compared with the held piece
unfoldable pub same_join : ℕ → (held : List ℕ) → Last → ℕ → Bool → List ℕ → Bool
same_join used held last.Fresh m e piece = false
same_join used held last.Add m e piece = false
same_join used held (last.Join n r) m e piece = eqb n m && alike r e && same (take used held) piece
same_join used held (last.Close v) m e piece = false

-- ---- the open runs with the piece

-- the new vertex count
unfoldable pub open_count : Current → ℕ → ℕ
open_count Nothing n = n
open_count (Open m) n = m + n - 1

-- where new open runs go, and what they are: the oriented piece's runs, merged, also behind the last open run (request F-9)
unfoldable pub open_at : Current → ℕ → ℕ
open_at Nothing used = 0
open_at (Open m) used = used

unfoldable pub open_new : Current → List ℕ → List ℕ → List ℕ
open_new Nothing old piece = merge piece
open_new (Open m) old piece = appendix (last_coord old) m piece

-- ---- tests

-- every coordinate of the runs is the worker's, with a place below `sets`
unfoldable pub all_named : ℕ → ℕ → List ℕ → Bool
all_named worker sets [] = true
all_named worker sets (r ∷ rs) = eqb (worker_of (coordinate r)) worker && ltb (place_of (coordinate r)) sets && all_named worker sets rs

unfoldable pub open_test : Current → List ℕ → List ℕ → Test → Test
open_test Nothing old piece rest = rest
open_test (Open m) old piece rest =
    -- 5, open runs not sharp for the open count (altered buffers only)
    Err Damaged when not (sharp m old) else
    -- 8, last open coordinate differs from the oriented piece's first
    Err Junction when not (eqb (last_coord old) (first_coord piece)) else
    rest

-- 3, open runs or held piece too short, with so many new open runs and so many runs to hold
unfoldable pub open_space : Cell → ℕ → ℕ → Test
open_space c new held =
    Err Space when ltb c.opened.length (open_at c.current c.opened.used + new) || ltb c.held.length held else
    Ok tt

unfoldable pub join_test : Cell → (opened : List ℕ) → ℕ → Bool → List ℕ → Test
join_test c opened n reversed piece =
    -- 7, n is 0 or new count above 16,777,215
    Err Vertices when eqb n 0 || ltb most_vertices (open_count c.current n) else
    -- 6, not sharp
    Err Runs when not (sharp n piece) else
    -- 9, a coordinate with another worker or an index not below S's length
    Err Coordinate when not (all_named c.worker c.sets piece) else
    -- 5, 8, 3
    open_test c.current (take c.opened.used opened) (oriented reversed n piece)
    (open_space c (length (open_new c.current (take c.opened.used opened) (oriented reversed n piece))) (length piece))

-- ---- what it leaves

-- the answer, the cell, the open runs and the held piece, where the new open runs stand behind `at`
unfoldable pub join_filed_at : Cell → ℕ → ℕ → Bool → List ℕ → (opened held : List ℕ) → ℕ → List ℕ → Answer × Cell × List ℕ × List ℕ
join_filed_at c i n reversed piece opened held at new = (
  done (open_count c.current n ∷ []),
  after c c.records.used c.sets (at + length new) (length piece) (Open (open_count c.current n)) i (last.Join n reversed) (open_count c.current n),
  put at new opened,
  over piece held,
)

abbrev pub join_filed : Cell → ℕ → ℕ → Bool → List ℕ → (opened held : List ℕ) → Answer × Cell × List ℕ × List ℕ
join_filed c i n reversed piece opened held =
    join_filed_at c i n reversed piece opened held (open_at c.current c.opened.used)
    (open_new c.current (take c.opened.used opened) (oriented reversed n piece))

unfoldable pub join_cell : Cell → ℕ → ℕ → Bool → List ℕ → (opened held : List ℕ) → Answer × Cell × List ℕ × List ℕ
join_cell c i n reversed piece opened held =
    by_gate (numbered c i (same_join c.held.used held c.last n reversed piece) (join_test c opened n reversed piece)) (λ a. (a, c, opened, held))
    (join_filed c i n reversed piece opened held)

abbrev pub after_join : Store → Bufs → Answer × Cell × List ℕ × List ℕ → Outcome
after_join s b r = (r.0, with_parts s r.1 s.shared, record { cell = with_opened b.cell r.2 r.3; shared = b.shared })

unfoldable pub join_step : Store → Bufs → ℕ → ℕ → Bool → List ℕ → Outcome
join_step s b i n reversed piece =
    (refused 15, s, b) when altered s (lengths_of b) else
    after_join s b (join_cell s.cell i n reversed piece b.cell.opened b.cell.held)
