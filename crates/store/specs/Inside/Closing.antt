-- A close as the code goes, of the open runs alone: the table's space is tested before that of the run bytes, and writing them tells whether they fit.
use Rattle.std.specs.Prelude.{ℕ, ◌+◌, ◌*◌, List, [], ◌∷◌, length, ltb, Ok, Err}
use Rattle.base.specs.Answers.{Answer, done, refused}
use Rattle.base.specs.Tests.{◌when◌else◌}
use Rattle.base.specs.declared.Refusal.TheVariants.{Space}
use Rattle.store.specs.Close.{close_filed_of, close_open, filed_bytes}
use Rattle.store.specs.Numbered.{Test}
use Rattle.store.specs.State.{put}
use Rattle.store.specs.declared.state.Cell.{Cell}
use Rattle.store.specs.declared.state.Shared.{Shared}
use Rattle.store.specs.declared.state.Way.{Way}

-- 13, 5, 16, and 3 of the table
unfoldable pub table_test : Cell → Shared → Way → (old : List ℕ) → Test
table_test c s way old =
    close_open way c.current old
    (Err Space when ltb s.table (2 * s.unitigs + 2) else Ok tt)

-- bytes behind the used ones, or 3
unfoldable pub bytes_into : List ℕ → ℕ → List ℕ → Answer × List ℕ
bytes_into bytes at runs =
    (refused 3, runs) when ltb (length runs) (at + length bytes) else
    (done (length bytes ∷ []), put at bytes runs)

-- the unitig filed, or 3 of the run bytes
unfoldable pub filed_or_full : Cell → Shared → ℕ → Way → (old runs table : List ℕ) → Answer × Cell × Shared × List ℕ × List ℕ
filed_or_full c s i way old runs table =
    (refused 3, c, s, runs, table) when ltb (length runs) (s.runs.used + length (filed_bytes way c.current old)) else
    close_filed_of c s i way runs table (filed_bytes way c.current old)
