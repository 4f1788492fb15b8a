-- Section 6 of 01: reverse. Runs from the other end of the unitig.
use Rattle.std.specs.Prelude.{ℕ, ◌-◌, Bool, true, false, not, List, [], ◌∷◌, ◌++◌, length, ltb}
use Rattle.base.specs.Tests.{◌when◌else◌}
use Rattle.base.specs.Answers.{Answer, refused, done}
use Rattle.runs.specs.Words.{coordinate, pack}
use Rattle.runs.specs.Colours.{next}
use Rattle.runs.specs.Orders.{most_vertices, steady, list_into}

-- from the last run to the first, each begun where it ended
unfoldable pub reverse_runs : ℕ → List ℕ → List ℕ
reverse_runs n [] = []
reverse_runs n (w ∷ ws) = reverse_runs n ws ++ (pack (n - next n ws) (coordinate w) ∷ [])

-- the list, reversed where wished
abbrev pub oriented : Bool → ℕ → List ℕ → List ℕ
oriented true n ws = reverse_runs n ws
oriented false n ws = ws

abbrev pub orient_into : List ℕ → ℕ → Bool → List ℕ → Answer × List ℕ
orient_into ws n reversed out = list_into n ws (oriented reversed n ws) out

abbrev pub reverse_into : List ℕ → ℕ → List ℕ → Answer × List ℕ
reverse_into ws n out = list_into n ws (reverse_runs n ws) out

-- in place the list is its own output
unfoldable pub reverse_in_place : List ℕ → ℕ → Answer × List ℕ
reverse_in_place ws n =
    -- 7, n above 16,777,215
    (refused 7, ws) when ltb most_vertices n else
    -- 6, not steady
    (refused 6, ws) when not (steady n ws) else
    (done (length ws ∷ []), reverse_runs n ws)
