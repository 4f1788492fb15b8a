-- Section 6 of 01, with request F-9: append. A piece behind an output: the piece's first vertex is the output's last.
use Rattle.std.specs.Prelude.{ℕ, ◌+◌, ◌-◌, Bool, not, ◌||◌, ◌&&◌, List, [], ◌∷◌, ◌++◌, map, length, take, drop, ltb, eqb, Result, Ok, Err}
use Rattle.base.specs.Tests.{◌when◌else◌}
use Rattle.base.specs.Answers.{Answer, refused, done, number_of}
use Rattle.base.specs.Parts.{over}
use Rattle.runs.specs.Words.{offset, coordinate, pack}
use Rattle.runs.specs.Colours.{last_run, first_coord, last_coord}
use Rattle.runs.specs.Orders.{most_vertices, steady, sharp}
use Rattle.runs.specs.Reverse.{oriented}
use Rattle.runs.specs.Merge.{merge_behind}
use Rattle.base.specs.declared.Refusal.{Refusal}
use Rattle.runs.specs.declared.append.Appended.{Appended}

-- the new number of runs, and the new vertex count
abbrev pub of_appended : Result Appended Refusal → Answer
of_appended (Ok a) = done (a.runs ∷ a.vertices ∷ [])
of_appended (Err r) = refused (number_of r)

-- runs k vertices further on
abbrev pub shift : ℕ → ℕ → ℕ
shift k w = pack (offset w + k) (coordinate w)

unfoldable pub shifted : ℕ → List ℕ → List ℕ
shifted k ws = map (shift k) ws

-- what append puts behind an output of `count` vertices that ends on coordinate c: the oriented piece's runs, without those that have the coordinate of the one before, which for the first is the output's last (request F-9)
unfoldable pub appendix : ℕ → ℕ → List ℕ → List ℕ
appendix c count piece = shifted (count - 1) (merge_behind c piece)

-- the output's own runs stay as they are
unfoldable pub append_runs : List ℕ → ℕ → List ℕ → ℕ → Bool → List ℕ
append_runs out count piece n reversed = out ++ appendix (last_coord out) count (oriented reversed n piece)

-- 01's own append, which the reference has: only the oriented piece's first run is dropped, where the output's last coordinate equals its own
unfoldable pub skip : ℕ → List ℕ → ℕ
skip c piece = 1 when eqb c (first_coord piece) else 0

unfoldable pub unmerged_runs : List ℕ → ℕ → List ℕ → ℕ → Bool → List ℕ
unmerged_runs out count piece n reversed = out ++ shifted (count - 1) (drop (skip (last_coord out) (oriented reversed n piece)) (oriented reversed n piece))

-- a count 0, or a new count above 16,777,215
unfoldable pub bad_counts : ℕ → ℕ → Bool
bad_counts a b = eqb a 0 || (eqb b 0 || ltb most_vertices (a + b - 1))

-- an output that a piece can stand behind: steady, nonempty, its last offset below its count
unfoldable pub joinable : ℕ → List ℕ → Bool
joinable n ws = not (eqb (length ws) 0) && (steady n ws && ltb (offset (last_run ws)) n)

-- the new list in the output's front, its number of runs and the new vertex count
unfoldable pub result_into : List ℕ → ℕ → List ℕ → Answer × List ℕ
result_into result count out =
    -- 3, output too short
    (refused 3, out) when ltb (length out) (length result) else
    (done (length result ∷ count ∷ []), over result out)

-- append behind the `used` runs that the output has
unfoldable pub append_into : List ℕ → ℕ → ℕ → List ℕ → ℕ → Bool → Answer × List ℕ
append_into out used count piece n reversed =
    -- 3, the output is said to have more runs than its buffer holds
    (refused 3, out) when ltb (length out) used else
    -- 7, a count 0 or new count above 16,777,215
    (refused 7, out) when bad_counts count n else
    -- 6, the output not as admitted
    (refused 6, out) when not (joinable count (take used out)) else
    -- 6, the piece not as admitted
    (refused 6, out) when not (sharp n piece) else
    result_into (append_runs (take used out) count piece n reversed) (count + n - 1) out
