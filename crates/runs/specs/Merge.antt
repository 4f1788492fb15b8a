-- Request F-9: equal neighbours merged. Of neighbouring runs of one coordinate the first stays. (The runs of a list of colours are `merged` in Rotate.)
use Rattle.std.specs.Prelude.{ℕ, Bool, true, false, not, ◌&&◌, Option, Some, None, List, [], ◌∷◌, length, ltb, eqb}
use Rattle.base.specs.Tests.{◌when◌else◌}
use Rattle.base.specs.Answers.{Answer, refused, done}
use Rattle.base.specs.Parts.{over}
use Rattle.runs.specs.Words.{coordinate}
use Rattle.runs.specs.Orders.{most_vertices, sharp}
use Rattle.runs.specs.Reverse.{oriented}

-- x before the rest, unless it is left out
abbrev pub unless : Bool → ℕ → List ℕ → List ℕ
unless true x rest = rest
unless false x rest = x ∷ rest

-- behind a run of coordinate c: the runs without those that have the coordinate of the one before
unfoldable pub merge_behind : ℕ → List ℕ → List ℕ
merge_behind c [] = []
merge_behind c (w ∷ ws) = unless (eqb c (coordinate w)) w (merge_behind (coordinate w) ws)

-- a list of runs, equal neighbours merged
unfoldable pub merge : List ℕ → List ℕ
merge [] = []
merge (w ∷ ws) = w ∷ merge_behind (coordinate w) ws

-- whether a list has no equal neighbours; first, behind a run of coordinate c
unfoldable pub unlike_behind : ℕ → List ℕ → Bool
unlike_behind c [] = true
unlike_behind c (w ∷ ws) = not (eqb c (coordinate w)) && unlike_behind (coordinate w) ws

unfoldable pub unlike_neighbours : List ℕ → Bool
unlike_neighbours [] = true
unlike_neighbours (w ∷ ws) = unlike_behind (coordinate w) ws

-- how many runs a sharp list has once merged; none of a list that isn't sharp
unfoldable pub merged_count : ℕ → List ℕ → Option ℕ
merged_count n ws = Some (length (merge ws)) when sharp n ws else None

-- the list, reversed first where wished, merged in the output's front, and its number of runs
unfoldable pub merge_into : List ℕ → ℕ → Bool → List ℕ → Answer × List ℕ
merge_into ws n reversed out =
    -- 7, n above 16,777,215
    (refused 7, out) when ltb most_vertices n else
    -- 6, not sharp
    (refused 6, out) when not (sharp n ws) else
    -- 3, output too short
    (refused 3, out) when ltb (length out) (length (merge (oriented reversed n ws))) else
    (done (length (merge (oriented reversed n ws)) ∷ []), over (merge (oriented reversed n ws)) out)
