-- Section 6 of 01: colours. What a list of runs says of n vertices.
use Rattle.std.specs.Prelude.{ℕ, suc, ◌-◌, List, [], ◌∷◌, ◌++◌, map, length, drop, get_or, replicate, leb}
use Rattle.base.specs.Tests.{◌when◌else◌}
use Rattle.runs.specs.Words.{offset, coordinate}

-- where the first of the runs begins, or n
abbrev pub next : ℕ → List ℕ → ℕ
next n [] = n
next n (w ∷ ws) = offset w

-- where run i ends: where the next one begins, or n
abbrev pub end_at : ℕ → List ℕ → ℕ → ℕ
end_at n ws i = next n (drop (suc i) ws)

-- one coordinate for each vertex: a run colours the vertices from its offset up to the next one's, or n
unfoldable pub colours : ℕ → List ℕ → List ℕ
colours n [] = []
colours n (w ∷ ws) = replicate (next n ws - offset w) (coordinate w) ++ colours n ws

-- the vertices where a run starts
abbrev pub starts : List ℕ → List ℕ
starts ws = map offset ws

-- the coordinate of a vertex: that of the last run that starts at or before it
unfoldable pub colour_from : ℕ → ℕ → List ℕ → ℕ
colour_from c vertex [] = c
colour_from c vertex (w ∷ ws) = colour_from (coordinate w) vertex ws when leb (offset w) vertex else c

abbrev pub colour_at : ℕ → List ℕ → ℕ
colour_at vertex ws = colour_from 0 vertex ws

-- the last run, and the coordinates of the first and of the last; 0 where there are none
abbrev pub last_run : List ℕ → ℕ
last_run ws = get_or ws (length ws - 1) 0

abbrev pub first_coord : List ℕ → ℕ
first_coord ws = coordinate (get_or ws 0 0)

abbrev pub last_coord : List ℕ → ℕ
last_coord ws = coordinate (last_run ws)
