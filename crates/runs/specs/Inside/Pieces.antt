-- A piece and an output that append admits.
use Rattle.std.specs.Prelude.{ℕ, ◌≡◌, ◌+◌, ◌-◌, ◌≤◌, ◌<◌, Bool, List, length, eqb}
use Rattle.runs.specs.Colours.{first_coord}
use Rattle.runs.specs.Merge.{merge}
use Rattle.runs.specs.Orders.{most_vertices}
use Rattle.runs.specs.Inside.Lists.{Taken}

-- an output of `used` runs and `a` vertices, and a piece of b, that are as admitted; merged, the piece has so many runs
pub record Admitted (out : List ℕ) (used a : ℕ) (piece : List ℕ) (b merged : ℕ) : Type 0 where
  pub fits : used ≤ length out
  pub some : 0 < used
  pub left : 0 < a
  pub right : 0 < b
  pub sum : a + b - 1 ≤ most_vertices
  pub first : 0 < length piece
  pub taken : Taken b piece
  pub count : merged ≡ length (merge piece)

-- whether a piece's first run is dropped behind an output that ends on coordinate c
abbrev pub drops_first : ℕ → List ℕ → Bool
drops_first c piece = eqb c (first_coord piece)
