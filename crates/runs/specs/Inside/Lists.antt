-- Steady and sharp lists, run by run, and a list cut to fewer vertices.
use Rattle.std.specs.Prelude.{ℕ, ◌≤◌, ◌<◌, ◌≡◌, List, filter, length, get_or, ltb}
use Rattle.runs.specs.Words.{offset}
use Rattle.runs.specs.Colours.{end_at}

-- the first begins at 0, and each no later than it ends (sharp: before it ends)
pub record Steady (n : ℕ) (ws : List ℕ) : Type 0 where
  pub first : offset (get_or ws 0 0) ≡ 0
  pub up : (i : ℕ) → i < length ws → offset (get_or ws i 0) ≤ end_at n ws i

pub record Sharp (n : ℕ) (ws : List ℕ) : Type 0 where
  pub some : 0 < length ws
  pub first : offset (get_or ws 0 0) ≡ 0
  pub up : (i : ℕ) → i < length ws → offset (get_or ws i 0) < end_at n ws i

-- sharp for some count of vertices above this one
pub record IsSharpBeyond (vertex : ℕ) (ws : List ℕ) : Type 0 where
  pub vertices : ℕ
  pub list : Sharp vertices ws
  pub inside : vertex < vertices

-- a list that reverse and rotate take
pub record Taken (n : ℕ) (ws : List ℕ) : Type 0 where
  pub small : n < 16777216
  pub list : Steady n ws

-- the list of the first n vertices: without a run that has none of them
unfoldable pub cut_to : ℕ → List ℕ → List ℕ
cut_to n ws = filter (λ (w : ℕ). ltb (offset w) n) ws

-- run `low` begins at or before a vertex, and run `high`, if there is one, behind it
pub record Between (vertex : ℕ) (ws : List ℕ) (low high : ℕ) : Type 0 where
  pub apart : low < high
  pub inside : high ≤ length ws
  pub begun : offset (get_or ws low 0) ≤ vertex
  pub behind : high < length ws → vertex < offset (get_or ws high 0)
