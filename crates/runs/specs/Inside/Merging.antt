-- Merged runs behind those of an output.
use Rattle.std.specs.Prelude.{ℕ, ◌^◌, ◌≤◌, ◌<◌, ◌≡◌, Bool, List, ◌++◌, length, take}
use Rattle.runs.specs.Append.{shifted}
use Rattle.runs.specs.Colours.{first_coord, last_coord}
use Rattle.runs.specs.Merge.{merge_behind}
use Rattle.runs.specs.Inside.Oriented.{list_of}
use Rattle.runs.specs.Inside.Pieces.{drops_first}
use Rattle.runs.specs.declared.oriented.Shifted.{Shifted}

-- the output's `used` runs, and a moved list's behind them, merged
abbrev pub merged_behind : Shifted → ℕ → List ℕ → List ℕ
merged_behind s used out = take used out ++ shifted s.shift (merge_behind (last_coord (take used out)) (list_of s.list))

-- space for so many in all; the list has runs, no more than fit into memory
pub record Fills (s : Shifted) (out : List ℕ) (used total : ℕ) : Type 0 where
  pub some : 0 < length s.list.runs.now
  pub few : length s.list.runs.now < 2 ^ 61
  pub inside : used ≤ length out
  pub count : total ≡ length (merged_behind s used out)
  pub fits : total ≤ length out

-- the output's runs end on the coordinate of the list's first
pub record FillsRest (s : Shifted) (out : List ℕ) (used total : ℕ) : Type 0 where
  pub fills : Fills s out used total
  pub used_some : 0 < used
  pub meets : last_coord (take used out) ≡ first_coord (list_of s.list)

-- it is told whether they do
pub record FillsAll (s : Shifted) (out : List ℕ) (used : ℕ) (drops : Bool) (total : ℕ) : Type 0 where
  pub fills : Fills s out used total
  pub used_some : 0 < used
  pub told : drops ≡ drops_first (last_coord (take used out)) (list_of s.list)
