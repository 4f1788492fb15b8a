-- The runs that stand as bytes, as the struct holds them.
use Rattle.std.specs.Prelude.{ℕ, ◌≡◌, ◌*◌, ◌⊎◌, List, drop, Result, Ok, Err}
use Rattle.base.specs.Answers.{number_of}
use Rattle.base.specs.declared.Refusal.{Refusal}
use Rattle.runs.specs.Bytes.{words, found, short, damaged, read_runs}
use Rattle.runs.specs.declared.blocks.Blocks.{Blocks}

abbrev pub runs_of : Blocks → List ℕ
runs_of b = words b.count (drop b.at b.bytes.now)

-- what reading finds: the list, or that there is none
abbrev pub IsRead : List ℕ → Result Blocks Refusal → Type 0
IsRead bytes (Ok b) = (b.bytes.now ≡ bytes) × (read_runs bytes ≡ found (runs_of b) (drop (8 * b.count) (drop b.at bytes)))
IsRead bytes (Err r) = ((read_runs bytes ≡ short) × (number_of r ≡ 4)) ⊎ ((read_runs bytes ≡ damaged) × (number_of r ≡ 5))
