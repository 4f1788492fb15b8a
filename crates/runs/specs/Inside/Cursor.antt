-- A cycle turned left by p as two rounds over its runs, and the runs that are ahead of a step.
use Rattle.std.specs.Prelude.{ℕ, ◌+◌, ◌-◌, ◌≤◌, ◌<◌, min, ◌≡◌, Bool, true, false, not, ◌||◌, List, [], ◌∷◌, length, drop, get_or, ltb, eqb}
use Rattle.base.specs.Tests.{◌when◌else◌}
use Rattle.runs.specs.Words.{coordinate, pack}
use Rattle.runs.specs.Colours.{next, colours}
use Rattle.runs.specs.Rotate.{turn_left}
use Rattle.runs.specs.declared.turned.Part.{Part}

-- a run begins at vertex 0 and at each vertex unlike the one before
unfoldable pub begins : ℕ → ℕ → ℕ → Bool
begins at c d = eqb at 0 || not (eqb c d)

abbrev pub begun : Bool → ℕ → List ℕ → List ℕ
begun true w ws = w ∷ ws
begun false w ws = ws

-- the runs of colours from vertex `at` on, behind a vertex of colour c
unfoldable pub merged_from : ℕ → ℕ → List ℕ → List ℕ
merged_from at c [] = []
merged_from at c (d ∷ cs) = begun (begins at c d) (pack at d) (merged_from (at + 1) d cs)

-- the colours of the vertices of os, turned left by p
abbrev pub turned : ℕ → ℕ → List ℕ → List ℕ
turned n p os = turn_left p (colours n os)

-- where vertex v stands in the turned cycle: a first round gives the vertices from p on, a second those before p
abbrev pub first_round : ℕ → ℕ → ℕ
first_round p v = v - p

abbrev pub second_round : ℕ → ℕ → ℕ → ℕ
second_round n p v = n - p + min v p

-- where step j begins, and its colour: run j in the first round, run j - length os in the second
unfoldable pub step_start : ℕ → ℕ → List ℕ → ℕ → ℕ
step_start n p os j = first_round p (next n (drop j os)) when ltb j (length os) else second_round n p (next n (drop (j - length os) os))

unfoldable pub step_colour : List ℕ → ℕ → ℕ
step_colour os j = coordinate (get_or os j 0) when ltb j (length os) else coordinate (get_or os (j - length os) 0)

-- the runs from step j on, behind a vertex of colour c
unfoldable pub runs_from_step : ℕ → ℕ → List ℕ → ℕ → ℕ → List ℕ
runs_from_step n p os j c = merged_from (step_start n p os j) c (drop (step_start n p os j) (turned n p os))

-- what step j gives to the turned cycle: vertices of one colour up to where the next step begins
pub record Parted (n p : ℕ) (os : List ℕ) (j : ℕ) (r : Part) : Type 0 where
  pub starts : r.begin ≡ step_start n p os j
  pub ends : r.end ≡ step_start n p os (j + 1)
  pub coloured : r.colour ≡ step_colour os j
  pub inside : r.end ≤ n
  pub narrow : r.colour < 1099511627776

-- step j gives a run, behind a vertex of colour c
abbrev pub GivesRun : ℕ → ℕ → List ℕ → ℕ → ℕ → Type 0
GivesRun n p os j c = (step_start n p os j < step_start n p os (j + 1)) × (begins (step_start n p os j) c (step_colour os j) ≡ true)
