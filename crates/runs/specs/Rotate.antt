-- Section 6 of 01: rotate. A cycle begun at another vertex.
use Rattle.std.specs.Prelude.{ℕ, ◌+◌, ◌%◌, Bool, List, [], ◌∷◌, ◌++◌, map, take, drop, get_or, eqb}
use Rattle.base.specs.Answers.{Answer}
use Rattle.runs.specs.Words.{pack}
use Rattle.runs.specs.Colours.{colours}
use Rattle.runs.specs.Orders.{list_into}
use Rattle.runs.specs.Merge.{unless}
use Rattle.runs.specs.Reverse.{oriented}

-- turned left by k: the colours from vertex k on, then those before it
abbrev pub turn_left : ℕ → List ℕ → List ℕ
turn_left k cs = drop k cs ++ take k cs

-- the vertices from `at` on, behind one of colour c, that are unlike the one before
unfoldable pub changes : ℕ → ℕ → List ℕ → List ℕ
changes c at [] = []
changes c at (d ∷ cs) = unless (eqb c d) at (changes d (at + 1) cs)

-- vertex 0, and each vertex unlike the one before
unfoldable pub firsts : List ℕ → List ℕ
firsts [] = []
firsts (c ∷ cs) = 0 ∷ changes c 1 cs

-- the runs that start at these vertices of a unitig of these colours
unfoldable pub runs_at : List ℕ → List ℕ → List ℕ
runs_at cs ss = map (λ (s : ℕ). pack s (get_or cs s 0)) ss

-- colours as runs, equal neighbours merged
unfoldable pub merged : List ℕ → List ℕ
merged cs = runs_at cs (firsts cs)

-- the list, reversed first where wished, has its colours turned left by pivot mod n, equal neighbours merged
unfoldable pub rotate_runs : ℕ → ℕ → Bool → List ℕ → List ℕ
rotate_runs n pivot reversed ws = merged (turn_left (pivot % n) (colours n (oriented reversed n ws)))

abbrev pub rotate_into : List ℕ → ℕ → ℕ → Bool → List ℕ → Answer × List ℕ
rotate_into ws n pivot reversed out = list_into n ws (rotate_runs n pivot reversed ws) out
