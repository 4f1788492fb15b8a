-- A list that is reversed in its own place, from both ends to the middle.
use Rattle.std.specs.Prelude.{ℕ, ◌+◌, ◌-◌, ◌≤◌, ◌<◌, ◌≡◌, List, [], ◌∷◌, length, get_or, set}
use Rattle.runs.specs.Words.{offset, coordinate, pack}
use Rattle.runs.specs.Colours.{end_at}
use Rattle.runs.specs.Reverse.{reverse_runs}

-- i runs at each end are as they will be, those between as they were; the run that comes to place i ended at `tail`
pub record Swapped (n : ℕ) (ws xs : List ℕ) (tail i : ℕ) : Type 0 where
  pub long : length xs ≡ length ws
  pub half : i + i ≤ length ws
  pub low : (k : ℕ) → k < i → get_or xs k 0 ≡ get_or (reverse_runs n ws) k 0
  pub high : (k : ℕ) → length ws - i ≤ k → k < length ws → get_or xs k 0 ≡ get_or (reverse_runs n ws) k 0
  pub mid : (k : ℕ) → i ≤ k → k < length ws - i → get_or xs k 0 ≡ get_or ws k 0
  pub tails : tail ≡ end_at n ws (length ws - 1 - i)

-- run p, that ended where `next` begins, begun there from the other side of n vertices
abbrev pub backed : ℕ → List ℕ → ℕ → ℕ → ℕ
backed n ws p next = pack (n - offset next) (coordinate (get_or ws p 0))

-- the four runs from place p on, last first; the last ended where `next` begins
abbrev pub four_back : ℕ → List ℕ → ℕ → ℕ → List ℕ
four_back n ws p next =
    backed n ws (p + 3) next ∷ backed n ws (p + 2) (get_or ws (p + 3) 0) ∷ backed n ws (p + 1) (get_or ws (p + 2) 0) ∷ backed n ws p (get_or ws (p + 1) 0) ∷ []

-- that can be so
pub record FourFit (n : ℕ) (ws : List ℕ) (p next : ℕ) : Type 0 where
  pub inside : p + 3 < length ws
  pub one : offset (get_or ws (p + 1) 0) ≤ n
  pub two : offset (get_or ws (p + 2) 0) ≤ n
  pub three : offset (get_or ws (p + 3) 0) ≤ n
  pub four : offset next ≤ n
  pub small : n < 16777216

-- four from place p on
abbrev pub put_four : List ℕ → ℕ → List ℕ → List ℕ
put_four ws p four = set (set (set (set ws p (get_or four 0 0)) (p + 1) (get_or four 1 0)) (p + 2) (get_or four 2 0)) (p + 3) (get_or four 3 0)
