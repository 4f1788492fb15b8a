-- What is counted at the places of a list: where it falls, so that it is known whether it ascends, and where two neighbours have one coordinate.
use Rattle.std.specs.Prelude.{ℕ, zero, suc, ◌+◌, ◌-◌, ◌*◌, ◌%◌, ◌^◌, ◌<◌, ◌≤◌, Bool, ◌&&◌, List, length, get_or, leb, ltb, eqb}
use Rattle.base.specs.Tests.{◌when◌else◌}
use Rattle.runs.specs.Words.{offset, coordinate}
use Rattle.runs.specs.Colours.{last_run}

-- 1 where the list falls at place p, that is, run p + 1 begins less than `step` vertices behind run p; otherwise 0
unfoldable pub fall : ℕ → List ℕ → ℕ → ℕ
fall step ws p = 1 when ltb (offset (get_or ws (p + 1) 0)) (offset (get_or ws p 0) + step) else 0

-- 1 where runs p and p + 1 have one coordinate; otherwise 0
unfoldable pub alike : List ℕ → ℕ → ℕ
alike ws p = 1 when eqb (coordinate (get_or ws p 0)) (coordinate (get_or ws (p + 1) 0)) else 0

-- both in one number: they weigh 2^24 and a
abbrev pub mark : ℕ → ℕ → List ℕ → ℕ → ℕ
mark step a ws p = 16777216 * fall step ws p + a * alike ws p

-- how many vertices run p + 1 begins behind run p, less `step`, modulo 2^24; and what is alike
unfoldable pub gap : ℕ → ℕ → List ℕ → ℕ → ℕ
gap step a ws p = (offset (get_or ws (p + 1) 0) + (16777216 - step) - offset (get_or ws p 0)) % 16777216 + a * alike ws p

-- what f gives of eight places from p on, each `apart` behind the one before
abbrev pub of_eight : (ℕ → ℕ) → ℕ → ℕ → ℕ
of_eight f apart p = f p + f (apart + p) + f (2 * apart + p) + f (3 * apart + p) + f (4 * apart + p) + f (5 * apart + p) + f (6 * apart + p) + f (7 * apart + p)

-- of the k places from p on
unfoldable pub total : (ℕ → ℕ) → ℕ → ℕ → ℕ
total f p zero = 0
total f p (suc k) = total f p k + f (p + k)

-- the first run begins at 0, and the last at least `step` vertices before n
unfoldable pub framed : ℕ → ℕ → List ℕ → Bool
framed step n ws = eqb (offset (get_or ws 0 0)) 0 && leb (offset (last_run ws) + step) n

-- each begins at least `step` vertices behind the one before it
unfoldable pub never_falls : ℕ → List ℕ → Bool
never_falls step ws = eqb (total (fall step ws) 0 (length ws - 1)) 0

-- both
unfoldable pub spaced : ℕ → ℕ → List ℕ → Bool
spaced step n ws = framed step n ws && never_falls step ws

-- a step of 0 or 1, and a list whose places are numbers of 64 bits many times over
pub record Testable (step : ℕ) (ws : List ℕ) : Type 0 where
  pub small : step ≤ 1
  pub few : length ws < 2 ^ 61
