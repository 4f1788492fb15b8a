-- Section 6 of 01: steady and sharp lists for n vertices.
use Rattle.std.specs.Prelude.{ℕ, Bool, true, false, not, ◌&&◌, List, [], ◌∷◌, length, leb, ltb, eqb}
use Rattle.base.specs.Tests.{◌when◌else◌}
use Rattle.base.specs.Answers.{Answer, refused, done}
use Rattle.base.specs.Parts.{over}
use Rattle.runs.specs.Words.{offset}

-- the largest vertex count
abbrev pub most_vertices : ℕ
most_vertices = 16777215

-- offsets that never descend, from `at` on, and none above n
unfoldable pub rises : ℕ → ℕ → List ℕ → Bool
rises n at [] = leb at n
rises n at (w ∷ ws) = leb at (offset w) && rises n (offset w) ws

-- empty, or starts at offset 0, never descends and has no offset above n
unfoldable pub steady : ℕ → List ℕ → Bool
steady n [] = true
steady n (w ∷ ws) = eqb (offset w) 0 && rises n 0 ws

-- offsets that ascend strictly, above `at` and below n
unfoldable pub climbs : ℕ → ℕ → List ℕ → Bool
climbs n at [] = ltb at n
climbs n at (w ∷ ws) = ltb at (offset w) && climbs n (offset w) ws

-- nonempty, starts at 0, ascends strictly and stays below n
unfoldable pub sharp : ℕ → List ℕ → Bool
sharp n [] = false
sharp n (w ∷ ws) = eqb (offset w) 0 && climbs n 0 ws

-- reverse, rotate: the result of a steady list in the output's front, and its number of runs
unfoldable pub list_into : ℕ → List ℕ → List ℕ → List ℕ → Answer × List ℕ
list_into n ws result out =
    -- 7, n above 16,777,215
    (refused 7, out) when ltb most_vertices n else
    -- 6, not steady
    (refused 6, out) when not (steady n ws) else
    -- 3, output too short
    (refused 3, out) when ltb (length out) (length result) else
    (done (length result ∷ []), over result out)
