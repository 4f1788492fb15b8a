-- Section 6 of 01: run bytes. A LEB128 count, then 8 bytes a run, low first.
use Rattle.std.specs.Prelude.{ℕ, zero, suc, ◌+◌, ◌-◌, ◌*◌, ◌/◌, ◌%◌, Bool, not, List, [], ◌∷◌, ◌++◌, length, take, drop, leb, ltb, Result, Ok, Err}
use Rattle.base.specs.Tests.{◌when◌else◌}
use Rattle.base.specs.Answers.{Answer, refused, done, number_of}
use Rattle.base.specs.Parts.{over}
use Rattle.codec.specs.Flat.{flat}
use Rattle.codec.specs.Prefix.{prefix_of, ReadLeb, whole, cut, bad, read_prefix}
use Rattle.runs.specs.Colours.{colour_at}
use Rattle.runs.specs.Orders.{most_vertices, steady, sharp}
use Rattle.runs.specs.Rotate.{rotate_runs}
use Rattle.base.specs.declared.Refusal.{Refusal}

-- the low k bytes of a number, low first, and the number that bytes give
unfoldable pub le_bytes : ℕ → ℕ → List ℕ
le_bytes zero w = []
le_bytes (suc k) w = w % 256 ∷ le_bytes k (w / 256)

unfoldable pub le_value : List ℕ → ℕ
le_value [] = 0
le_value (b ∷ bs) = b + 256 * le_value bs

unfoldable pub run_bytes : List ℕ → List ℕ
run_bytes ws = prefix_of (length ws) ++ flat (le_bytes 8) ws

-- the first k runs of bytes
unfoldable pub words : ℕ → List ℕ → List ℕ
words zero bytes = []
words (suc k) bytes = le_value (take 8 bytes) ∷ words k (drop 8 bytes)

-- what reading runs finds: the runs and the bytes behind them, that bytes are missing, or a count of no written form
pub data ReadRuns : Type 0 where
  found : List ℕ → List ℕ → ReadRuns
  short : ReadRuns
  damaged : ReadRuns

unfoldable pub after_count : ReadLeb → ReadRuns
after_count (whole k rest) = short when ltb (length rest) (8 * k) else found (words k rest) (drop (8 * k) rest)
after_count cut = short
after_count bad = damaged

unfoldable pub read_runs : List ℕ → ReadRuns
read_runs bytes = after_count (read_prefix bytes)

-- ---- what the functions answer

-- write runs: the bytes written
unfoldable pub write_runs : List ℕ → List ℕ → Answer × List ℕ
write_runs ws out =
    -- 6, more than 4,294,967,295 runs
    (refused 6, out) when ltb 4294967295 (length ws) else
    -- 3, output too short
    (refused 3, out) when ltb (length out) (length (run_bytes ws)) else
    (done (length (run_bytes ws) ∷ []), over (run_bytes ws) out)

-- read runs, by what was found in `total` bytes: the runs given and the bytes taken
unfoldable pub given_in : ℕ → ReadRuns → List ℕ → Answer × List ℕ
given_in total (found ws rest) out =
    -- 3, output too short
    (refused 3, out) when ltb (length out) (length ws) else
    (done (length ws ∷ (total - length rest) ∷ []), over ws out)
-- 4, of the prefix, or runs cut short
given_in total short out = (refused 4, out)
-- 5, of the prefix
given_in total damaged out = (refused 5, out)

abbrev pub read_runs_into : List ℕ → List ℕ → Answer × List ℕ
read_runs_into bytes out = given_in (length bytes) (read_runs bytes) out

-- the turned cycle as run bytes: rotate's refusals, then what writing the runs answers
unfoldable pub write_rotated : List ℕ → ℕ → ℕ → Bool → List ℕ → Answer × List ℕ
write_rotated ws n pivot reversed out =
    -- 7, n above 16,777,215
    (refused 7, out) when ltb most_vertices n else
    -- 6, not steady
    (refused 6, out) when not (steady n ws) else
    write_runs (rotate_runs n pivot reversed ws) out

-- ---- the coordinate of a vertex

-- in the numbers of 01
abbrev pub of_colored : Result ℕ Refusal → Answer
of_colored (Ok coord) = done (coord ∷ [])
of_colored (Err r) = refused (number_of r)

-- by the list that is found in run bytes
unfoldable pub sharp_colour_in : ℕ → ℕ → ReadRuns → Answer
sharp_colour_in n vertex (found ws rest) =
    -- 6, not sharp
    refused 6 when not (sharp n ws) else
    done (colour_at vertex ws ∷ [])
-- 4 and 5 as in read runs
sharp_colour_in n vertex short = refused 4
sharp_colour_in n vertex damaged = refused 5

-- the coordinate of a vertex of n, by the run bytes of a list that is sharp for n
unfoldable pub sharp_colour : ℕ → ℕ → List ℕ → Answer
sharp_colour n vertex bytes =
    -- 14, no such vertex
    refused 14 when leb n vertex else
    sharp_colour_in n vertex (read_runs bytes)
