-- The smallest inputs that tell readings of section 6 apart, with a = 5 and b = 7: computed, in one theorem. The marked cases are in Starred.
use Prim.Native.Nat.{ℕ}
use mathlib.Core.Path.{◌≡◌, refl}
use mathlib.Core.Bool.{true, false}
use mathlib.Core.List.{List, [], ◌∷◌}
use Rattle.base.specs.Tests.{◌when◌else◌}
use Rattle.base.specs.Answers.{Answer, refused, done}
use Rattle.base.specs.Parts.{over}
use Rattle.codec.specs.Flat.{flat}
use Rattle.codec.specs.Prefix.{leb_in, prefix_of, read_leb, read_prefix}
use Rattle.runs.specs.Words.{pack}
use Rattle.runs.specs.Colours.{colours}
use Rattle.runs.specs.Orders.{rises, steady, climbs, sharp, list_into}
use Rattle.runs.specs.Reverse.{reverse_runs, reverse_into, reverse_in_place}
use Rattle.runs.specs.Merge.{merge, merge_behind, merge_into}
use Rattle.runs.specs.Append.{shifted, appendix, append_runs, bad_counts, joinable, result_into, append_into}
use Rattle.runs.specs.Rotate.{changes, firsts, runs_at, merged, rotate_runs, rotate_into}
use Rattle.runs.specs.Bytes.{le_bytes, le_value, run_bytes, words, after_count, read_runs, write_runs, given_in, read_runs_into, write_rotated}

-- (0,a)(4,b)
abbrev first : List ℕ
first = pack 0 5 ∷ pack 4 7 ∷ []

-- (0,a)
abbrev one : List ℕ
one = pack 0 5 ∷ []

-- (0,a)(1,a)(2,b)(3,b)
abbrev fine : List ℕ
fine = pack 0 5 ∷ pack 1 5 ∷ pack 2 7 ∷ pack 3 7 ∷ []

-- an output with room for three runs
abbrev three : List ℕ
three = 1 ∷ 2 ∷ 3 ∷ []

-- an output that has the run (0,a) and room for two more
abbrev grown : List ℕ
grown = pack 0 5 ∷ 2 ∷ 3 ∷ []

abbrev pub asked : List (Answer × List ℕ)
asked =
    -- reverse: a vertex count too large (7) before a list not steady (6), that before too little space (3); equal neighbours and runs of no vertices are kept; n = 0 with a nonzero offset
    reverse_into (pack 3 5 ∷ []) 16777216 []
    ∷ reverse_into (pack 3 5 ∷ []) 5 []
    ∷ reverse_into first 10 one
    ∷ reverse_into (pack 0 5 ∷ pack 4 5 ∷ pack 4 7 ∷ []) 4 three
    ∷ reverse_into first 0 three
    ∷ reverse_in_place first 10
    -- rotate: room for the merged list is enough; a run at the vertex count has no vertex and is not there; no vertices, no runs
    ∷ rotate_into (pack 0 5 ∷ pack 4 5 ∷ []) 10 4 false one
    ∷ rotate_into first 10 2 false one
    ∷ rotate_into (pack 0 5 ∷ pack 1 7 ∷ []) 1 0 false one
    ∷ rotate_into (pack 0 5 ∷ pack 1 7 ∷ []) 1 0 true one
    ∷ rotate_into (pack 0 5 ∷ pack 0 7 ∷ []) 0 3 false []
    ∷ rotate_into [] 10 3 false []
    ∷ rotate_into first 10 3 true three
    -- append: too many runs said (3) before a count outside its limits (7), that before a list not admitted (6), the output before the piece; a list that ends at its count
    ∷ append_into [] 1 0 [] 0 false
    ∷ append_into [] 0 0 one 3 false
    ∷ append_into grown 1 16777215 one 2 false
    ∷ append_into (pack 0 5 ∷ pack 3 7 ∷ []) 2 3 one 2 false
    ∷ append_into grown 1 3 [] 5 false
    ∷ append_into (pack 0 5 ∷ []) 1 3 (pack 0 7 ∷ []) 5 false
    -- append (request F-9): the output's own runs stay, equal ones too; the smallest pieces that the reference doesn't merge; 3 by the merged runs, and with one place more; two records of one worker
    ∷ append_into (pack 0 5 ∷ pack 1 7 ∷ 2 ∷ []) 2 2 (pack 0 5 ∷ []) 1 false
    ∷ append_into (pack 0 5 ∷ pack 1 5 ∷ 2 ∷ []) 2 2 (pack 0 5 ∷ pack 1 7 ∷ []) 2 false
    ∷ append_into one 1 1 (pack 0 5 ∷ pack 1 5 ∷ []) 2 false
    ∷ append_into (pack 0 5 ∷ 2 ∷ []) 1 1 (pack 0 7 ∷ pack 1 7 ∷ []) 2 true
    ∷ append_into (pack 0 5 ∷ []) 1 1 (pack 0 7 ∷ pack 1 7 ∷ []) 2 false
    ∷ append_into (pack 0 2 ∷ 2 ∷ []) 1 1 (pack 0 2 ∷ pack 1 258 ∷ []) 2 false
    -- merge: 7 before 6, that before 3; either way
    ∷ merge_into [] 16777216 false []
    ∷ merge_into (pack 0 5 ∷ pack 0 7 ∷ []) 5 false []
    ∷ merge_into fine 5 false one
    ∷ merge_into fine 5 false three
    ∷ merge_into fine 5 true three
    -- run bytes: cut counts and runs, a needless zero group, room for no run
    ∷ read_runs_into [] three
    ∷ read_runs_into (1 ∷ 4 ∷ 0 ∷ []) three
    ∷ read_runs_into (128 ∷ 0 ∷ []) three
    ∷ read_runs_into (1 ∷ 4 ∷ 0 ∷ 0 ∷ 2 ∷ 1 ∷ 0 ∷ 0 ∷ 0 ∷ 9 ∷ []) []
    ∷ read_runs_into (1 ∷ 4 ∷ 0 ∷ 0 ∷ 2 ∷ 1 ∷ 0 ∷ 0 ∷ 0 ∷ 9 ∷ []) three
    ∷ write_rotated (pack 0 258 ∷ []) 3 1 false (0 ∷ 0 ∷ 0 ∷ 0 ∷ 0 ∷ 0 ∷ 0 ∷ 0 ∷ 0 ∷ 9 ∷ [])
    ∷ []

abbrev pub answered : List (Answer × List ℕ)
answered =
    (refused 7, [])
    ∷ (refused 6, [])
    ∷ (refused 3, one)
    ∷ (done (3 ∷ []), pack 0 7 ∷ pack 0 5 ∷ pack 0 5 ∷ [])
    ∷ (refused 6, three)
    ∷ (done (2 ∷ []), pack 0 7 ∷ pack 6 5 ∷ [])
    ∷ (done (1 ∷ []), one)
    ∷ (refused 3, one)
    ∷ (done (1 ∷ []), one)
    ∷ (done (1 ∷ []), one)
    ∷ (done (0 ∷ []), [])
    ∷ (done (0 ∷ []), [])
    ∷ (done (3 ∷ []), pack 0 7 ∷ pack 3 5 ∷ pack 7 7 ∷ [])
    ∷ (refused 3, [])
    ∷ (refused 7, [])
    ∷ (refused 7, grown)
    ∷ (refused 6, pack 0 5 ∷ pack 3 7 ∷ [])
    ∷ (refused 6, grown)
    ∷ (refused 3, pack 0 5 ∷ [])
    ∷ (done (3 ∷ 2 ∷ []), pack 0 5 ∷ pack 1 7 ∷ pack 1 5 ∷ [])
    ∷ (done (3 ∷ 3 ∷ []), pack 0 5 ∷ pack 1 5 ∷ pack 2 7 ∷ [])
    ∷ (done (1 ∷ 2 ∷ []), one)
    ∷ (done (2 ∷ 2 ∷ []), pack 0 5 ∷ pack 0 7 ∷ [])
    ∷ (refused 3, pack 0 5 ∷ [])
    ∷ (done (2 ∷ 2 ∷ []), pack 0 2 ∷ pack 1 258 ∷ [])
    ∷ (refused 7, [])
    ∷ (refused 6, [])
    ∷ (refused 3, one)
    ∷ (done (2 ∷ []), pack 0 5 ∷ pack 2 7 ∷ 3 ∷ [])
    ∷ (done (2 ∷ []), pack 0 7 ∷ pack 3 5 ∷ 3 ∷ [])
    ∷ (refused 4, three)
    ∷ (refused 4, three)
    ∷ (refused 5, three)
    ∷ (refused 3, [])
    ∷ (done (1 ∷ 9 ∷ []), pack 4 258 ∷ 2 ∷ 3 ∷ [])
    ∷ (done (9 ∷ []), 1 ∷ 0 ∷ 0 ∷ 0 ∷ 2 ∷ 1 ∷ 0 ∷ 0 ∷ 0 ∷ 9 ∷ [])
    ∷ []

pub readings : asked ≡ answered
unfolding
    ◌when◌else◌ over flat leb_in prefix_of read_leb read_prefix colours rises steady climbs sharp list_into reverse_runs reverse_in_place merge merge_into shifted merge_behind appendix append_runs bad_counts joinable result_into append_into changes firsts runs_at merged rotate_runs
    le_bytes le_value run_bytes words after_count read_runs write_runs given_in write_rotated
readings = refl
