-- Request F-10, one file, one history: for a fixed colour count, a record file is the beginning of another exactly when its list of sets is the beginning of the other's list.
--
-- Why it is true: reading tells the set that a record was written of and where the record ends, whatever stands behind it. The prefix says how many bytes the payload has, and
-- the reader takes a payload for the one set that is written so. Two files of which one begins the other therefore begin with the same set, and behind its record they are again
-- two such files (`record_free`).
--
-- Why N is fixed: 01 12 is the record of {1} of two colours and of {0} of three (`colours_tell`). It is the smallest pair that a search finds (host/model/tests/history.rs).
-- Why the ids are below N: four colours have no bit for the ids 4 and 5 (`below_tells`).
use Rattle.std.specs.Prelude.{ℕ, ◌≤◌, ◌≡◌, ◌↔◌}
use mathlib.Core.List.{List, [], ◌∷◌, IsPrefix}
use Rattle.codec.specs.Records.{file_of}
use Rattle.codec.specs.Sets.{Within}

-- sets of N colours: each strictly ascending below N, the empty set included
abbrev pub Sets : ℕ → List (List ℕ) → Type 0
Sets N [] = Unit {0}
Sets N (s ∷ sets) = Within 0 N s × Sets N sets

-- what the bytes of two files tell of their lists of sets; IsPrefix xs ys: for some t, xs ++ t is ys
pub record OneHistory (file other : List ℕ) (S T : List (List ℕ)) : Type 0 where
  -- the one is the beginning of the other, in bytes and in sets
  pub begins : IsPrefix file other ↔ IsPrefix S T
  -- equal bytes mean equal lists
  pub equal : file ≡ other ↔ S ≡ T
  -- the empty file belongs to the empty list alone
  pub empty : file ≡ [] ↔ S ≡ []

-- the claim, of all record files
abbrev pub FilesOneHistoryStatement : Type 0
FilesOneHistoryStatement =
    (N : ℕ) → 1 ≤ N → N ≤ 1048576 → (S T : List (List ℕ)) → Sets N S → Sets N T
    → OneHistory (file_of N S) (file_of N T) S T
