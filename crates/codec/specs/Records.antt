-- Section 4 of 01: records, files of them, and what writing and reading one answers.
use Rattle.std.specs.Prelude.{ℕ, ◌-◌, Bool, true, false, not, cond, ◌||◌, ◌&&◌, List, [], ◌∷◌, ◌++◌, length, take, drop, leb, ltb, eqb, Result, Ok, Err}
use Rattle.base.specs.Tests.{◌when◌else◌}
use Rattle.base.specs.Answers.{Answer, refused, done}
use Rattle.base.specs.Parts.{over}
use Rattle.base.specs.declared.Refusal.{Refusal}
use Rattle.base.specs.declared.Refusal.TheVariants.{Colors, Ids}
use Rattle.codec.specs.Prefix.{prefix_of, ReadLeb, whole, cut, bad, read_prefix}
use Rattle.codec.specs.Flat.{flat}
use Rattle.codec.specs.Sets.{within, encode_set, Decoded, set, no_set, decode_set}

-- the payload's length, then the payload
unfoldable pub record_of : ℕ → List ℕ → List ℕ
record_of N ids = prefix_of (length (encode_set N ids)) ++ encode_set N ids

-- the record file of a list of sets
abbrev pub file_of : ℕ → List (List ℕ) → List ℕ
file_of N sets = flat (record_of N) sets

-- what reading a record finds: a set and the bytes behind it, that bytes are missing, or that they are no written form
pub data ReadRecord : Type 0 where
  found : List ℕ → List ℕ → ReadRecord
  short : ReadRecord
  damaged : ReadRecord

abbrev pub payload_set : Decoded → List ℕ → ReadRecord
payload_set (set ids) rest = found ids rest
payload_set no_set rest = damaged

abbrev pub after_prefix : ℕ → ReadLeb → ReadRecord
after_prefix N (whole n rest) = cond (leb n (length rest)) (payload_set (decode_set N (take n rest)) (drop n rest)) short
after_prefix N cut = short
after_prefix N bad = damaged

unfoldable pub read_record : ℕ → List ℕ → ReadRecord
read_record N bytes = after_prefix N (read_prefix bytes)

-- ---- what each operation answers, and what it leaves in the memory lent

-- N outside 1 to 1,048,576
unfoldable pub bad_colors : ℕ → Bool
bad_colors N = eqb N 0 || ltb 1048576 N

-- write record: the bytes written
unfoldable pub write_record : ℕ → List ℕ → List ℕ → Answer × List ℕ
write_record N ids out =
    -- 1, N outside 1 to 1,048,576
    (refused 1, out) when bad_colors N else
    -- 2, ids not strictly ascending or one not below N
    (refused 2, out) when not (within 0 N ids) else
    -- 3, output too short
    (refused 3, out) when ltb (length out) (length (record_of N ids)) else
    (done (length (record_of N ids) ∷ []), over (record_of N ids) out)

-- measure a set: the colour count and the ids, once they are known to be a set
unfoldable pub measured : ℕ → List ℕ → Result (ℕ × List ℕ) Refusal
measured N ids =
    -- 1, N outside 1 to 1,048,576
    Err Colors when bad_colors N else
    -- 2, ids not strictly ascending or one not below N
    Err Ids when not (within 0 N ids) else
    Ok (N, ids)

-- how long the record is: its bytes
unfoldable pub record_length : ℕ → List ℕ → Answer
record_length N ids =
    -- 1, N outside 1 to 1,048,576
    refused 1 when bad_colors N else
    -- 2, ids not strictly ascending or one not below N
    refused 2 when not (within 0 N ids) else
    done (length (record_of N ids) ∷ [])

-- read record, by what was found in `total` bytes: the ids given and the bytes taken
unfoldable pub read_by : ReadRecord → ℕ → List ℕ → Answer × List ℕ
-- 4, of the prefix, or fewer than L bytes left
read_by short total out = (refused 4, out)
-- 5, of the prefix, or payload of no set
read_by damaged total out = (refused 5, out)
read_by (found ids rest) total out =
    -- 3, output too short
    (refused 3, out) when ltb (length out) (length ids) else
    (done (length ids ∷ (total - length rest) ∷ []), over ids out)

-- read record
unfoldable pub read_into : ℕ → List ℕ → List ℕ → Answer × List ℕ
read_into N input out =
    -- 1, N outside 1 to 1,048,576
    (refused 1, out) when bad_colors N else
    read_by (read_record N input) (length input) out

-- two lists of numbers are the same
unfoldable pub same : List ℕ → List ℕ → Bool
same [] [] = true
same [] (y ∷ ys) = false
same (x ∷ xs) [] = false
same (x ∷ xs) (y ∷ ys) = eqb x y && same xs ys

abbrev pub gives_ids : ReadRecord → List ℕ → Bool
gives_ids (found js rest) ids = same js ids
gives_ids short ids = false
gives_ids damaged ids = false

-- whether reading the input, with space enough, gives exactly these ids
unfoldable pub is_record : ℕ → List ℕ → List ℕ → Bool
is_record N ids input = false when bad_colors N else gives_ids (read_record N input) ids
