-- Section 5 of 01: the index of a record file. The start of each record, and the end of the last.
use Rattle.std.specs.Prelude.{ℕ, zero, suc, ◌+◌, ◌-◌, cond, List, [], ◌∷◌, length, drop, leb, ltb}
use Rattle.base.specs.Tests.{◌when◌else◌}
use Rattle.base.specs.Answers.{Answer, refused, done}
use Rattle.base.specs.Parts.{over}
use Rattle.codec.specs.Prefix.{ReadLeb, whole, cut, bad, read_prefix}

-- the entries of an index, or the number of the refusal that the first bad record gives
pub data Indexed : Type 0 where
  entries : List ℕ → Indexed
  stopped : ℕ → Indexed

abbrev pub and_entry : ℕ → Indexed → Indexed
and_entry at (entries es) = entries (at ∷ es)
and_entry at (stopped n) = stopped n

-- by what the prefix at `at` says: go on behind the payload, which is not looked at
abbrev pub behind : (ℕ → List ℕ → Indexed) → ℕ → ℕ → ReadLeb → Indexed
-- 4 for a cut payload
behind go at left (whole n rest) = cond (leb n (length rest)) (and_entry at (go (at + (left - length rest) + n) (drop n rest))) (stopped 4)
-- 4 or 5 of the prefix
behind go at left cut = stopped 4
behind go at left bad = stopped 5

-- `count` records from `at` on, where `bytes` begin
unfoldable pub index_from : ℕ → ℕ → List ℕ → Indexed
index_from zero at bytes = entries (at ∷ [])
index_from (suc count) at bytes = behind (λ next rest. index_from count next rest) at (length bytes) (read_prefix bytes)

unfoldable pub index_of : ℕ → List ℕ → Indexed
index_of count bytes = index_from count 0 bytes

abbrev pub index_by : Indexed → List ℕ → Answer × List ℕ
index_by (entries es) out = (done [], over es out)
index_by (stopped n) out = (refused n, out)

-- make index: nothing more than that it was made
unfoldable pub make_index : ℕ → List ℕ → List ℕ → Answer × List ℕ
make_index count bytes out =
    -- 3, fewer than count + 1 entries
    (refused 3, out) when ltb (length out) (count + 1) else
    index_by (index_of count bytes) out
