-- The bench cases of 01 that are marked *, computed of the definitions in one table: what an operation answers and leaves in the output lent to it, beside what 01 says. Two
-- more cases pin the limits between the regimes.
use Prim.Native.Nat.{ℕ}
use mathlib.Core.Path.{◌≡◌, refl}
use mathlib.Core.Bool.{true, false}
use mathlib.Core.List.{List, [], ◌∷◌, map}
use lib.ListN.{length, replicate}
use Rattle.base.specs.Tests.{◌when◌else◌}
use Rattle.base.specs.Answers.{Answer, done}
use Rattle.base.specs.Parts.{over}
use Rattle.codec.specs.Bits.{pack_bits, pack_bytes, value_of, low_bits}
use Rattle.codec.specs.Codes.{delta, gamma, high_bit, high_in}
use Rattle.codec.specs.Prefix.{leb_in, prefix_of}
use Rattle.codec.specs.Sets.{map_bits, ids_of, absent, gap_bits, regime, set_bits, encode_set, within}
use Rattle.codec.specs.Records.{record_of, bad_colors, write_record}
use Rattle.codec.specs.Flat.{flat}
use Rattle.runs.specs.Words.{pack}
use Rattle.runs.specs.Colours.{colours}
use Rattle.runs.specs.Orders.{rises, steady, climbs, sharp, list_into}
use Rattle.runs.specs.Reverse.{reverse_runs, reverse_into}
use Rattle.runs.specs.Merge.{merge_behind}
use Rattle.runs.specs.Append.{shifted, appendix, append_runs, bad_counts, joinable, result_into, append_into}
use Rattle.runs.specs.Rotate.{changes, firsts, runs_at, merged, rotate_runs, rotate_into}
use Rattle.runs.specs.Bytes.{le_bytes, run_bytes, write_runs}

-- an operation's answer and output
abbrev Result : Type 0
Result = Answer × List ℕ

-- what is computed, and what is expected
pub record Case : Type 0 where
  pub computed : Result
  pub expected : Result

-- room for so many bytes or runs
abbrev room : ℕ → List ℕ
room k = replicate k 0

-- a set of N colours and its record
abbrev written : ℕ → List ℕ → List ℕ → Case
written N ids bytes = record { computed = write_record N ids (room (length bytes)); expected = (done (length bytes ∷ []), bytes) }

-- a list that an operation makes
abbrev makes : Result → List ℕ → Case
makes r ws = record { computed = r; expected = (done (length ws ∷ []), ws) }

-- a list of so many vertices that append leaves
abbrev appends : Result → List ℕ → ℕ → Case
appends r ws vertices = record { computed = r; expected = (done (length ws ∷ vertices ∷ []), ws) }

-- two coordinates
abbrev a : ℕ
a = 5

abbrev b : ℕ
b = 7

-- (0,a)(4,b)
abbrev first : List ℕ
first = pack 0 a ∷ pack 4 b ∷ []

-- (0,a), with room for one run more
abbrev output : List ℕ
output = pack 0 a ∷ 0 ∷ []

abbrev pub table : List Case
table =
    -- N = 8
    written 8 [] (0x01 ∷ 0x01 ∷ [])
    ∷ written 8 (5 ∷ []) (0x02 ∷ 0x62 ∷ 0x01 ∷ [])
    ∷ written 8 (0 ∷ 7 ∷ []) (0x02 ∷ 0x1A ∷ 0x08 ∷ [])
    ∷ written 8 (0 ∷ 1 ∷ 2 ∷ 3 ∷ 4 ∷ []) (0x02 ∷ 0xF6 ∷ 0x03 ∷ [])
    ∷ written 8 (0 ∷ 1 ∷ 2 ∷ 4 ∷ 5 ∷ 6 ∷ []) (0x02 ∷ 0xDE ∷ 0x18 ∷ [])
    ∷ written 8 (0 ∷ 1 ∷ 2 ∷ 3 ∷ 4 ∷ 5 ∷ 6 ∷ 7 ∷ []) (0x01 ∷ 0x24 ∷ [])
    -- N = 1
    ∷ written 1 (0 ∷ []) (0x01 ∷ 0x02 ∷ [])
    -- N = 7, {3} is a bitmap, since 1 isn't below 7/4 = 1: delta(1) is 0100, then the seven bits 0001000
    ∷ written 7 (3 ∷ []) (0x02 ∷ 0x82 ∷ 0x00 ∷ [])
    -- N = 5, {0,1,2} is dense, since 3 isn't below 15/4 = 3: delta(3) is gamma(2), 011, and the low two bits of 4, 00; then the absent ids 3 and 4 as sparse ids are, delta(3),
    -- again 01100, and delta(4 - 3 - 1), 1; so 01100011 001, lowest first, which is C6 04
    ∷ written 5 (0 ∷ 1 ∷ 2 ∷ []) (0x02 ∷ 0xC6 ∷ 0x04 ∷ [])
    -- (4, 258) as bytes, behind the count 1
    ∷ record { computed = write_runs (pack 4 258 ∷ []) (room 9); expected = (done (9 ∷ []), 0x01 ∷ 0x04 ∷ 0x00 ∷ 0x00 ∷ 0x02 ∷ 0x01 ∷ 0x00 ∷ 0x00 ∷ 0x00 ∷ []) }
    -- the first list reversed
    ∷ makes (reverse_into first 10 (room 2)) (pack 0 b ∷ pack 6 a ∷ [])
    -- turned by 4, by 14 and by 2
    ∷ makes (rotate_into first 10 4 false (room 2)) (pack 0 b ∷ pack 6 a ∷ [])
    ∷ makes (rotate_into first 10 14 false (room 2)) (pack 0 b ∷ pack 6 a ∷ [])
    ∷ makes (rotate_into first 10 2 false (room 3)) (pack 0 a ∷ pack 2 b ∷ pack 8 a ∷ [])
    -- (0,a), count 3, with (0,a)(2,b), n = 5
    ∷ appends (append_into output 1 3 (pack 0 a ∷ pack 2 b ∷ []) 5 false) (pack 0 a ∷ pack 4 b ∷ []) 7
    -- with (0,b)(2,a) reversed
    ∷ appends (append_into output 1 3 (pack 0 b ∷ pack 2 a ∷ []) 5 true) (pack 0 a ∷ pack 5 b ∷ []) 7
    -- (0,a), count 1, with (0,b), n = 2
    ∷ appends (append_into output 1 1 (pack 0 b ∷ []) 2 false) (pack 0 a ∷ pack 0 b ∷ []) 2
    ∷ []

pub starred : map (λ (c : Case). c.computed) table ≡ map (λ (c : Case). c.expected) table
unfolding
    ◌when◌else◌ over pack_bits pack_bytes value_of low_bits delta gamma high_bit high_in leb_in prefix_of map_bits ids_of absent gap_bits regime set_bits encode_set within record_of bad_colors write_record flat colours rises steady climbs sharp list_into
    reverse_runs shifted merge_behind appendix append_runs bad_counts joinable result_into append_into changes firsts runs_at merged rotate_runs le_bytes run_bytes write_runs
starred = refl
