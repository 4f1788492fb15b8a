-- Section 4 of 01: the length prefix of a record. LEB128: seven bits a byte, low group first, 128 added on all but the last.
use Rattle.std.specs.Prelude.{ℕ, zero, suc, ◌+◌, ◌-◌, ◌*◌, ◌/◌, ◌%◌, ◌^◌, Bool, true, false, not, cond, ◌||◌, Result, Ok, Err, List, [], ◌∷◌, ltb, eqb, length}
use Rattle.base.specs.Tests.{◌when◌else◌}
use Rattle.base.specs.Answers.{Answer, refused, done, number_of}
use Rattle.base.specs.Parts.{over}
use Rattle.base.specs.declared.Refusal.{Refusal}
use Rattle.codec.specs.declared.prefix.Prefix.{Prefix}

-- n in at most k groups, 128 added on all but the last
unfoldable pub leb_in : ℕ → ℕ → List ℕ
leb_in zero n = []
leb_in (suc k) n = cond (ltb n 128) (n ∷ []) ((n % 128 + 128) ∷ leb_in k (n / 128))

-- a record's length prefix
unfoldable pub prefix_of : ℕ → List ℕ
prefix_of n = leb_in 5 n

-- what reading a prefix answers: a number and the bytes behind it, that the bytes end first, or no written form
pub data ReadLeb : Type 0 where
  whole : ℕ → List ℕ → ReadLeb
  cut : ReadLeb
  bad : ReadLeb

abbrev pub lift : ℕ → ℕ → ReadLeb → ReadLeb
lift low scale (whole n rest) = whole (low + scale * n) rest
lift low scale cut = cut
lift low scale bad = bad

-- at most k groups; a last group of 0 stands only first
unfoldable pub read_leb : ℕ → Bool → List ℕ → ReadLeb
read_leb zero first bytes = bad
read_leb (suc k) first [] = cut
read_leb (suc k) first (b ∷ bytes) = cond (ltb b 128) (cond (first || not (eqb b 0)) (whole b bytes) bad) (lift (b % 128) 128 (read_leb k false bytes))

abbrev pub narrow : ReadLeb → ReadLeb
narrow (whole n rest) = cond (ltb n (2 ^ 32)) (whole n rest) bad
narrow cut = cut
narrow bad = bad

unfoldable pub read_prefix : List ℕ → ReadLeb
read_prefix bytes = narrow (read_leb 5 true bytes)

-- ---- what the functions answer

-- a prefix in the numbers of 01: its value and its length, or its refusal
abbrev pub of_prefix : Result Prefix Refusal → Answer
of_prefix (Ok p) = done (p.value ∷ p.len ∷ [])
of_prefix (Err r) = refused (number_of r)

-- read prefix, by what is read of `total` bytes; 80 is hexadecimal, as in 01
abbrev pub prefix_in : ℕ → ReadLeb → Answer
prefix_in total (whole n rest) = done (n ∷ (total - length rest) ∷ [])
-- 4, the input has fewer than five bytes, none below 80
prefix_in total cut = refused 4
-- 5, its first five all 80 or more, a needless last zero group, or a value above 4,294,967,295
prefix_in total bad = refused 5

-- write prefix: the bytes written
unfoldable pub write_prefix : ℕ → List ℕ → Answer × List ℕ
write_prefix n out =
    -- 3, output too short
    (refused 3, out) when ltb (length out) (length (prefix_of n)) else
    (done (length (prefix_of n) ∷ []), over (prefix_of n) out)
