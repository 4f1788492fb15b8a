-- Ids coded as distances, one at a time: what a cursor has yet to give, and what a reader finds.
use Rattle.std.specs.Prelude.{ℕ, zero, suc, ◌+◌, ◌-◌, ◌*◌, ◌≤◌, ◌<◌, ◌≡◌, Bool, true, false, not, Option, Some, None, List, [], ◌∷◌, ◌++◌, map, length, take, drop, get_or, eqb}
use Rattle.base.specs.Parts.{over}
use Rattle.codec.specs.Bits.{bits_of, digit}
use Rattle.codec.specs.Sets.{Within, map_bits, ids_of, absent, gap_bits, ReadIds, given, none}
use Rattle.codec.specs.Inside.Writers.{Wrote}
use Rattle.codec.specs.declared.bits.BitWriter.{BitWriter}
use Rattle.codec.specs.declared.colors.ColorSet.{ColorSet}
use Rattle.codec.specs.declared.gaps.Cursor.{Cursor}
use Rattle.codec.specs.declared.gaps.NextBits.{NextBits}
use Rattle.codec.specs.declared.gaps.NextId.{NextId}

-- the ids that a set codes as distances: its own, or, of a dense set, those absent
unfoldable pub coded_ids : Bool → ℕ → List ℕ → List ℕ
coded_ids false N ids = ids
coded_ids true N ids = absent N ids

-- the ids from `from` on, `count` candidates, that are not among these
unfoldable pub absent_from : ℕ → ℕ → List ℕ → List ℕ
absent_from from count ids = ids_of from (map not (map_bits from count ids))

-- those that a cursor has yet to give
unfoldable pub coded_from : Bool → ℕ → List ℕ → Cursor → List ℕ
coded_from false N ids c = drop c.i ids
coded_from true N ids c = absent_from c.from (N - c.from) (drop c.i ids)

-- a cursor whose ids ahead lie from its place on
pub record Ahead (N : ℕ) (ids : List ℕ) (c : Cursor) : Type 0 where
  pub inside : c.i ≤ length ids
  pub below : c.from ≤ N
  pub left : Within c.from N (drop c.i ids)

-- how many of w ids from place i on are as far above `from` as they are behind that place
unfoldable pub up_in : List ℕ → ℕ → ℕ → ℕ → ℕ
up_in ids i from zero = 0
up_in ids i from (suc w) = up_in ids i from w + digit (eqb (get_or ids (i + w) 0) (from + w))

-- the k ids from place i on go up by one from `from`
pub record Skipped (N : ℕ) (ids : List ℕ) (i from k : ℕ) : Type 0 where
  pub inside : i + k ≤ length ids
  pub below : from + k ≤ N
  pub left : Within (from + k) N (drop (i + k) ids)
  pub same : absent_from from (N - from) (drop i ids) ≡ absent_from (from + k) (N - (from + k)) (drop (i + k) ids)

-- the next id and the cursor behind it, or the end
abbrev pub Gave : Bool → ℕ → List ℕ → Cursor → Option NextId → Type 0
Gave dense N ids c (Some g) =
    (coded_from dense N ids c ≡ g.id ∷ coded_from dense N ids g.next) × (c.from ≤ g.id) × (g.id < N) × (g.next.from ≡ g.id + 1) × Ahead N ids g.next
Gave dense N ids c None = coded_from dense N ids c ≡ []

-- the absent ids below a cursor stand in the front of `room`: as many as numbers are passed and ids are not
pub record Listed (N : ℕ) (ids : List ℕ) (c : Cursor) (room : List ℕ) : Type 0 where
  pub ahead : Ahead N ids c
  pub passed : c.i ≤ c.from
  pub list : absent N ids ≡ take (c.from - c.i) room ++ absent_from c.from (N - c.from) (drop c.i ids)

-- a list of the absent ids, where there is one
abbrev pub AbsentIn : ℕ → List ℕ → Option ColorSet → Type 0
AbsentIn N ids (Some list) = list.ids.now ≡ absent N ids
AbsentIn N ids None = Unit {0}

-- k numbers from `from` on
unfoldable pub numbers : ℕ → ℕ → List ℕ
numbers from zero = []
numbers from (suc k) = from ∷ numbers (from + 1) k

-- the cursor behind the next eight ids, where they go up by one from its number; or nothing is said
abbrev pub GaveEight : Bool → ℕ → List ℕ → Cursor → Option Cursor → Type 0
GaveEight dense N ids c (Some next) = (coded_from dense N ids c ≡ numbers c.from 8 ++ coded_from dense N ids next) × (next.from ≡ c.from + 8) × Ahead N ids next
GaveEight dense N ids c None = Unit {0}

-- the bits of the ids that a cursor has yet to give
abbrev pub bits_from : Bool → ℕ → List ℕ → Cursor → List Bool
bits_from dense N ids c = gap_bits c.from (coded_from dense N ids c)

-- how many bits the next ids take, at most 29 for each number passed, and the cursor behind them; or there are none
abbrev pub CountedFrom : Bool → ℕ → List ℕ → Cursor → Option NextBits → Type 0
CountedFrom dense N ids c (Some part) =
    (bits : List Bool) × (length bits ≡ part.count) × (bits_from dense N ids c ≡ bits ++ bits_from dense N ids part.next) × (c.from < part.next.from) × (part.count + 29 * c.from ≤ 29 * part.next.from) × Ahead N ids part.next
CountedFrom dense N ids c None = bits_from dense N ids c ≡ []

-- the next ids written, and the cursor behind them; or all that were left
abbrev pub WroteFrom : Bool → ℕ → List ℕ → BitWriter → BitWriter → Cursor → Option Cursor → Type 0
WroteFrom dense N ids w r c (Some next) =
    (bits : List Bool) × Wrote w r bits × (bits_from dense N ids c ≡ bits ++ bits_from dense N ids next) × (c.from < next.from) × Ahead N ids next
WroteFrom dense N ids w r c None = Wrote w r (bits_from dense N ids c)

-- ---- readers

-- the ids of an answer
abbrev pub ids_in : ReadIds → List ℕ
ids_in (given xs rest) = xs
ids_in none = []

abbrev pub with_ids : List ℕ → ReadIds → ReadIds
with_ids xs (given ys rest) = given (xs ++ ys) rest
with_ids xs none = none

-- whether ids are read
abbrev pub is_given : ReadIds → Bool
is_given (given xs rest) = true
is_given none = false

-- the ids read stand in the front of what was lent for them, as many as fit
abbrev pub Put : ReadIds → List ℕ → List ℕ → Type 0
Put (given xs rest) old new = new ≡ over (take (length old) xs) old
Put none old new = Unit {0}

-- the n ids read, where they are, stand in the front of a buffer that has space for them
abbrev pub Kept : ReadIds → ℕ → List ℕ → Type 0
Kept r n room = is_given r ≡ true → n ≤ length room → take n room ≡ ids_in r

-- these bits stand at a place, and the place behind them; or they do not
abbrev pub BitsAt : List Bool → List ℕ → ℕ → Option ℕ → Type 0
BitsAt bits bytes at (Some next) = (drop at (bits_of bytes) ≡ bits ++ drop next (bits_of bytes)) × (next ≤ 8 * length bytes)
BitsAt bits bytes at None = ((rest : List Bool) → drop at (bits_of bytes) ≡ bits ++ rest → ⊥)
