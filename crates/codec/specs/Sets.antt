-- Section 3 of 01: sets. Ids below N as bits, and the payload of a record.
use Rattle.std.specs.Prelude.{ℕ, zero, suc, ◌+◌, ◌-◌, ◌*◌, ◌/◌, ◌≤◌, ◌<◌, Bool, true, false, not, cond, ◌&&◌, List, [], ◌∷◌, ◌++◌, map, length, take, drop, leb, ltb, eqb}
use Rattle.codec.specs.Bits.{bits_of, pack_bits}
use Rattle.codec.specs.Codes.{delta, Read, got, end, read_delta}

-- strictly ascending ids, from `from` on and below `top`
abbrev pub Within : ℕ → ℕ → List ℕ → Type 0
Within from top [] = Unit {0}
Within from top (x ∷ xs) = (from ≤ x) × (x < top) × Within (x + 1) top xs

-- n bits: bit i tells whether from + i is among the ascending ids
abbrev pub heads : ℕ → List ℕ → Bool
heads from [] = false
heads from (x ∷ xs) = eqb from x

abbrev pub past : ℕ → List ℕ → List ℕ
past from [] = []
past from (x ∷ xs) = cond (eqb from x) xs (x ∷ xs)

unfoldable pub map_bits : ℕ → ℕ → List ℕ → List Bool
map_bits from zero ids = []
map_bits from (suc n) ids = heads from ids ∷ map_bits (from + 1) n (past from ids)

-- the ids that the bits tell
unfoldable pub ids_of : ℕ → List Bool → List ℕ
ids_of from [] = []
ids_of from (true ∷ bits) = from ∷ ids_of (from + 1) bits
ids_of from (false ∷ bits) = ids_of (from + 1) bits

-- the ids below N that are not among these
unfoldable pub absent : ℕ → List ℕ → List ℕ
absent N ids = ids_of 0 (map not (map_bits 0 N ids))

-- each id as its distance from the least that it can be
unfoldable pub gap_bits : ℕ → List ℕ → List Bool
gap_bits from [] = []
gap_bits from (x ∷ xs) = delta (x - from) ++ gap_bits (x + 1) xs

-- by the number of ids: sparse below N/4, else a bitmap below 3N/4, else dense
pub data Regime : Type 0 where
  empty sparse bitmap dense : Regime

unfoldable pub regime : ℕ → ℕ → Regime
regime N zero = empty
regime N (suc n) = cond (ltb (suc n) (N / 4)) sparse (cond (ltb (suc n) (3 * N / 4)) bitmap dense)

abbrev pub body_bits : Regime → ℕ → List ℕ → List Bool
body_bits empty N ids = []
body_bits sparse N ids = gap_bits 0 ids
body_bits bitmap N ids = map_bits 0 N ids
body_bits dense N ids = gap_bits 0 (absent N ids)

unfoldable pub set_bits : ℕ → List ℕ → List Bool
set_bits N ids = delta (length ids) ++ body_bits (regime N (length ids)) N ids

-- the payload of a set's record
unfoldable pub encode_set : ℕ → List ℕ → List ℕ
encode_set N ids = pack_bits (set_bits N ids)

-- what reading ids answers: the ids and the bits behind them, or none
pub data ReadIds : Type 0 where
  given : List ℕ → List Bool → ReadIds
  none : ReadIds

abbrev pub then_id : ℕ → ReadIds → ReadIds
then_id x (given xs rest) = given (x ∷ xs) rest
then_id x none = none

abbrev pub and_ids : Read → (ℕ → List Bool → ReadIds) → ReadIds
and_ids (got v rest) f = f v rest
and_ids end f = none

-- n ids below `top`, coded as distances
unfoldable pub read_gaps : ℕ → ℕ → ℕ → List Bool → ReadIds
read_gaps zero from top bits = given [] bits
read_gaps (suc n) from top bits =
    and_ids (read_delta bits) (λ g rest. cond (ltb (from + g) top) (then_id (from + g) (read_gaps n (from + g + 1) top rest)) none)

-- N bits that tell `len` ids
unfoldable pub read_map : ℕ → ℕ → List Bool → ReadIds
read_map N len bits = cond (leb N (length bits) && eqb (length (ids_of 0 (take N bits))) len) (given (ids_of 0 (take N bits)) (drop N bits)) none

-- the ids below N that those read leave out
abbrev pub left_out : ℕ → ReadIds → ReadIds
left_out N (given xs rest) = given (absent N xs) rest
left_out N none = none

abbrev pub read_body : Regime → ℕ → ℕ → List Bool → ReadIds
read_body empty N len bits = given [] bits
read_body sparse N len bits = read_gaps len 0 N bits
read_body bitmap N len bits = read_map N len bits
read_body dense N len bits = cond (leb len N) (left_out N (read_gaps (N - len) 0 N bits)) none

unfoldable pub read_set : ℕ → List Bool → ReadIds
read_set N bits = and_ids (read_delta bits) (λ len rest. read_body (regime N len) N len rest)

-- padding: fewer than eight bits, all 0
unfoldable pub padding : List Bool → Bool
padding [] = true
padding (false ∷ bits) = padding bits
padding (true ∷ bits) = false

-- the set whose payload this is
pub data Decoded : Type 0 where
  set : List ℕ → Decoded
  no_set : Decoded

abbrev pub padded : ReadIds → Decoded
padded (given xs rest) = cond (ltb (length rest) 8 && padding rest) (set xs) no_set
padded none = no_set

unfoldable pub decode_set : ℕ → List ℕ → Decoded
decode_set N payload = padded (read_set N (bits_of payload))

-- whether the ids ascend strictly, from `from` on and below `top`
unfoldable pub within : ℕ → ℕ → List ℕ → Bool
within from top [] = true
within from top (x ∷ xs) = leb from x && ltb x top && within (x + 1) top xs
