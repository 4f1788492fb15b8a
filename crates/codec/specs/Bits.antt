-- Section 1 of 01: bits. Bit i of a stream is bit i mod 8 of byte i div 8, lowest first; the end is padded with zero bits to a byte.
use Rattle.std.specs.Prelude.{ℕ, zero, suc, ◌+◌, ◌*◌, ◌/◌, ◌%◌, ◌<◌, Bool, true, false, List, [], ◌∷◌, ◌++◌, length, take, drop, get_or}

-- a digit as a bit, and a bit as a digit
abbrev pub is_one : ℕ → Bool
is_one zero = false
is_one (suc n) = true

abbrev pub digit : Bool → ℕ
digit false = 0
digit true = 1

-- the low k bits of n, lowest first
unfoldable pub low_bits : ℕ → ℕ → List Bool
low_bits zero n = []
low_bits (suc k) n = is_one (n % 2) ∷ low_bits k (n / 2)

-- the number whose low bits these are
unfoldable pub value_of : List Bool → ℕ
value_of [] = 0
value_of (b ∷ bs) = digit b + 2 * value_of bs

-- the bits of a byte string: bit i is bit i % 8 of byte i / 8
unfoldable pub bits_of : List ℕ → List Bool
bits_of [] = []
bits_of (x ∷ xs) = low_bits 8 x ++ bits_of xs

-- the first n bytes of a bit string; bits past its end are 0
unfoldable pub pack_bytes : ℕ → List Bool → List ℕ
pack_bytes zero bits = []
pack_bytes (suc n) bits = value_of (take 8 bits) ∷ pack_bytes n (drop 8 bits)

-- as many bytes as hold the bits
abbrev pub bytes_for : ℕ → ℕ
bytes_for n = (n + 7) / 8

unfoldable pub pack_bits : List Bool → List ℕ
pack_bits bits = pack_bytes (bytes_for (length bits)) bits

-- every element is a byte
abbrev pub AreBytes : List ℕ → Type 0
AreBytes xs = (i : ℕ) → get_or xs i 0 < 256
