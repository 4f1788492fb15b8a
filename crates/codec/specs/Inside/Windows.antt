-- Bits at the low end of a number.
use Rattle.std.specs.Prelude.{ℕ, ◌+◌, ◌-◌, ◌*◌, ◌/◌, ◌%◌, ◌^◌, ◌<◌, ◌≤◌, ◌≡◌, false, Option, Some, None, List, ◌++◌, length, take, drop, replicate}
use Rattle.codec.specs.Bits.{low_bits, bits_of}
use Rattle.codec.specs.Codes.{gamma, delta}
use Rattle.codec.specs.declared.codes.Coded.{Coded}

-- the 64 bits from byte k on, zeros past the end
abbrev pub Window : List ℕ → ℕ → ℕ → Type 0
Window bytes k w = take 64 (bits_of (drop k bytes) ++ replicate 64 false) ≡ low_bits 64 w

-- the bits at a place are the low bits of a number, so many of them
pub record Shown (bytes : List ℕ) (at w many : ℕ) : Type 0 where
  pub bits : take many (drop at (bits_of bytes)) ≡ low_bits many w
  pub inside : at + many ≤ 8 * length bytes

-- what an entry other than 0 tells of a number's low bits: they begin with the gamma code of b, of nine bits at most, behind which b bits
-- follow; the entry has the count of all these bits, of the gamma code's, and a mask of b bits
pub record Head (w e : ℕ) : Type 0 where
  pub b : ℕ
  pub few : b ≤ 19
  pub short : e / 64 % 64 ≤ 9
  pub count : e % 64 ≡ e / 64 % 64 + b
  pub mask : e / 4096 ≡ 2 ^ b - 1
  pub code : low_bits (e / 64 % 64) w ≡ gamma b

abbrev pub IsEntry : ℕ → ℕ → Type 0
IsEntry w e = 0 < e → Head w e

-- the low bits begin with the code of a value; or nothing is said
abbrev pub CodedIn : ℕ → Option Coded → Type 0
CodedIn w (Some c) = (low_bits c.count w ≡ delta c.value) × (c.count ≤ 28)
CodedIn w None = Unit {0}
