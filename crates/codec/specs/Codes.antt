-- Section 2 of 01: codes. Elias gamma and delta codes of every natural number, and their readers.
use Rattle.std.specs.Prelude.{ℕ, zero, suc, ◌+◌, ◌-◌, ◌/◌, ◌^◌, Bool, true, false, cond, List, [], ◌∷◌, ◌++◌, length, take, drop, replicate, leb}
use Rattle.codec.specs.Bits.{low_bits, value_of}

-- the place of the highest set bit of n, 0 for 0; the first argument bounds the halvings
abbrev pub above : ℕ → ℕ → ℕ
above zero b = 0
above (suc half) b = suc b

unfoldable pub high_in : ℕ → ℕ → ℕ
high_in zero n = 0
high_in (suc k) n = let b = high_in k (n / 2) in above (n / 2) b

unfoldable pub high_bit : ℕ → ℕ
high_bit n = high_in n n

-- b zeros, a one, then the low b bits of v + 1, where b is its highest set bit
unfoldable pub gamma : ℕ → List Bool
gamma v = replicate (high_bit (v + 1)) false ++ true ∷ low_bits (high_bit (v + 1)) (v + 1)

-- the code of b, then the low b bits
unfoldable pub delta : ℕ → List Bool
delta v = gamma (high_bit (v + 1)) ++ low_bits (high_bit (v + 1)) (v + 1)

-- what reading finds: a value and the bits behind it, or that the bits end first
pub data Read : Type 0 where
  got : ℕ → List Bool → Read
  end : Read

abbrev pub and_then : Read → (ℕ → List Bool → Read) → Read
and_then (got v rest) f = f v rest
and_then end f = end

-- zeros up to a one: how many, z of them before
unfoldable pub read_zeros : ℕ → List Bool → Read
read_zeros z [] = end
read_zeros z (true ∷ bits) = got z bits
read_zeros z (false ∷ bits) = read_zeros (z + 1) bits

-- b bits below a one, less 1
unfoldable pub read_low : ℕ → List Bool → Read
read_low b bits = cond (leb b (length bits)) (got (value_of (take b bits) + 2 ^ b - 1) (drop b bits)) end

unfoldable pub read_gamma : List Bool → Read
read_gamma bits = and_then (read_zeros 0 bits) read_low

unfoldable pub read_delta : List Bool → Read
read_delta bits = and_then (read_gamma bits) read_low
