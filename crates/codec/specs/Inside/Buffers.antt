-- Bytes put into a buffer.
use Rattle.std.specs.Prelude.{ℕ, zero, suc, ◌+◌, ◌*◌, ◌/◌, ◌%◌, ◌≡◌, List, [], ◌∷◌, ◌++◌, length, take}
use Rattle.codec.specs.Bits.{bits_of, low_bits, AreBytes}

-- the n low bytes of a number, lowest first
unfoldable pub low_bytes : ℕ → ℕ → List ℕ
low_bytes zero x = []
low_bytes (suc n) x = x % 256 ∷ low_bytes n (x / 256)

-- n low bytes of a number at a place of a buffer
pub record Placed (out new : List ℕ) (at n x : ℕ) : Type 0 where
  pub bits : bits_of (take (at + n) new) ≡ bits_of (take at out) ++ low_bits (8 * n) x
  pub size : length new ≡ length out
  pub bytes : AreBytes out → AreBytes new
