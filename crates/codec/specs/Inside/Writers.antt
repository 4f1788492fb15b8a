-- What a bit writer holds.
use Rattle.std.specs.Prelude.{ℕ, ◌+◌, ◌*◌, ◌≤◌, ◌<◌, ◌^◌, ◌≡◌, Bool, List, ◌++◌, length, take}
use Rattle.codec.specs.Bits.{bits_of, low_bits, AreBytes}
use Rattle.codec.specs.Codes.{high_bit, gamma}
use Rattle.codec.specs.declared.bits.BitWriter.{BitWriter}
use Rattle.codec.specs.declared.codes.Codeword.{Codeword}

-- the bits written: those of the whole bytes in the buffer, then the pending ones
abbrev pub stream_of : BitWriter → List Bool
stream_of w = bits_of (take w.at w.out.now) ++ low_bits w.pending w.acc

-- a writer at the front of a buffer, that holds nothing yet
pub record Fresh (out : List ℕ) (w : BitWriter) : Type 0 where
  pub buffer : w.out.now ≡ out
  pub front : w.at ≡ 0
  pub empty : w.acc ≡ 0
  pub none : w.pending ≡ 0
  pub bytes : AreBytes out

-- a writer with room for `spare` bits more
abbrev pub Ready : BitWriter → ℕ → Type 0
Ready w spare = 8 * w.at + w.pending + spare ≤ 8 * length w.out.now

-- a writer after `bits` were put behind its own; what lies behind its place may be anything
pub record Wrote (w r : BitWriter) (bits : List Bool) : Type 0 where
  pub stream : stream_of r ≡ stream_of w ++ bits
  pub forth : w.at ≤ r.at
  pub place : 8 * r.at + r.pending ≡ 8 * w.at + w.pending + length bits
  pub size : length r.out.now ≡ length w.out.now
  pub bytes : AreBytes w.out.now → AreBytes r.out.now

-- a number whose low bits are the code
pub record CodewordOf (w : Codeword) (bits : List Bool) : Type 0 where
  pub code : low_bits w.count w.value ≡ bits
  pub small : w.value < 2 ^ w.count

-- bit b behind as many bits as its gamma code has, less that code
pub record ShortOf (b short : ℕ) : Type 0 where
  pub code : ℕ
  pub is : low_bits (2 * high_bit (b + 1) + 1) code ≡ gamma b
  pub small : code < 2 ^ (2 * high_bit (b + 1) + 1)
  pub sum : short + code ≡ 2 ^ (2 * high_bit (b + 1) + 1 + b)
