-- What a reader finds at a bit place of a byte string.
use Rattle.std.specs.Prelude.{ℕ, ◌*◌, ◌≤◌, ◌<◌, ◌^◌, ◌≡◌, Bool, Option, Some, None, List, length, drop}
use Rattle.codec.specs.Bits.{bits_of}
use Rattle.codec.specs.Codes.{Read, got}
use Rattle.codec.specs.declared.codes.ReadCode.{ReadCode}

-- the largest value that a reader has to answer: an id is below it, and a set's length at most it
abbrev pub largest : ℕ
largest = 2 ^ 20

-- the value and the place behind its code, or that no value up to the largest is coded there
abbrev pub ReadCodeAt : (List Bool → Read) → List ℕ → ℕ → Option ReadCode → Type 0
ReadCodeAt read bytes at (Some c) = (read (drop at (bits_of bytes)) ≡ got c.value (drop c.next (bits_of bytes))) × (c.next ≤ 8 * length bytes)
ReadCodeAt read bytes at None = ((v : ℕ) (rest : List Bool) → read (drop at (bits_of bytes)) ≡ got v rest → largest < v)
