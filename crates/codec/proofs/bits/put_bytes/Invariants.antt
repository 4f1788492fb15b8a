-- `bits::put_bytes` meets its contract: what is written, and the low bytes of what is left, are the number's.
use Prim.Native.Nat.{◌-◌}
use mathlib.Core.Path.{◌≡◌}
use mathlib.Core.List.{◌++◌}
use lib.ListN.{length, take}
use Rattle.codec.specs.Inside.Buffers.{low_bytes}
use Rattle.codec.proofs.bits.put_bytes.Given as goal

abbrev pub invariant-loop-byte : goal.invariant-loop-byte
invariant-loop-byte l = (length l.out ≡ length l.initial.out) × (take l.byte-index l.out ++ low_bytes (length l.out - l.byte-index) l.rest ≡ low_bytes (length l.out) l.x)
