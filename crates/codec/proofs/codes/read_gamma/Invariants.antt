-- `codes::read_gamma` meets its contract. The loop's invariant: the zeros so far and those from `place` are the zeros from `at`.
use Prim.Native.Nat.{◌-◌, ◌*◌, ◌≤◌}
use mathlib.Core.Path.{◌≡◌}
use lib.ListN.{length, drop}
use Rattle.codec.specs.Bits.{bits_of}
use Rattle.codec.specs.Codes.{read_zeros}
use Rattle.codec.proofs.codes.read_gamma.Given as goal

abbrev pub invariant-loop-place : goal.invariant-loop-place
invariant-loop-place l = (l.at ≤ l.place) × (read_zeros 0 (drop l.at (bits_of l.bytes)) ≡ read_zeros (l.place - l.at) (drop l.place (bits_of l.bytes)))

abbrev pub decreases-loop-place : goal.decreases-loop-place
decreases-loop-place l = 8 * length l.bytes - l.place
