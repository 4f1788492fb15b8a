-- `bitmap::ones_in` meets its contract. The loop's invariant: the ones of the first `base` bits are counted.
use Prim.Native.Nat.{◌≤◌, ◌-◌}
use mathlib.Core.Path.{◌≡◌}
use lib.ListN.{length, take, drop}
use Rattle.codec.specs.Bits.{bits_of}
use Rattle.codec.specs.Sets.{ids_of}
use Rattle.codec.proofs.bitmap.ones_in.Given as goal

abbrev pub invariant-loop-base : goal.invariant-loop-base
invariant-loop-base l = (l.base ≤ l.n) × (l.count ≤ l.base) × (l.count ≡ length (ids_of 0 (take l.base (drop l.at (bits_of l.bytes)))))

abbrev pub decreases-loop-base : goal.decreases-loop-base
decreases-loop-base l = l.n - l.base
