-- `bitmap::ones_in_words` meets its contract. The loop's invariant: the ones of the first j words are counted.
use Prim.Native.Nat.{◌*◌, ◌≤◌}
use mathlib.Core.Path.{◌≡◌}
use lib.ListN.{length, take, drop}
use Rattle.codec.specs.Bits.{bits_of}
use Rattle.codec.specs.Sets.{ids_of}
use Rattle.codec.proofs.bitmap.ones_in_words.Given as goal

abbrev pub invariant-loop-j : goal.invariant-loop-j
invariant-loop-j l = (l.count ≤ 64 * l.j) × (l.count ≡ length (ids_of 0 (take (64 * l.j) (drop (8 * l.k) (bits_of l.bytes)))))
