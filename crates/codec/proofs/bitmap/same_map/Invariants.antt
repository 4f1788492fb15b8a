-- `bitmap::same_map` meets its contract. The loop's invariant: the bits below `base` stand there.
use Prim.Native.Nat.{◌+◌}
use mathlib.Core.Path.{◌≡◌}
use mathlib.Core.Bool.{Bool}
use mathlib.Core.List.{List, ◌++◌}
use lib.ListN.{drop}
use Rattle.codec.specs.Bits.{bits_of}
use Rattle.codec.proofs.Laws.Bitmaps.{Mapping}
use Rattle.codec.proofs.bitmap.same_map.Given as goal

abbrev pub invariant-loop-base : goal.invariant-loop-base
invariant-loop-base l = (done : List Bool) × Mapping l.set.colors.n l.set.ids.now l.i l.base done × (drop l.at (bits_of l.source.bytes.now) ≡ done ++ drop (l.at + l.base) (bits_of l.source.bytes.now))
