-- `body::Body::fill_map` meets its contract. The loop's invariant: the ids below `base` are written.
use Prim.Native.Nat.{◌≤◌, ◌-◌}
use mathlib.Core.Path.{◌≡◌}
use lib.ListN.{length, take}
use Rattle.codec.specs.Sets.{ids_of}
use Rattle.codec.specs.Inside.Bitmaps.{Front}
use Rattle.codec.specs.Inside.Bodies.{bits_in}
use Rattle.codec.proofs.body.Body.fill_map.Given as goal

abbrev pub invariant-loop-base : goal.invariant-loop-base
invariant-loop-base l = record {
  below : l.base ≤ l.self.colors.n;
  told : length (ids_of 0 (take l.base (bits_in l.self))) ≡ l.k;
  filled : Front (ids_of 0 (take l.base (bits_in l.self))) l.self.count l.initial.out l.out;
}

abbrev pub decreases-loop-base : goal.decreases-loop-base
decreases-loop-base l = l.self.colors.n - l.base
