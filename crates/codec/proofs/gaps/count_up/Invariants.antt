-- `gaps::count_up` meets its contract. The loop's invariant: those of the ids passed are counted.
use Prim.Native.Nat.{◌≤◌}
use mathlib.Core.Path.{◌≡◌}
use lib.ListN.{take, drop}
use Rattle.std.specs.Slice.Iter.{iter_rest}
use Rattle.std.specs.Iterator.Adapters.{zip_first, zip_second}
use Rattle.codec.specs.Inside.Gaps.{up_in}
use Rattle.codec.proofs.gaps.count_up.Given as goal

abbrev pub invariant-loop-j : goal.invariant-loop-j
invariant-loop-j l =
    let places = zip_first l.j-iterator in
    record {
      counted : l.count ≡ up_in l.ids l.i l.from places.start;
      few : l.count ≤ places.start;
      inside : places.start ≤ 8;
      end : places.end ≡ 8;
      rest : iter_rest (zip_second l.j-iterator) ≡ drop places.start (take 8 (drop l.i l.ids));
    }
