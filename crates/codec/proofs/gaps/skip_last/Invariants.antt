-- `gaps::skip_last` meets its contract. The loop's invariant: the ids passed go up by one.
use Prim.Native.Nat.{◌+◌}
use mathlib.Core.Path.{◌≡◌}
use lib.ListN.{drop}
use Rattle.std.specs.Slice.Iter.{iter_rest}
use Rattle.std.specs.Iterator.Adapters.{zip_first, zip_second}
use Rattle.codec.specs.Inside.Gaps.{Skipped}
use Rattle.codec.proofs.gaps.skip_last.Given as goal

abbrev pub invariant-loop-k : goal.invariant-loop-k
invariant-loop-k l =
    let places = zip_first l.k-iterator in
    record {
      skipped : Skipped l.set.colors.n l.set.ids.now l.c.i l.c.from places.start;
      end : places.end ≡ l.left;
      rest : iter_rest (zip_second l.k-iterator) ≡ drop (l.c.i + places.start) l.set.ids.now;
    }
