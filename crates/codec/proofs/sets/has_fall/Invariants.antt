-- `sets::has_fall` meets its contract. The loop's invariant: what was found, or a fall further on.
use Rattle.std.specs.Slice.Iter.{iter_rest}
use Rattle.std.specs.Iterator.Adapters.{zip_first, zip_second}
use Rattle.codec.proofs.Laws.Ascending.{Falling}
use Rattle.codec.proofs.sets.has_fall.Given as goal

abbrev pub invariant-loop-before : goal.invariant-loop-before
invariant-loop-before l = Falling l.ids l.found (iter_rest (zip_first l.before-iterator)) (iter_rest (zip_second l.before-iterator))
