-- `index::fill_index` meets its contract. The loop keeps the entries of the records passed in the front of `out`; that every record is there is required, so no step is refused.
use mathlib.Core.List.{◌++◌}
use lib.ListN.{drop}
use Rattle.codec.proofs.Laws.Indexing.{Filling}
use Rattle.codec.proofs.index.fill_index.Given as goal

abbrev pub invariant-loop-entry : goal.invariant-loop-entry
invariant-loop-entry l = Filling l.bytes l.count l.fn.out (l.entry-items ++ drop l.count l.fn.out) l.at l.entry-index
