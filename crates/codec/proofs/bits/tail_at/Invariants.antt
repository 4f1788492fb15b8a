-- `bits::tail_at` meets its contract. The loop's invariant: the value is that of the bytes passed.
use lib.ListN.{drop}
use Rattle.std.specs.Slice.Iter.{iter_rest}
use Rattle.std.specs.Iterator.Adapters.{rev_source}
use Rattle.codec.proofs.Laws.Windows.{Tail}
use Rattle.codec.proofs.bits.tail_at.Given as goal

abbrev pub invariant-loop-byte : goal.invariant-loop-byte
invariant-loop-byte l = Tail (drop l.k l.bytes) (iter_rest (rev_source l.byte-iterator)) l.value
