-- `bitmap::fill_chunk` meets its contract. The loop's invariant: the ids of the first 4 * j bits are written.
use Rattle.codec.proofs.Laws.Rows.{Fours}
use Rattle.codec.proofs.bitmap.fill_chunk.Given as goal

abbrev pub invariant-loop-j : goal.invariant-loop-j
invariant-loop-j l = Fours l.word l.base l.count l.k l.initial.out l.j l.at l.out
