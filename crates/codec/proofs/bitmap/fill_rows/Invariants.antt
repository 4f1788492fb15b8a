-- `bitmap::fill_rows` meets its contract. The loop's invariant: the ids of the first 4 * j bits are written.
use Prim.Native.Nat.{◌+◌}
use Rattle.codec.proofs.Laws.Rows.{Fours}
use Rattle.codec.proofs.bitmap.fill_rows.Given as goal

abbrev pub invariant-loop-j : goal.invariant-loop-j
invariant-loop-j l = Fours l.word l.base (l.k + 32) l.k l.initial.out l.j l.at l.out
