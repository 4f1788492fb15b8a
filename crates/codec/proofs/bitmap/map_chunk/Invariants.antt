-- `bitmap::map_chunk` meets its contract. The loop's invariant: the ids passed are the word's bits.
use Prim.Native.Nat.{◌+◌}
use Rattle.codec.proofs.Laws.Bitmaps.{Chunked}
use Rattle.codec.proofs.bitmap.map_chunk.Given as goal

abbrev pub invariant-loop-k : goal.invariant-loop-k
invariant-loop-k l = Chunked l.set.colors.n l.set.ids.now l.i l.base l.width l.word (l.i + l.k)
