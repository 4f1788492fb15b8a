-- `prefix::read_varint_len` meets its contract.
use Rattle.codec.proofs.Laws.Prefix.{Sofar}
use Rattle.codec.proofs.prefix.read_varint_len.Given as goal

abbrev pub invariant-loop-i : goal.invariant-loop-i
invariant-loop-i l = Sofar l.bytes l.value l.i
