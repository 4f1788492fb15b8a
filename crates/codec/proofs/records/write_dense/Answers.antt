-- `records::write_dense` meets its contract.
use Rattle.codec.proofs.Laws.Encoded.{few_ids}
use Rattle.codec.proofs.records.write_dense.Goals as goal

pub overflow_sub-absent : goal.overflow_sub-absent
overflow_sub-absent c = let s = c.args.set in few_ids s.colors.n s.ids.now s.within
