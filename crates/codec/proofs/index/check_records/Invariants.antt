-- `index::check_records` meets its contract. The loop keeps what the records that are left will answer.
use Prim.Native.Nat.{◌-◌}
use Rattle.codec.proofs.Laws.Indexing.{Checking}
use Rattle.codec.proofs.index.check_records.Given as goal

abbrev pub invariant-loop : goal.invariant-loop
invariant-loop l = Checking l.bytes l.count l.at (l.count - l.counter)
