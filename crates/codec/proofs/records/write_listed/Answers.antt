-- `records::write_listed` meets its contract.
use mathlib.Core.Path.{sym, subst}
use Rattle.codec.specs.Sets.{Within}
use Rattle.codec.proofs.Laws.Encoded.{few_ids}
use Rattle.codec.proofs.Laws.Sets.{absent_within}
use Rattle.codec.proofs.records.write_listed.Goals as goal

pub overflow_sub-count : goal.overflow_sub-count
overflow_sub-count c = let s = c.args.set in few_ids s.colors.n s.ids.now s.within

pub invariant_of-list : goal.invariant_of-list
invariant_of-list c = let s = c.args.set in record { within = subst (Within 0 s.colors.n) (sym c.list_absent.ensures) (absent_within s.colors.n s.ids.now s.within) }
