use borrow.Author.Rules.{rules}
use Rattle.store.specs.State.{after}
use Rattle.store.proofs.Laws.Adding.{filed_set, wrote_ok, wrote_small}
use Rattle.store.proofs.state.Cell.file_set.Goals as goal

pub unwrap-len-requires : goal.unwrap-len-requires
unwrap-len-requires c = wrote_ok _ _ _ _ _ _ _ c.requires c.write_record.ensures

pub overflow_add-end : goal.overflow_add-end
overflow_add-end c = search (wrote_small, rules)

pub returns : goal.returns
unfolding after
returns c = filed_set _ _ _ _ _ _ _ c.requires c.write_record.ensures _ c.unwrap-len.ensures _ _ c.coordinate_of-coord.ensures
