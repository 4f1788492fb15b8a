use Rattle.store.proofs.Laws.Adding.{next_refused, next_goes, next_filed}
use Rattle.store.proofs.state.Cell.add_next.Goals as goal

pub file_set-requires : goal.file_set-requires
file_set-requires c = next_goes _ _ c.args.number _ _ _ _ c.in-Ok.ensures c.requires

pub returns-in-Err : goal.returns-in-Err
returns-in-Err c = next_refused _ _ _ _ _ _ _ c.in-Err.ensures

pub returns-in-Ok : goal.returns-in-Ok
returns-in-Ok c = next_filed _ _ _ _ _ _ _ c.in-Ok.ensures _ c.file_set.ensures
