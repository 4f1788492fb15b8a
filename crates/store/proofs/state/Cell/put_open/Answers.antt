use Rattle.store.proofs.Laws.Joining.{first_ok, first_put, behind_ok, behind_put}
use Rattle.store.proofs.state.Cell.put_open.Goals as goal

pub unwrap-requires : goal.unwrap-requires
unwrap-requires c = first_ok _ _ _ _ _ c.requires _ _ c.in-Nothing.is c.merge_color_runs.ensures

pub returns-in-Nothing : goal.returns-in-Nothing
returns-in-Nothing c = first_put _ _ _ _ _ c.requires _ _ c.in-Nothing.is c.merge_color_runs.ensures _ c.unwrap.ensures

pub unwrap-requires-in-Open : goal.unwrap-requires-in-Open
unwrap-requires-in-Open c = behind_ok _ _ _ _ _ c.requires _ c.in-Open.is _ _ c.append_color_runs-appended.ensures

pub returns-in-Open : goal.returns-in-Open
returns-in-Open c = behind_put _ _ _ _ _ c.requires _ c.in-Open.is _ _ c.append_color_runs-appended.ensures _ c.unwrap-in-Open.ensures
