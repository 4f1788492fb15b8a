use Rattle.store.specs.State.{after}
use Rattle.store.proofs.Laws.Joining.{held_ok, joined_filed}
use Rattle.store.proofs.state.Cell.join_piece.Goals as goal

pub unwrap-kept-requires : goal.unwrap-kept-requires
unwrap-kept-requires c = held_ok _ _ _ _ _ _ c.requires _ _ c.orient_color_runs.ensures

pub returns : goal.returns
unfolding after
returns c = joined_filed _ _ _ _ _ _ c.requires _ _ _ _ _ _ _ c.put_open-total.ensures c.orient_color_runs.ensures c.unwrap-kept.ensures c.new_count-count.ensures
