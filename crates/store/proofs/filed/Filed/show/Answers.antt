use Rattle.store.proofs.Laws.Showing.{record_in}
use Rattle.store.proofs.filed.Filed.show.Goals as goal

pub give-requires : goal.give-requires
give-requires c = record_in _ _ _ _ _ _ _ _ c.in_ok-at.ensures
