use Rattle.store.proofs.Laws.Showing.{given_set}
use Rattle.store.proofs.filed.Filed.give.Goals as goal

pub returns : goal.returns
returns c = search (given_set)
