use borrow.Author.Rules.{rules}
use Rattle.store.proofs.Laws.Showing.{place_counted}
use Rattle.store.proofs.filed.Filed.seek.Goals as goal

pub vertex_color-color-requires : goal.vertex_color-color-requires
vertex_color-color-requires c = search (place_counted, rules)
