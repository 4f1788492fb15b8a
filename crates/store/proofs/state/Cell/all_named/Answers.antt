use mathlib.Core.Path.{◌∙◌}
use mathlib.Core.Bool.{not}
use Prim.Native.Nat.{ℕ}
use borrow.Author.Rules.{rules}
use borrow.Author.Tests.{tests}
use Rattle.std.proofs.lemmas.Iterator.{YieldsList-from_slice}
use Rattle.std.proofs.lemmas.Iterator.Search.{all_from_yields_List}
use Rattle.runs.specs.Words.{coordinate}
use Rattle.store.specs.Filed.{unnamed}
use Rattle.store.proofs.Laws.Joining.{named_all}
use Rattle.store.proofs.state.Cell.all_named.Goals as goal

pub returns : goal.returns
returns c =
    all_from_yields_List (λ (r : ℕ). not (unnamed c.args.self.worker c.args.self.sets (coordinate r))) _ _ _ c.all.ensures.ran (YieldsList-from_slice c.args.runs.now cc) (λ x b q k. search (rules, tests))
    ∙ named_all c.args.self.worker c.args.self.sets c.args.runs.now
