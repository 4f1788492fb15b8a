-- `runs::oriented::Shifted::first` meets its contract.
use mathlib.Core.Path.{ap}
use native.Mathlib.Omega.{arith}
use Rattle.runs.specs.Words.{offset}
use Rattle.runs.proofs.Laws.Merging.{moved_below}
use Rattle.runs.proofs.oriented.Shifted.first.Goals as goal

pub overflow_add-result : goal.overflow_add-result
overflow_add-result c =
    let list = c.args.self.now.list in
    omega (arith, c.run_at.type_inv, ap offset c.run_at.ensures, c.from.ensures, moved_below list.reversed list.n list.runs.now 0 c.args.self.now.shift list.taken (omega (arith, c.args.self.now.few)) c.requires)
