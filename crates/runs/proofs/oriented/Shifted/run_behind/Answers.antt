-- `runs::oriented::Shifted::run_behind` meets its contract.
use Prim.Native.Nat.{ℕ, ◌+◌, ◌-◌}
use mathlib.Core.Path.{sym, ap, ◌∙◌}
use mathlib.Core.List.{List}
use native.Mathlib.Omega.{arith}
use lib.ListN.{length, get_or}
use Rattle.runs.specs.Words.{coordinate, offset, pack}
use Rattle.runs.specs.Append.{shift}
use Rattle.runs.proofs.Laws.Merging.{backed_is}
use Rattle.runs.proofs.Laws.Orders.{offset_le}
use Rattle.runs.proofs.Laws.Reverse.{oriented_yes}
use Rattle.runs.proofs.oriented.Shifted.run_behind.Goals as goal

pub backed-requires : goal.backed-requires
backed-requires c =
    let list = c.args.self.now.list in
    let ws = list.runs.now in
    (omega (arith, c.from.ensures, offset_le list.n ws (length ws - 1 - c.args.i + 1) (omega (arith, c.requires.0, c.requires.1)) list.taken.list.up), omega (arith, c.from.ensures, c.args.self.now.few))

pub overflow_add-result : goal.overflow_add-result
overflow_add-result c =
    let list = c.args.self.now.list in
    omega (arith, c.from-else-reversed.ensures, c.args.self.now.few, offset_le list.n list.runs.now c.args.i c.requires.1 list.taken.list.up)

pub returns-then-reversed : goal.returns-then-reversed
returns-then-reversed c =
    let list = c.args.self.now.list in
    let ws = list.runs.now in
    let k = c.args.self.now.shift in
    c.backed.ensures
    ∙ ap (λ (x : ℕ). pack (x - offset (get_or ws (length ws - 1 - c.args.i + 1) 0)) (coordinate (get_or ws (length ws - 1 - c.args.i) 0))) c.from.ensures
    ∙ backed_is list.n k ws c.args.i list.taken (omega (arith, c.args.self.now.few)) c.requires.0 c.requires.1
    ∙ ap (λ (os : List ℕ). shift k (get_or os c.args.i 0)) (sym (oriented_yes list.reversed list.n ws c.if-reversed.true))
