-- `runs::oriented::Oriented::end_at` meets its contract.
use Prim.Native.Nat.{ℕ, ◌-◌}
use mathlib.Core.Path.{sym, ap, ◌∙◌}
use native.Mathlib.Omega.{arith}
use lib.ListN.{length}
use Rattle.runs.proofs.Laws.Orders.{offset_le}
use Rattle.runs.proofs.Laws.Reverse.{oriented_end_yes, oriented_end_no}
use Rattle.runs.proofs.oriented.Oriented.end_at.Goals as goal

pub overflow_sub-result : goal.overflow_sub-result
overflow_sub-result c = let ws = c.args.self.now.runs.now in omega (arith, c.offset.ensures, offset_le c.args.self.now.n ws (length ws - 1 - c.args.i) (omega arith) c.args.self.now.taken.list.up)

pub returns-then-self : goal.returns-then-self
returns-then-self c = let ws = c.args.self.now.runs.now in ap (λ (x : ℕ). c.args.self.now.n - x) c.offset.ensures ∙ sym (oriented_end_yes c.args.self.now.reversed c.args.self.now.n ws c.args.i c.requires c.args.self.now.taken.small c.args.self.now.taken.list c.if-self.true)

pub returns-else-self : goal.returns-else-self
returns-else-self c = c.end_of.ensures ∙ sym (oriented_end_no c.args.self.now.reversed c.args.self.now.n c.args.self.now.runs.now c.args.i c.requires c.if-self.false)
