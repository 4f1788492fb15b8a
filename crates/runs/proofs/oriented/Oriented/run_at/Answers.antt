-- `runs::oriented::Oriented::run_at` meets its contract.
use Prim.Native.Nat.{ℕ, ◌-◌}
use mathlib.Core.Path.{sym, ap, ◌∙◌}
use native.Mathlib.Omega.{arith}
use lib.ListN.{length, get_or}
use Rattle.runs.specs.Words.{coordinate, pack}
use Rattle.runs.proofs.Laws.Orders.{end_le}
use Rattle.runs.proofs.Laws.Reverse.{oriented_at_yes, oriented_at_no}
use Rattle.runs.proofs.oriented.Oriented.run_at.Goals as goal

pub flip-requires : goal.flip-requires
flip-requires c = let ws = c.args.self.now.runs.now in omega (arith, c.end_of.ensures, end_le c.args.self.now.n ws (length ws - 1 - c.args.i) c.args.self.now.taken.list.up, c.args.self.now.taken.small)

pub returns-then-self : goal.returns-then-self
returns-then-self c = c.flip.ensures ∙ ap (λ (x : ℕ). pack (c.args.self.now.n - x) (coordinate (get_or c.args.self.now.runs.now (length c.args.self.now.runs.now - 1 - c.args.i) 0))) c.end_of.ensures ∙ sym (oriented_at_yes c.args.self.now.reversed c.args.self.now.n c.args.self.now.runs.now c.args.i c.requires c.if-self.true)

pub returns-else-self : goal.returns-else-self
returns-else-self c = sym (oriented_at_no c.args.self.now.reversed c.args.self.now.n c.args.self.now.runs.now c.args.i c.requires c.if-self.false)
