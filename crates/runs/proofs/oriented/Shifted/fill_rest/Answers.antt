-- `runs::oriented::Shifted::fill_rest` meets its contract.
use Rattle.std.proofs.Common.{ℕ, List, drop, sym, ap, ◌∙◌}
use Rattle.base.specs.Parts.{over}
use Rattle.runs.specs.Append.{shifted}
use Rattle.runs.proofs.Laws.Reverse.{oriented_yes, oriented_no}
use Rattle.runs.proofs.oriented.Shifted.fill_rest.Goals as goal

pub returns-then-self : goal.returns-then-self
returns-then-self c =
    let list = c.args.self.now.list in
    c.fill_backward.ensures ∙ ap (λ (os : List ℕ). over (shifted c.args.self.now.shift (drop 1 os)) c.args.out.now) (sym (oriented_yes list.reversed list.n list.runs.now c.if-self.true))

pub returns-else-self : goal.returns-else-self
returns-else-self c =
    let list = c.args.self.now.list in
    c.fill_forward.ensures ∙ ap (λ (os : List ℕ). over (shifted c.args.self.now.shift (drop 1 os)) c.args.out.now) (sym (oriented_no list.reversed list.n list.runs.now c.if-self.false))
