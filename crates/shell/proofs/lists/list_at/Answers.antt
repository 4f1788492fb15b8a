-- `shell::lists::list_at` meets its contract.
use Rattle.std.proofs.Common.{◌≡◌, rules, arith, ap, ◌∙◌}
use Rattle.std.specs.Prelude.{Ok, Err}
use Rattle.shell.proofs.Laws.Lists.{list_none, list_wrong, list_many, list_next, list_end}
use Rattle.shell.proofs.lists.list_at.Goals as goal

pub returns-in_err-item : goal.returns-in_err-item
returns-in_err-item g c =
    let e : c.from_residual.result ≡ Err c.in_err-item.field-0.0 = search rules in
    rw e (list_wrong _ _ _ _ _ _ _ c.loop-k.invariant (omega (arith, c.loop-k-test.true)) _ c.item_at.ensures _ c.in_err-item.was)

pub returns-then-out-k : goal.returns-then-out-k
returns-then-out-k g c = list_many _ _ _ _ _ _ _ c.loop-k.invariant (omega (arith, c.loop-k-test.true)) _ c.item_at.ensures _ (c.in_ok-item.was ∙ ap Ok c.in-Some.is) c.if-out-k.true

pub loop-k-preserved : goal.loop-k-preserved
loop-k-preserved g c =
    list_next _ _ _ _ _ _ _ c.loop-k.invariant (omega (arith, c.loop-k-test.true)) _ c.item_at.ensures _ (c.in_ok-item.was ∙ ap Ok c.in-Some.is) c.if-out-k.false _ (omega arith)

pub returns : goal.returns
returns g c = list_end _ _ _ _ _ _ _ c.loop-k.invariant (omega (arith, c.loop-k-test.false)) _ (omega (arith, c.loop-k-test.false, c.loop-k.auto.k-end))

pub returns-in_default : goal.returns-in_default
returns-in_default g c = list_none _ _ _ _ _ _ _ c.loop-k.invariant (omega (arith, c.loop-k-test.true)) _ c.item_at.ensures (c.in_ok-item.was ∙ ap Ok c.in_default.is)
