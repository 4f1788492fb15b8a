-- `shell::texts::put` meets its contract.
use Rattle.std.proofs.Common.{ℕ, ap, ◌∙◌, take, arith}
use Rattle.shell.proofs.Laws.Texts.{put_full, put_done}
use Rattle.shell.proofs.texts.put.Goals as goal

pub returns-then-out-at : goal.returns-then-out-at
returns-then-out-at c = put_full _ _ _ c.if-out-at.true

pub returns : goal.returns
returns c = put_done _ _ _ c.if-out-at.false _ c.min-n.ensures _ (c.copy_from_slice.ensures.after ∙ ap (λ (k : ℕ). take k c.args.text.now) (omega arith)) _ (omega arith)
