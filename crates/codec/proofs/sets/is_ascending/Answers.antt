-- `sets::is_ascending` meets its contract: ids that do not fall ascend, and the last tells for all.
use mathlib.Core.Path.{sym, ap, ◌∙◌}
use mathlib.Core.Bool.{Bool, not, ◌&&◌}
use lib.ListN.{get_or, drop}
use borrow.Author.Tests.{lt-ltb, le-ltb}
use Rattle.codec.specs.Inside.Payloads.{has_fall}
use Rattle.codec.proofs.Laws.Ascending.{within_last, within_none}
use Rattle.codec.proofs.sets.is_ascending.Goals as goal

pub returns-in_default : goal.returns-in_default
returns-in_default c = sym (within_none c.args.ids.now c.args.n c.in_default.ensures.value)

pub returns-then-last-n : goal.returns-then-last-n
returns-then-last-n c =
    let ids = c.args.ids.now in
    ap not c.has_fall.ensures ∙ sym (within_last ids c.args.n c.in-Some.last.now c.in-Some.ensures.value ∙ ap (λ (t : Bool). t && not (has_fall (get_or ids 0 0) (drop 1 ids))) (lt-ltb _ _ c.if-last-n.true))

pub returns-else-last-n : goal.returns-else-last-n
returns-else-last-n c =
    let ids = c.args.ids.now in
    let no = le-ltb _ _ c.if-last-n.false in
    no ∙ sym (within_last ids c.args.n c.in-Some.last.now c.in-Some.ensures.value ∙ ap (λ (t : Bool). t && not (has_fall (get_or ids 0 0) (drop 1 ids))) no)
