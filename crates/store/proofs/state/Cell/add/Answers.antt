use mathlib.Core.Path.{◌∙◌}
use Rattle.store.proofs.Laws.Adding.{add_told, add_done}
use Rattle.store.proofs.state.Cell.add.Goals as goal

pub returns-in-Some : goal.returns-in-Some
returns-in-Some c =
    let k = c.of-filed.ensures in
    add_told _ _ _ _ _ _ c.requires _ _ (c.gate-gate.ensures _ _ (λ r p. p ∙ rw (k.0, k.1, k.2, k.3)) (λ r p. p)) c.transpose.ensures _ c.in-Some.is

pub returns-in-None : goal.returns-in-None
returns-in-None c =
    let k = c.of-filed.ensures in
    add_done _ _ _ _ _ _ c.requires _ _ (c.gate-gate.ensures _ _ (λ r p. p ∙ rw (k.0, k.1, k.2, k.3)) (λ r p. p)) c.transpose.ensures c.in-None.is _ c.add_next.ensures
