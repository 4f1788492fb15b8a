use mathlib.Core.Path.{◌∙◌}
use Rattle.store.proofs.Laws.Joining.{join_told, join_goes, join_done}
use Rattle.store.proofs.state.Cell.join.Goals as goal

pub returns-in-Some : goal.returns-in-Some
returns-in-Some c =
    let k = c.of-open_runs.ensures in
    join_told _ _ _ _ _ _ _ c.requires _ _ (c.gate-gate.ensures _ _ (λ r p. p ∙ rw c.part-last.ensures) (λ r p. p ∙ rw (k.0, k.1))) c.transpose.ensures _ c.in-Some.is

pub join_piece-requires : goal.join_piece-requires
join_piece-requires c =
    let k = c.of-open_runs.ensures in
    join_goes _ _ _ _ _ _ _ c.requires _ _ (c.gate-gate.ensures _ _ (λ r p. p ∙ rw c.part-last.ensures) (λ r p. p ∙ rw (k.0, k.1))) c.transpose.ensures c.in-None.is

pub returns-in-None : goal.returns-in-None
returns-in-None c =
    let k = c.of-open_runs.ensures in
    join_done _ _ _ _ _ _ _ c.requires _ _ (c.gate-gate.ensures _ _ (λ r p. p ∙ rw c.part-last.ensures) (λ r p. p ∙ rw (k.0, k.1))) c.transpose.ensures c.in-None.is _ c.join_piece.ensures
