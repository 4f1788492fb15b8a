use mathlib.Core.Path.{◌∙◌}
use Rattle.store.proofs.Laws.Closing.{close_told, close_goes, close_done}
use Rattle.store.proofs.state.Cell.close.Goals as goal

pub returns-in-Some : goal.returns-in-Some
returns-in-Some c =
    let k = c.of-open_runs.ensures in
    close_told _ _ _ _ _ _ _ c.requires _ _ (c.gate-gate.ensures _ _ (λ r p. p) (λ r p. p ∙ rw (k.0, k.1))) c.transpose.ensures _ c.in-Some.is

pub file_unitig-requires : goal.file_unitig-requires
file_unitig-requires c =
    let k = c.of-open_runs.ensures in
    rw (k.0, k.1)
    (close_goes _ _ _ _ _ _ _ c.requires _ _ (c.gate-gate.ensures _ _ (λ r p. p) (λ r p. p ∙ rw (k.0, k.1))) c.transpose.ensures c.in-None.is)

pub returns-in-None : goal.returns-in-None
returns-in-None c =
    let k = c.of-open_runs.ensures in
    close_done _ _ _ _ _ _ _ c.requires _ _ (c.gate-gate.ensures _ _ (λ r p. p) (λ r p. p ∙ rw (k.0, k.1))) c.transpose.ensures c.in-None.is _ (rw (k.0, k.1) at c.file_unitig.ensures)
