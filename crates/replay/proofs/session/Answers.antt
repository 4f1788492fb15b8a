-- `replay::session` meets its contract.
use mathlib.Core.Path.{refl}
use Rattle.store.specs.State.{bufs}
use Rattle.replay.proofs.Laws.Cases.{start_kept, session_ran}
use Rattle.replay.proofs.session.Goals as goal

pub returns-in-Err : goal.returns-in-Err
returns-in-Err c =
    let a = c.args in
    rw c.in-Err.is
    (let k = start_kept _ _ _ _ (bufs a.records.now a.index.now a.opened.now a.held.now a.runs.now a.table.now) _ (rw c.in-Err.is at c.start-begun.ensures) in
    (k.0, k.1, refl, refl, refl))

pub returns-in-Ok : goal.returns-in-Ok
returns-in-Ok c =
    let a = c.args in
    session_ran _ _ _ _ _ _ _ (bufs a.records.now a.index.now a.opened.now a.held.now a.runs.now a.table.now) _ _ _ _ _ _ _ _ (rw c.in-Ok.is at c.start-begun.ensures) c.replay-state.ensures
