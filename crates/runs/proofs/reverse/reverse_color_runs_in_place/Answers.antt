-- `runs::reverse::reverse_color_runs_in_place` meets its contract.
use Rattle.codec.proofs.Laws.Refusals.{passed_on}
use Rattle.runs.proofs.Laws.Answers.{place_refused, place_done}
use Rattle.runs.proofs.reverse.reverse_color_runs_in_place.Goals as goal

pub returns-in_err-check_steady : goal.returns-in_err-check_steady
returns-in_err-check_steady c =
    rw (passed_on c.from_residual.ensures.1) (place_refused _ _ _ c.in_err-check_steady.ensures)

pub returns : goal.returns
returns c = place_done _ _ _ c.in_ok-check_steady.ensures c.swap_ends.ensures
