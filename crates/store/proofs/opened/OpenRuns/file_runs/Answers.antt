use Rattle.store.proofs.Laws.Closing.{line_filed, cycle_filed}
use Rattle.store.proofs.opened.OpenRuns.file_runs.Goals as goal

pub returns-in-Line : goal.returns-in-Line
returns-in-Line c = search (line_filed)

pub returns-in-Cycle : goal.returns-in-Cycle
returns-in-Cycle c = search (cycle_filed)
