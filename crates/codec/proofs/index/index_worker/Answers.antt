-- `index::index_worker` meets its contract.
use mathlib.Core.Path.{sym}
use Rattle.codec.proofs.Laws.Refusals.{passed_on}
use Rattle.codec.proofs.Laws.Indexing.{make_short, make_stopped, make_done}
use Rattle.codec.proofs.index.index_worker.Goals as goal

pub returns-then-out-count : goal.returns-then-out-count
returns-then-out-count c = make_short _ _ _ c.if-out-count.true

pub returns-in_err-check_records : goal.returns-in_err-check_records
returns-in_err-check_records c =
    rw (passed_on c.from_residual.ensures.1) (make_stopped _ _ _ c.if-out-count.false _ c.in_err-check_records.ensures)

pub fill_index-requires : goal.fill_index-requires
fill_index-requires c = (sym c.in_ok-check_records.ensures, c.if-out-count.false)

pub returns : goal.returns
returns c =
    make_done _ _ _ c.if-out-count.false _ (sym c.in_ok-check_records.ensures) c.fill_index.ensures
