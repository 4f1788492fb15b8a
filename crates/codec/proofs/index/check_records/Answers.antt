use Rattle.codec.proofs.Laws.Refusals.{passed_on}
use Rattle.codec.proofs.Laws.Indexing.{checking_none, checking_more, checking_stop, checking_end}
use Rattle.codec.proofs.index.check_records.Goals as goal

pub loop-init : goal.loop-init
loop-init c = checking_none _ _

pub returns-in_err-at : goal.returns-in_err-at
returns-in_err-at c =
    rw (passed_on c.from_residual.ensures.1) (checking_stop _ _ _ _ c.loop-test.true c.loop.invariant _ c.in_err-at.ensures)

pub loop-preserved : goal.loop-preserved
loop-preserved c = checking_more _ _ _ _ c.loop-test.true c.loop.invariant _ c.in_ok-at.ensures

pub returns : goal.returns
returns c = checking_end _ _ _ _ c.loop-test.false c.loop.invariant
