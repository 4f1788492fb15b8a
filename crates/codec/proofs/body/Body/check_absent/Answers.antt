-- `body::Body::check_absent` meets its contract.
use native.Mathlib.Omega.{arith}
use Rattle.codec.proofs.Laws.Decoding.{dense_few, dense_at}
use Rattle.codec.proofs.Laws.Gaps.{kept_none, put_kept}
use Rattle.codec.proofs.body.Body.check_absent.Goals as goal

pub returns-in_err-absent : goal.returns-in_err-absent
returns-in_err-absent c =
    rw c.from_residual.ensures (dense_few _ _ _ (omega (arith, c.in_err-absent.ensures)), kept_none _ _ _ c.args.room.now (omega (arith, c.in_err-absent.ensures)))

pub returns : goal.returns
returns c =
    let few = c.in_ok-absent.ensures in
    let gaps = rw (c.with_count.ensures, few.1) at c.read_gaps.ensures in
    (dense_at c.args.self c.read_gaps.result few.0 gaps.0, put_kept _ _ _ c.args.room.now _ gaps.1)
