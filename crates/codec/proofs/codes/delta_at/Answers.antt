-- `codes::delta_at` meets its contract.
use native.Mathlib.Omega.{arith}
use Rattle.codec.specs.Codes.{read_delta, read_low}
use Rattle.codec.proofs.Laws.Codes.{delta_from, delta_large}
use Rattle.codec.proofs.Laws.Places.{found_as}
use Rattle.codec.proofs.codes.delta_at.Goals as goal

pub returns-in_err-value : goal.returns-in_err-value
returns-in_err-value c =
    rw c.from_residual.ensures (delta_large _ (λ n mid e. omega (arith, c.in_err-value.ensures n mid e)))

pub low_at-requires : goal.low_at-requires
low_at-requires c = omega (arith, c.in_ok-value.ensures.1)

pub returns : goal.returns
returns c =
    let r = c.in_ok-value.field-0 in
    found_as read_delta (read_low r.value) c.args.bytes.now c.args.at r.next c.low_at.result (delta_from _ _ _ c.in_ok-value.ensures.0) c.low_at.ensures
