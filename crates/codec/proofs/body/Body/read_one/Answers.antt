-- `body::Body::read_one` meets its contract.
use Rattle.codec.proofs.Laws.GapReader.{none_left, code_missing}
use Rattle.codec.proofs.body.Body.read_one.Goals as goal

pub returns-in_err-code : goal.returns-in_err-code
returns-in_err-code c =
    let a = c.args in
    rw c.from_residual.ensures (λ old h. none_left a.self a.r (code_missing a.self a.r c.requires.1 c.in_err-code.ensures) old a.room.now h)
