-- `body::Body::put_code` meets its contract.
use native.Mathlib.Omega.{arith}
use Rattle.codec.proofs.Laws.GapReader.{none_left, code_high, code_on}
use Rattle.codec.proofs.body.Body.put_code.Goals as goal

pub returns-then-self-r-clause-on : goal.returns-then-self-r-clause-on
returns-then-self-r-clause-on c =
    let a = c.args in
    λ old h. none_left a.self a.r (code_high a.self a.r c.requires.within.1 a.code.value _ c.requires.code.0 (omega arith)) old a.room.now h

pub returns-clause-on : goal.returns-clause-on
returns-clause-on c =
    let a = c.args in
    (record { few = omega arith; below = omega arith; place = c.requires.code.1 }, omega arith, λ old h. rw c.put_id.ensures (code_on a.self a.r c.requires.within.1 a.code.value a.code.next c.requires.code.0 (omega arith) old a.room.now h))
