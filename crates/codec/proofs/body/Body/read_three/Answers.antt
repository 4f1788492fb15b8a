-- `body::Body::read_three` meets its contract: each code is read behind those before it.
use Rattle.codec.proofs.body.Body.read_three.Goals as goal

pub returns-in_err-s-2 : goal.returns-in_err-s-2
returns-in_err-s-2 c = rw c.from_residual-in_err-s-2.ensures (λ old h. c.in_err-s-2.ensures old (c.in_ok-s.ensures.2.2 old h))

pub returns-in_err-s-3 : goal.returns-in_err-s-3
returns-in_err-s-3 c = rw c.from_residual-in_err-s-3.ensures (λ old h. c.in_err-s-3.ensures old (c.in_ok-s-2.ensures.2.2 old (c.in_ok-s.ensures.2.2 old h)))
