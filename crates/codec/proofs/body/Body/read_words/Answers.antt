-- `body::Body::read_words` meets its contract.
use Rattle.codec.proofs.body.Body.read_words.Goals as goal

pub returns-in_err-next : goal.returns-in_err-next
returns-in_err-next c = rw c.from_residual.ensures (λ old h. c.in_err-next.ensures old (c.loop-next.invariant.2 old h))
