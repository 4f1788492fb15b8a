-- `codec::kind_of` meets its contract.
use mathlib.Core.Path.{sym}
use native.Mathlib.Omega.{arith}
use borrow.Author.Tests.{lt-ltb, le-ltb}
use Rattle.codec.proofs.Laws.Sets.{regime_none, regime_some}
use Rattle.codec.proofs.sets.kind_of.Goals as goal

pub returns-then-len-eq0 : goal.returns-then-len-eq0
returns-then-len-eq0 c = sym (regime_none _ _ c.if-len-eq0.true)

pub returns-then-len-n : goal.returns-then-len-n
returns-then-len-n c = rw (regime_some c.args.n c.args.len (omega arith), lt-ltb _ _ c.if-len-n.true)

pub returns-then-len-n-2 : goal.returns-then-len-n-2
returns-then-len-n-2 c = rw (regime_some c.args.n c.args.len (omega arith), le-ltb _ _ c.if-len-n.false, lt-ltb _ _ c.if-len-n-2.true)

pub returns : goal.returns
returns c = rw (regime_some c.args.n c.args.len (omega arith), le-ltb _ _ c.if-len-n.false, le-ltb _ _ c.if-len-n-2.false)
