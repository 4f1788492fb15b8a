-- The ids absent from a dense set, one after another.
use Rattle.codec.proofs.Laws.Coded.{gave_absent, gave_no_absent}
use Rattle.codec.proofs.gaps.AbsentCodedIds.next_id.Goals as goal

pub returns-then-set-id : goal.returns-then-set-id
returns-then-set-id c = gave_no_absent c.args.set.colors.n c.args.set.ids.now c.args.c c.skip_present-k.result c.skip_present-k.ensures.0 c.if-set-id.true

pub returns : goal.returns
returns c = gave_absent c.args.set.colors.n c.args.set.ids.now c.args.c c.skip_present-k.result c.skip_present-k.ensures.0 c.skip_present-k.ensures.1 c.if-set-id.false
