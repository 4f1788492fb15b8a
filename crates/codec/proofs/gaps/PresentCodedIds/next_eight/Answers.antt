-- Eight ids of a sparse set.
use native.Mathlib.Omega.{arith}
use Rattle.codec.proofs.Laws.Coded.{eight_ids}
use Rattle.codec.proofs.gaps.PresentCodedIds.next_eight.Goals as goal

pub returns : goal.returns
returns c = eight_ids c.args.set.colors.n c.args.set.ids.now c.args.c c.requires (omega arith) (omega (arith, c.if-set-c.false))
