-- `gaps::Checked::fill` meets its contract.
use lib.Seq.{length-take-le}
use Rattle.base.specs.Parts.{over}
use Rattle.codec.proofs.Laws.Gaps.{put_ids}
use Rattle.codec.proofs.gaps.Checked.fill.Goals as goal

pub returns-then-count-self : goal.returns-then-count-self
unfolding over
returns-then-count-self c =
    let s = c.args.self in
    rw (c.copy_front.ensures, length-take-le s.body.count c.args.out.now c.requires, ← s.kept s.accepted c.if-count-self.true, length-take-le s.body.count s.room.now c.if-count-self.true)

pub returns : goal.returns
returns c = put_ids _ _ _ c.args.out.now _ c.args.self.accepted c.read_gaps.ensures.1 c.requires
