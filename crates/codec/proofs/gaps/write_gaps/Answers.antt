-- `gaps::write_gaps` meets its contract.
use mathlib.Core.Path.{refl}
use mathlib.Core.List.{[]}
use Rattle.codec.proofs.Laws.Coded.{coding_start}
use Rattle.codec.proofs.Laws.Writers.{wrote_none}
use Rattle.codec.proofs.gaps.write_gaps.Goals as goal

pub loop-next-init : goal.loop-next-init
loop-next-init g c = let s = c.args.set in ([], coding_start g.C.CodedIds.dense s.colors.n s.ids.now s.within, wrote_none c.args.w.now, refl)
