use Rattle.replay.specs.Inside.{bufs_in, same_references}
use Rattle.replay.specs.Tape.{tape}
use Rattle.replay.proofs.Laws.Turns.{Turned}
use Rattle.replay.proofs.Buffers.all.Given as goal

abbrev pub invariant-loop-i : goal.invariant-loop-i
invariant-loop-i l = same_references l.self l.initial.self
    × Turned l.calls l.ids l.pieces
    (tape l.initial.s (bufs_in l.initial.self) l.initial.refusals l.initial.answers l.initial.shown)
    (tape l.s (bufs_in l.self) l.refusals l.answers l.shown)
    l.at
    l.i
