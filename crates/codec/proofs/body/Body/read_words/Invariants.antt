-- `body::Body::read_words` meets its contract. The loop's invariant: the ids up to the place are read.
use Prim.Native.Nat.{◌-◌}
use Rattle.std.specs.Prelude.{Some}
use Rattle.codec.specs.Inside.GapReader.{ReadOn}
use Rattle.codec.proofs.body.Body.read_words.Given as goal

abbrev pub invariant-loop-next : goal.invariant-loop-next
invariant-loop-next l = ReadOn 0 l.self (record { i = 0; from = 0; place = l.self.at }) l.initial.room l.room (Some l.r)

abbrev pub decreases-loop-next : goal.decreases-loop-next
decreases-loop-next l = l.self.count - l.r.i
