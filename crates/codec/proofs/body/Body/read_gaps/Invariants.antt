-- `body::Body::read_gaps` meets its contract. The loop's invariant: the ids up to the place are read.
use Prim.Native.Nat.{◌-◌}
use Rattle.std.specs.Prelude.{Some}
use Rattle.codec.specs.Inside.GapReader.{ReadOn}
use Rattle.codec.proofs.body.Body.read_gaps.Given as goal

abbrev pub invariant-loop-r : goal.invariant-loop-r
invariant-loop-r l = ReadOn 0 l.self (record { i = 0; from = 0; place = l.self.at }) l.fn.room l.room (Some l.r)

abbrev pub decreases-loop-r : goal.decreases-loop-r
decreases-loop-r l = l.self.count - l.r.i
