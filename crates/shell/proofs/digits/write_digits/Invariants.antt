-- The digits that are to be written, and behind them those that are, are the digits of the number.
use Rattle.std.proofs.Common.{◌≡◌, ◌++◌, length}
use lib.Seq.{slice}
use Rattle.shell.specs.Digits.{last_digits}
use Rattle.shell.proofs.digits.write_digits.Given as goal

abbrev pub invariant-loop-i : goal.invariant-loop-i
invariant-loop-i l = last_digits 10 l.i l.rest ++ slice l.i (length l.fn.out) l.out ≡ last_digits 10 (length l.fn.out) l.n
