-- As many items as numbers were taken.
use Rattle.std.proofs.Common.{◌≡◌, vec_len}
use Rattle.cases.proofs.numbers.narrowed.Given as goal

abbrev pub invariant-loop-number : goal.invariant-loop-number
invariant-loop-number g l = vec_len l.items ≡ l.number-index
