-- The digits read so far gave `value`; those left decide.
use Rattle.std.proofs.Common.{◌≡◌, ◌≤◌, drop}
use Rattle.shell.specs.Numbers.{decimal_of, number_from}
use Rattle.shell.proofs.numbers.number_to.Given as goal

abbrev pub invariant-loop-b : goal.invariant-loop-b
invariant-loop-b l = record { small : l.value ≤ l.most; same : decimal_of l.most l.text ≡ number_from l.most l.value (drop l.b-index l.text) }
