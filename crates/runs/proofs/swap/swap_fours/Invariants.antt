-- `runs::swap::swap_fours` meets its contract.
use Rattle.std.proofs.Common.{◌*◌}
use Rattle.runs.specs.Words.{offset}
use Rattle.runs.specs.Inside.Swap.{Swapped}
use Rattle.runs.proofs.swap.swap_fours.Given as goal

abbrev pub invariant-loop-round : goal.invariant-loop-round
invariant-loop-round l = Swapped l.n l.fn.runs l.runs (offset l.behind) (4 * l.round)
