-- `runs::swap::swap_ends` meets its contract.
use Rattle.runs.specs.Words.{offset}
use Rattle.runs.specs.Inside.Swap.{Swapped}
use Rattle.runs.proofs.swap.swap_ends.Given as goal

abbrev pub invariant-loop-i : goal.invariant-loop-i
invariant-loop-i l = Swapped l.n l.fn.runs l.runs (offset l.behind) l.i
