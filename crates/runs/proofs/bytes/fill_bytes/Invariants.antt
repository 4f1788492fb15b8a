-- `runs::bytes::fill_bytes` meets its contract.
use Rattle.std.proofs.Common.{ℕ, ◌*◌, List, length}
use Rattle.codec.specs.Flat.{flat}
use Rattle.runs.specs.Bytes.{le_bytes}
use Rattle.runs.specs.Inside.Yields.{YieldsAll}
use Rattle.runs.proofs.Laws.Lists.{Filled}
use Rattle.runs.proofs.bytes.fill_bytes.Given as goal

abbrev pub invariant-loop-i : goal.invariant-loop-i
invariant-loop-i g l = (all : List ℕ) → YieldsAll g.I.Iterator.next_gives l.fn.runs all → Filled (flat (le_bytes 8) all) l.initial.out l.out (8 * length l.yielded)
