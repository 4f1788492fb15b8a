-- `bitmap::fill_row` meets its contract. The loop's invariant: the row's first j places are written.
use mathlib.Core.Path.{◌≡◌}
use mathlib.Core.List.{◌++◌}
use lib.ListN.{take}
use Rattle.base.specs.Parts.{over}
use Rattle.codec.specs.Bits.{low_bits}
use Rattle.codec.specs.Sets.{ids_of}
use Rattle.codec.proofs.Laws.Rows.{row}
use Rattle.codec.proofs.bitmap.fill_row.Given as goal

abbrev pub invariant-loop-j : goal.invariant-loop-j
invariant-loop-j l = l.out ≡ over (take l.k l.initial.out ++ row l.base (ids_of 0 (low_bits 4 l.four)) l.j) l.initial.out
