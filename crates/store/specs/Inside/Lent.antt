-- The lengths of the buffers lent to a call, as the definitions name them.
use Rattle.store.specs.Plain.{CellLengths, SharedLengths, Lengths}
use Rattle.store.specs.State.{cell_lengths, shared_lengths}
use Rattle.store.specs.declared.lengths.CellLengths as cell
use Rattle.store.specs.declared.lengths.SharedLengths as shared
use Rattle.store.specs.declared.lengths.Lengths as all

abbrev pub cell_lent : cell.CellLengths → CellLengths
cell_lent l = cell_lengths l.records l.index l.opened l.held

abbrev pub shared_lent : shared.SharedLengths → SharedLengths
shared_lent l = shared_lengths l.runs l.table

abbrev pub all_lent : all.Lengths → Lengths
all_lent l = record { cell = cell_lent l.cell; shared = shared_lent l.shared }
