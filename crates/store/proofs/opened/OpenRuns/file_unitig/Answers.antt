use native.Mathlib.Omega.{arith}
use Rattle.runs.proofs.Laws.Orders.{sharp_vertices}
use Rattle.store.specs.State.{after, with_unitig}
use Rattle.store.proofs.Laws.Closing.{count_filed, count_open, second_number, filed_few, filed_full, filed_done, filed_small, filed_steady}
use Rattle.store.proofs.opened.OpenRuns.file_unitig.Goals as goal

pub filed_count-vertices-requires : goal.filed_count-vertices-requires
filed_count-vertices-requires c = let v = count_open _ _ c.in-Open.is in rw v (sharp_vertices _ _ c.requires.is_sharp)

pub file_runs-requires : goal.file_runs-requires
file_runs-requires c =
    let a = c.requires in
    let v = count_open _ _ c.in-Open.is in
    rw (c.filed_count-vertices.ensures, v) (filed_steady _ _ _ a.is_sharp, filed_few _ _ a.few, a.used_runs)

pub returns-in_default-file_runs : goal.returns-in_default-file_runs
returns-in_default-file_runs c = filed_full _ _ _ _ _ _ _ _ _ c.requires (count_filed _ _ _ _ c.in-Open.is c.filed_count-vertices.ensures) c.file_runs.ensures _ _ _ c.in_default-file_runs.is

pub bounds-table-unitigs-2 : goal.bounds-table-unitigs-2
bounds-table-unitigs-2 c = search (second_number)

pub overflow_add-closed : goal.overflow_add-closed
overflow_add-closed c = omega (arith, filed_small _ _ _ _ _ _ _ _ _ c.requires (count_filed _ _ _ _ c.in-Open.is c.filed_count-vertices.ensures) c.file_runs.ensures _ c.in-Ok.is)

pub overflow_add-closed-2 : goal.overflow_add-closed-2
overflow_add-closed-2 c = let a = c.requires in omega (arith, a.pair, a.small_table)

pub returns : goal.returns
unfolding after with_unitig
returns c = rw (c.from.ensures, c.from-place.ensures) (filed_done _ _ _ _ _ _ _ _ _ c.requires (count_filed _ _ _ _ c.in-Open.is c.filed_count-vertices.ensures) c.file_runs.ensures _ _ _ c.in-Ok.is)
