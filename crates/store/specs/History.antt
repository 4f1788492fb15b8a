-- Request F-10, one file, one history, of two stores with the same colour count, whatever their workers, buffers and calls.
use Rattle.std.specs.Prelude.{ℕ, ◌≡◌, List, []}
use Rattle.base.specs.Answers.{done}
use Rattle.codec.specs.History.{OneHistory}
use Rattle.store.specs.Demand.{LentCall, Seen, accepted_from, record_file, sets_in, store_run}
use Rattle.store.specs.Start.{start_step}
use Rattle.store.specs.State.{Bufs}
use Rattle.store.specs.declared.state.Store.{Store}

-- a store of N colours, started over buffers that may hold anything, and the calls that it got since
pub record History (N : ℕ) : Type 0 where
  pub worker : ℕ
  pub lent : Bufs
  pub store : Store
  pub bufs : Bufs
  pub started : start_step N worker lent ≡ (done [], store, bufs)
  pub calls : List LentCall

abbrev pub ran : {N : ℕ} → History N → List Seen × Store × Bufs
ran h = store_run h.store h.bufs h.calls

-- its record file
abbrev pub record_bytes : {N : ℕ} → History N → List ℕ
record_bytes h = record_file (ran h).1.cell (ran h).2.cell

-- the sets that it accepted, in order
abbrev pub accepted_sets : {N : ℕ} → History N → List (List ℕ)
accepted_sets h = sets_in (accepted_from 0 h.calls (ran h).0)

-- the claim, of every two stores of as many colours
abbrev pub StoresOneHistoryStatement : Type 0
StoresOneHistoryStatement = (N : ℕ) (g h : History N) → OneHistory (record_bytes g) (record_bytes h) (accepted_sets g) (accepted_sets h)
