-- The page to read: each method meets its contract, whose right side is a step, and every list of steps after an accepted start keeps demand 3.
use Rattle.codec.specs.History.{FilesOneHistoryStatement}
use Rattle.codec.proofs.Laws.History.{files_one_history}
use Rattle.store.specs.Cycles.{CyclesStatement, OnlyCyclesStatement}
use Rattle.store.specs.Demand.{DemandStatement}
use Rattle.store.specs.Empty.{EmptySetStatement}
use Rattle.store.specs.History.{StoresOneHistoryStatement}
use Rattle.store.specs.Once.{ExactlyOnceStatement}
use Rattle.store.specs.Refusals.{RefusalsStatement}
use Rattle.store.specs.WhileOpen.{NeverTwelveStatement, WhileOpenStatement}
use Rattle.store.proofs.Laws.Empty.{empty_set_lem}
use Rattle.store.proofs.Laws.History.{stores_one_history}
use Rattle.store.proofs.Laws.Proved.{demand_3, once_each}
use Rattle.store.proofs.Laws.Cycles.{cycles_lem}
use Rattle.store.proofs.Laws.Refusals.{never_12, only_cycles, refusals}
use Rattle.store.proofs.Laws.WhileOpen.{while_open_lem}
use Rattle.store.proofs.state.Store.start.Statement as start-s
use Rattle.store.proofs.state.Store.start.Met as start-m
use Rattle.store.proofs.state.Store.add.Statement as add-s
use Rattle.store.proofs.state.Store.add.Met as add-m
use Rattle.store.proofs.state.Store.join.Statement as join-s
use Rattle.store.proofs.state.Store.join.Met as join-m
use Rattle.store.proofs.state.Store.close.Statement as close-s
use Rattle.store.proofs.state.Store.close.Met as close-m
use Rattle.store.proofs.state.Store.show.Statement as show-s
use Rattle.store.proofs.state.Store.show.Met as show-m

pub record Whole (M : Type 1) : Type 2 where
  -- the code: `start` is start_step, `add` add_step, `join` join_step, `close` close_step, `show` show_step
  pub start : start-s.statement M
  pub add : add-s.statement M
  pub join : join-s.statement M
  pub close : close-s.statement M
  pub show : show-s.statement M
  -- lists of such steps
  pub lists : DemandStatement
  pub once : ExactlyOnceStatement
  -- one file, one history: of record files, and of two stores of as many colours
  pub files : FilesOneHistoryStatement
  pub stores : StoresOneHistoryStatement
  -- the empty set: its add, its record and its show
  pub empty_set : EmptySetStatement
  -- sets filed while a unitig is open: their add, their record, and what joins name then
  pub while_open : WhileOpenStatement
  -- cycles, whose last vertex is their first: their close, what is filed and shown
  pub cycles : CyclesStatement
  -- a call that is refused is told a number that the specification names for it, and alters nothing; so that none is told 12, and a close as a cycle alone 16
  pub refusals : RefusalsStatement
  pub never_12 : NeverTwelveStatement
  pub only_cycles : OnlyCyclesStatement

pub whole : {M : Type 1} → Whole M
whole =
    record {
      start = start-m.met;
      add = add-m.met;
      join = join-m.met;
      close = close-m.met;
      show = show-m.met;
      lists = demand_3;
      once = once_each;
      files = files_one_history;
      stores = stores_one_history;
      empty_set = empty_set_lem;
      while_open = while_open_lem;
      cycles = cycles_lem;
      refusals = refusals;
      never_12 = never_12;
      only_cycles = only_cycles;
    }
