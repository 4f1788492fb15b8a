-- Section 7 of 01: the state and the buffers. What is lent to a call, what it answers, and the state after an accepted call.
use Rattle.std.specs.Prelude.{ℕ, List, [], ◌∷◌, ◌++◌, length, take, drop, Result, Ok, Err}
use Rattle.base.specs.Answers.{Answer, refused, done, number_of}
use Rattle.base.specs.Parts.{over}
use Rattle.base.specs.declared.Refusal.{Refusal}
use Rattle.store.specs.Plain.{CellLengths, SharedLengths, Lengths}
use Rattle.store.specs.declared.state.Extent.{Extent}
use Rattle.store.specs.declared.state.Current.{Current}
use Rattle.store.specs.declared.state.Last.{Last}
use Rattle.store.specs.declared.state.Cell.{Cell}
use Rattle.store.specs.declared.state.Shared.{Shared}
use Rattle.store.specs.declared.state.Store.{Store}

-- ---- what is lent to a call

-- a cell's: record file, index, open runs, held piece
pub record CellBufs : Type 0 where
  pub records : List ℕ
  pub index : List ℕ
  pub opened : List ℕ
  pub held : List ℕ

-- shared: run file, unitig table
pub record SharedBufs : Type 0 where
  pub runs : List ℕ
  pub table : List ℕ

pub record Bufs : Type 0 where
  pub cell : CellBufs
  pub shared : SharedBufs

abbrev pub cell_bufs : List ℕ → List ℕ → List ℕ → List ℕ → CellBufs
cell_bufs f i o h = record { records = f; index = i; opened = o; held = h }

-- with another record file and index; with other open runs and another held piece
abbrev pub with_records : CellBufs → List ℕ → List ℕ → CellBufs
with_records b f i = cell_bufs f i b.opened b.held

abbrev pub with_opened : CellBufs → List ℕ → List ℕ → CellBufs
with_opened b o h = cell_bufs b.records b.index o h

abbrev pub shared_bufs : List ℕ → List ℕ → SharedBufs
shared_bufs r t = record { runs = r; table = t }

abbrev pub bufs : List ℕ → List ℕ → List ℕ → List ℕ → List ℕ → List ℕ → Bufs
bufs f i o h r t = record { cell = cell_bufs f i o h; shared = shared_bufs r t }

-- how long they are
abbrev pub cell_lengths : ℕ → ℕ → ℕ → ℕ → CellLengths
cell_lengths f i o h = record { records = f; index = i; opened = o; held = h }

abbrev pub shared_lengths : ℕ → ℕ → SharedLengths
shared_lengths r t = record { runs = r; table = t }

abbrev pub lengths : ℕ → ℕ → ℕ → ℕ → ℕ → ℕ → Lengths
lengths f i o h r t = record { cell = cell_lengths f i o h; shared = shared_lengths r t }

abbrev pub cell_lengths_of : CellBufs → CellLengths
cell_lengths_of b = cell_lengths (length b.records) (length b.index) (length b.opened) (length b.held)

abbrev pub shared_lengths_of : SharedBufs → SharedLengths
shared_lengths_of b = shared_lengths (length b.runs) (length b.table)

abbrev pub lengths_of : Bufs → Lengths
lengths_of b = record { cell = cell_lengths_of b.cell; shared = shared_lengths_of b.shared }

-- what is written over a list from a place on
unfoldable pub put : ℕ → List ℕ → List ℕ → List ℕ
put at new old = take at old ++ over new (drop at old)

-- ---- what a call answers

-- in the numbers of 01
abbrev pub of_answer : Result ℕ Refusal → Answer
of_answer (Ok a) = done (a ∷ [])
of_answer (Err r) = refused (number_of r)

-- the answer of a call, and the state and the buffers that it leaves
abbrev pub Outcome : Type 0
Outcome = Answer × Store × Bufs

-- ---- the state after an accepted call

abbrev pub extent : ℕ → ℕ → Extent
extent length used = record { length = length; used = used }

-- a cell: what is used, the open unitig, and the call's number, the call and its answer
unfoldable pub after : Cell → (records sets opened held : ℕ) → Current → ℕ → Last → ℕ → Cell
after c records sets opened held current i last answer =
    record {
      worker = c.worker;
      records = extent c.records.length records;
      index = c.index;
      sets = sets;
      opened = extent c.opened.length opened;
      held = extent c.held.length held;
      current = current;
      number = i;
      last = last;
      answer = answer;
    }

-- the shared part: so many run bytes used, so many unitigs
unfoldable pub with_unitig : Shared → (used unitigs : ℕ) → Shared
with_unitig s used unitigs = record { runs = extent s.runs.length used; table = s.table; unitigs = unitigs }

abbrev pub with_parts : Store → Cell → Shared → Store
with_parts s c sh = record { colors = s.colors; cell = c; shared = sh }
