-- One history, of two stores: their record bytes are their accepted sets' records (demand 3), and record files tell their lists (codec).
use Prim.Native.Nat.{ℕ}
use mathlib.Core.Path.{◌≡◌}
use mathlib.Core.Bool.{false}
use Rattle.base.proofs.All.{All}
use Rattle.base.proofs.Bools.{or_none}
use Rattle.codec.specs.Records.{bad_colors, file_of}
use Rattle.codec.proofs.Promise.{IsSet, promise}
use Rattle.store.specs.History.{History, StoresOneHistoryStatement, accepted_sets, record_bytes}
use Rattle.store.specs.Start.{bad_limits}
use Rattle.store.proofs.Laws.Demand.{Began, began, each_set}
use Rattle.store.proofs.Laws.Proved.{demand_3}

module _ {N : ℕ} (h : History N) where
  start : Began N h.worker h.lent h.bufs h.store
  start = began N h.worker h.lent h.bufs h.store h.started

  colors : bad_colors N ≡ false
  unfolding bad_limits
  colors = (or_none (bad_colors N) _ start.limits).0

  file : record_bytes h ≡ file_of N (accepted_sets h)
  file = (demand_3 N h.worker h.lent h.bufs h.store h.started h.calls).records.file

  sets : All (IsSet N) (accepted_sets h)
  sets = rw (start.state, start.bufs) (each_set N h.worker h.lent start.limits start.lengths h.calls)

pub stores_one_history : StoresOneHistoryStatement
stores_one_history N g h = rw (file g, file h) (promise.history N (colors g) (accepted_sets g) (accepted_sets h) (sets g) (sets h))
