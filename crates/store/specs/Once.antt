-- A corollary of section 7 of 01: whatever is repeated, lost or sent out of turn, where each number always comes with the same call.
use Rattle.std.specs.Prelude.{ℕ, zero, suc, ◌+◌, ◌≡◌, List, [], ◌∷◌, map}
use Rattle.base.specs.Answers.{done}
use Rattle.store.specs.Demand.{LentCall, accepted_from, showing, store_run, updating}
use Rattle.store.specs.Plain.{Update}
use Rattle.store.specs.Start.{start_step}
use Rattle.store.specs.State.{Bufs}
use Rattle.store.specs.declared.state.Store.{Store}

pub data Item : Type 0 where
  numbered_call : ℕ → Item
  show_call : ℕ → ℕ → List ℕ → Item

unfoldable pub item_call : (ℕ → Update) → Item → LentCall
item_call updates (numbered_call i) = updating i (updates i)
item_call updates (show_call unitig vertex out) = showing unitig vertex out

-- the calls from number i on, m of them
unfoldable pub updates_from : (ℕ → Update) → ℕ → ℕ → List Update
updates_from updates i zero = []
updates_from updates i (suc m) = updates i ∷ updates_from updates (i + 1) m

abbrev pub update_of : ℕ × Update → Update
update_of x = x.1

-- the accepted calls are those of the numbers 1 to m, each once and in order, where m is the last accepted number
abbrev pub ExactlyOnceStatement : Type 0
ExactlyOnceStatement =
    (N W : ℕ) (b b' : Bufs) (s : Store) → start_step N W b ≡ (done [], s, b') → (updates : ℕ → Update) (items : List Item)
    → map update_of (accepted_from 0 (map (item_call updates) items) (store_run s b' (map (item_call updates) items)).0)
    ≡ updates_from updates 1 (store_run s b' (map (item_call updates) items)).1.cell.number
