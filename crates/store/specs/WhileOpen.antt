-- Request F-2, a set filed while a unitig is open: what an add is told and leaves, and what joins may name, after any list of calls; and that 12 is told of no call.
use Rattle.std.specs.Prelude.{ℕ, ◌+◌, ◌*◌, ◌/◌, ◌≡◌, Bool, true, false, not, List, [], ◌∷◌, ◌++◌, map, length, get_or}
use Rattle.std.proofs.Math.Option.{Option, none, some}
use Rattle.base.specs.Answers.{done, refused}
use Rattle.base.specs.Tests.{◌when◌else◌}
use Rattle.codec.specs.Records.{record_of}
use Rattle.runs.specs.Words.{coordinate}
use Rattle.store.specs.Demand.{LentCall, Seen, as_seen, record_file, seen, sent, store_run, store_step, updating}
use Rattle.store.specs.Plain.{Plain, PlainCell, Reply, Unitig, Update, add, answer, is_set, join, name_sets, no_space_for_set, plain_fresh, plain_run, plain_step, refusal}
use Rattle.store.specs.Start.{start_step}
use Rattle.store.specs.State.{Bufs, lengths_of}
use Rattle.store.specs.declared.state.Current.{Current}
use Rattle.store.specs.declared.state.Shared.{Shared}
use Rattle.store.specs.declared.state.Store.{Store}

-- ---- "Refusal 12 can no longer occur"

-- no call is told it, in whatever state and over whatever buffers
abbrev pub NeverTwelveStatement : Type 0
NeverTwelveStatement = (s : Store) (b : Bufs) (call : LentCall) → (store_step s b call).0.answer ≡ refused 12 → ⊥

-- ---- an add after a list of calls

-- the vertices of the open unitig, each by its coordinate
unfoldable pub open_coords : Option Unitig → List ℕ
open_coords none = []
open_coords (some u) = u.coords

-- each of these coordinates names a set on file; and the set that one names
abbrev pub on_file : PlainCell → List ℕ → Bool
on_file c coords = name_sets c.W (length c.S) coords

abbrev pub set_named : PlainCell → ℕ → List ℕ
set_named c coord = get_or c.S (coord / 256) []

-- the coordinate of the next set
abbrev pub next_coord : PlainCell → ℕ
next_coord c = c.W + 256 * length c.S

-- what an add of these ids with the next number is told, whether a unitig is open or not
unfoldable pub add_reply : Plain → List ℕ → Reply
add_reply p ids =
    -- 2, ids not strictly ascending or one not below N
    refusal 2 when not (is_set p.N ids) else
    -- 3, the record doesn't fit the rest of the file, or no index entry is free
    refusal 3 when no_space_for_set p.N p.cell ids else
    answer (next_coord p.cell)

-- a call with the next number
abbrev pub next_call : Plain → Update → LentCall
next_call p u = updating (p.cell.last + 1) u

-- an open unitig in state and buffers: its count, its runs and how many are used, the held piece likewise; and all that is closed
abbrev pub Unitigs : Type 0
Unitigs = Current × (ℕ × List ℕ) × (ℕ × List ℕ) × Shared × List ℕ × List ℕ

abbrev pub unitigs_in : Store → Bufs → Unitigs
unitigs_in s b = (s.cell.current, (s.cell.opened.used, b.cell.opened), (s.cell.held.used, b.cell.held), s.shared, b.shared.runs, b.shared.table)

-- of an add of these ids with the next number that is not refused: what was before it, and what it leaves
pub record FiledBetween (ids : List ℕ) (p : Plain) (s : Store) (b : Bufs) (p' : Plain) (s' : Store) (b' : Bufs) : Type 0 where
  -- "the set is filed immediately"
  pub file : record_file s'.cell b'.cell ≡ record_file s.cell b.cell ++ record_of p.N ids
  -- "joins that come later may name the new coordinate": it names a set on file, this one; and each older one names its own set
  pub new_named : on_file p'.cell (next_coord p.cell ∷ []) ≡ true
  pub new_set : set_named p'.cell (next_coord p.cell) ≡ ids
  pub old_sets : (coord : ℕ) → on_file p.cell (coord ∷ []) ≡ true → set_named p'.cell coord ≡ set_named p.cell coord
  -- a piece that could be joined before the add can be joined after it, with the same answer
  pub joins :
      (n : ℕ) (reversed : Bool) (piece : List ℕ) (count : ℕ) → (store_step s b (next_call p (join n reversed piece))).0 ≡ seen (done (count ∷ [])) []
      → (store_step s' b' (next_call p' (join n reversed piece))).0 ≡ seen (done (count ∷ [])) []
  -- the last call is the add: sent again it has the same answer, and whatever bears the number before it is out of sequence
  pub again : (store_step s' b' (next_call p (add ids))).0 ≡ (store_step s b (next_call p (add ids))).0
  pub overtaken : (u : Update) → (store_step s' b' (updating p.cell.last u)).0 ≡ seen (refused 10) []

-- of the store, its buffers and the plain store after a list of calls
pub record WhileOpen (p : Plain) (s : Store) (b : Bufs) : Type 0 where
  -- what an open unitig names stays named, however many sets are filed while it is open
  pub named : on_file p.cell (open_coords p.cell.current) ≡ true
  -- a join is never told 9 where its piece names sets on file, whenever they were filed
  pub may_name :
      (n : ℕ) (reversed : Bool) (piece : List ℕ) → on_file p.cell (map coordinate piece) ≡ true
      → (store_step s b (next_call p (join n reversed piece))).0.answer ≡ refused 9 → ⊥
  -- "Add is allowed then"
  pub added : (ids : List ℕ) → (store_step s b (next_call p (add ids))).0 ≡ as_seen (add_reply p ids) []
  -- "the open unitig is untouched", and so are the closed ones, by any add
  pub untouched : (i : ℕ) (ids : List ℕ) → unitigs_in (store_step s b (updating i (add ids))).1 (store_step s b (updating i (add ids))).2 ≡ unitigs_in s b
  pub filed :
      (ids : List ℕ) → is_set p.N ids ≡ true → no_space_for_set p.N p.cell ids ≡ false
      → FiledBetween ids p s b (plain_step p (sent (next_call p (add ids)))).1 (store_step s b (next_call p (add ids))).1 (store_step s b (next_call p (add ids))).2

-- by what a list of calls leaves: the plain store after it, the store and its buffers
abbrev pub WhileOpenAfter : (N W : ℕ) → Bufs → List LentCall → List Seen × Store × Bufs → Type 0
WhileOpenAfter N W b calls r = WhileOpen (plain_run (plain_fresh N W (lengths_of b)) (map sent calls)).1 r.1 r.2

-- the claim: after an accepted start and every list of calls
abbrev pub WhileOpenStatement : Type 0
WhileOpenStatement =
    (N W : ℕ) (b b' : Bufs) (s : Store) → start_step N W b ≡ (done [], s, b') → (calls : List LentCall)
    → WhileOpenAfter N W b calls (store_run s b' calls)
