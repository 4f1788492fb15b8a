-- Request F-1, a stretch that no strain carries: what becomes of the empty set, after any list of calls. It follows from demand 3 and the codec's promise.
use Rattle.std.specs.Prelude.{ℕ, ◌+◌, ◌*◌, ◌≡◌, Bool, false, ◌||◌, List, [], ◌∷◌, ◌++◌, map, length, ltb}
use Rattle.std.proofs.Math.Option.{some}
use Rattle.base.specs.Answers.{done}
use Rattle.base.specs.Tests.{◌when◌else◌}
use Rattle.codec.specs.Records.{file_of}
use Rattle.store.specs.Demand.{LentCall, Seen, accepted_from, as_seen, record_file, seen, sent, set_for, showing, store_run, store_step, updating}
use Rattle.store.specs.Plain.{Plain, Reply, Update, add, answer, coord_at, no_vertex, plain_fresh, plain_run, refusal}
use Rattle.store.specs.Start.{start_step}
use Rattle.store.specs.State.{Bufs, lengths_of}
use Rattle.store.specs.declared.state.Store.{Store}

-- the record file has no two bytes left, or no index entry is free
abbrev pub no_space_for_empty : Plain → Bool
no_space_for_empty p = ltb p.cell.lengths.records (length (file_of p.N p.cell.S) + 2) || ltb p.cell.lengths.index (length p.cell.S + 2)

-- what an add of the empty set with the next number is told: never 2
unfoldable pub empty_reply : Plain → Reply
empty_reply p =
    -- 3, the record doesn't fit the rest of the file, or no index entry is free
    refusal 3 when no_space_for_empty p else
    -- its coordinate
    answer (p.cell.W + 256 * length p.cell.S)

-- such an add
abbrev pub empty_add : Plain → LentCall
empty_add p = updating (p.cell.last + 1) (add [])

-- of the store, its buffers and the plain store after a list of calls, of which these were accepted
pub record EmptySet (p : Plain) (accepted : List (ℕ × Update)) (s : Store) (b : Bufs) : Type 0 where
  -- "Add takes the empty set from now on, .. and answers a coordinate"
  pub added : (store_step s b (empty_add p)).0 ≡ as_seen (empty_reply p) []
  -- "files 01 01": where it is not refused, behind what is filed
  pub filed :
      no_space_for_empty p ≡ false
      → record_file (store_step s b (empty_add p)).1.cell (store_step s b (empty_add p)).2.cell ≡ record_file s.cell b.cell ++ (0x01 ∷ 0x01 ∷ [])
  -- "show then gives zero ids": of a vertex that there is and for which it was sent; the output may have any length, and stays as it was
  pub shown :
      (unitig vertex : ℕ) (out : List ℕ) → no_vertex p unitig vertex ≡ false → set_for (coord_at p unitig vertex) accepted ≡ some []
      → (store_step s b (showing unitig vertex out)).0 ≡ seen (done (0 ∷ [])) out

-- by what a list of calls leaves: the plain store after it, the calls accepted in it, the store and its buffers
abbrev pub EmptySetAfter : (N W : ℕ) → Bufs → List LentCall → List Seen × Store × Bufs → Type 0
EmptySetAfter N W b calls r = EmptySet (plain_run (plain_fresh N W (lengths_of b)) (map sent calls)).1 (accepted_from 0 calls r.0) r.1 r.2

-- the claim: after an accepted start and every list of calls
abbrev pub EmptySetStatement : Type 0
EmptySetStatement =
    (N W : ℕ) (b b' : Bufs) (s : Store) → start_step N W b ≡ (done [], s, b') → (calls : List LentCall)
    → EmptySetAfter N W b calls (store_run s b' calls)
